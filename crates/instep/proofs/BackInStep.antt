-- Demand 3, back in step. Assumes nothing.
use Prim.Native.Nat.{ℕ}
use mathlib.Core.Path.{◌≡◌, refl, sym, ap, ap₂, ◌∙◌, subst}
use mathlib.Core.Bool.{Bool, true}
use mathlib.Core.List.{List, [], ◌∷◌}
use lib.ListN.{length, take}
use Rattle.fields.specs.Choice.{when◌then◌else◌}
use Rattle.answers.specs.Says.{given}
use Rattle.packet.specs.Payload.{payload_of}
use Rattle.memory.specs.declared.Form.{Form}
use Rattle.gathering_rules.specs.Checks.{buffer_length, checked}
use Rattle.gathering_rules.proofs.Checking.{passed}
use Rattle.reader.specs.declared.Reader.{Reader}
use Rattle.reader.specs.Outcome.{Step}
use Rattle.reader.specs.State.{sound}
use Rattle.reader.specs.Outcome.{Outcome}
use Rattle.reader.specs.Pointer.{unit_start}
use Rattle.reader.specs.Tail.{tail_of}
use Rattle.reader.specs.Head.{head_from, head_of}
use Rattle.reader.specs.Run.{head_after}
use Rattle.reader.proofs.Checking.{goes_on}
use Rattle.reader.proofs.Keeping.{Keeps, tail_keeps, head_keeps}
use Rattle.instep.specs.Seen.{Seen, seen, seen_over, seen_from_head, tail_behind}
use Rattle.reader.proofs.Forms.{tail_form}
use Rattle.instep.proofs.Forms.{history_kept}
use Rattle.instep.proofs.Alike.{Alike, tail_alike, head_alike, head_from_unit_start_alike}

step_alike : (packet : List ℕ) (a b : Outcome) → Alike packet a b → a.step ≡ b.step
unfolding seen
step_alike packet a b h = ap (λ (s : Seen). s.step) h.seen_alike

-- readers of one state, whose buffers hold the same of what is open, see the same over these packets
abbrev AlikeOver : List (List ℕ) → Type 0
AlikeOver packets =
    (reader : Reader) (x y : List ℕ) → sound reader ≡ true → length x ≡ buffer_length → length y ≡ buffer_length
    → take reader.held x ≡ take reader.held y → seen_over reader x packets ≡ seen_over reader y packets

behind_alike : (packets : List (List ℕ)) → AlikeOver packets → (packet : List ℕ) (a b : Outcome) → Alike packet a b → Keeps a
    → Keeps b
    → seen_over a.step.reader a.buffer packets ≡ seen_over b.step.reader b.buffer packets
behind_alike packets over packet a b h k l =
    over a.step.reader a.buffer b.buffer k.sound_state k.lent l.lent h.held_alike
    ∙ ap (λ (step : Step). seen_over step.reader b.buffer packets) (step_alike packet a b h)

over_alike : (packets : List (List ℕ)) → AlikeOver packets
unfolding seen_over
over_alike [] reader x y s lx ly same = refl
over_alike (packet ∷ packets) reader x y s lx ly same =
    let t = tail_alike packet reader x y s lx ly same in
    let a = tail_of reader packet x in
    let b = tail_of reader packet y in
    let ka = tail_keeps reader packet x s lx in
    let kb = tail_keeps reader packet y s ly in
    let e : head_of a.step.reader packet b.buffer ≡ head_after packet b =
    ap (λ (step : Step). head_of step.reader packet b.buffer) (step_alike packet a b t) in
    let h : Alike packet (head_after packet a) (head_after packet b) =
    subst (λ (o : Outcome). Alike packet (head_after packet a) o) e
    (head_alike packet a.buffer b.buffer ka.lent kb.lent a.step.reader ka.sound_state t.held_alike) in
    let ha = head_keeps a.step.reader packet a.buffer ka.sound_state ka.lent in
    let hb = head_keeps b.step.reader packet b.buffer kb.sound_state kb.lent in
    ap₂ ◌∷◌ t.seen_alike (ap₂ ◌∷◌ h.seen_alike (behind_alike packets (over_alike packets) packet _ _ h ha hb))

-- where the payload is found, a sound state with 1,024 bytes goes on from it
pub place_of : (packet : List ℕ) → (payload_of packet).number ≡ 0 → (is_sound : Bool) (buffer : ℕ) → is_sound ≡ true → buffer ≡ buffer_length
    → given (payload_of packet).values ≡ checked is_sound packet buffer
unfolding checked payload_of when◌then◌else◌
place_of packet found is_sound buffer s l =
    rw (s, l) (ap (λ (n : ℕ). record { number = n; values = (payload_of packet).values }) (sym found))

-- "Two fresh readers of one form, each lent 1,024 bytes whatever they hold, each with its own history, any packets at all, each worked tail then head, the host
-- returning state and buffer untouched. Then both get the same packets, the first a sound one with a payload and a unit start. If both remember the" "same
-- memory" "once that packet's tail is worked, then from its new section on all answers, states and delivered bytes agree."
pub back_in_step : (form : Form) (buffer₁ buffer₂ : List ℕ) → length buffer₁ ≡ buffer_length → length buffer₂ ≡ buffer_length
    → (history₁ history₂ : List (List ℕ)) (packet : List ℕ) (packets : List (List ℕ))
    → (payload_of packet).number ≡ 0 → unit_start packet ≡ true
    → (tail_behind form buffer₁ history₁ packet).step.reader.memory
    ≡ (tail_behind form buffer₂ history₂ packet).step.reader.memory
    → seen_from_head (tail_behind form buffer₁ history₁ packet) packet packets
    ≡ seen_from_head (tail_behind form buffer₂ history₂ packet) packet packets
unfolding seen_from_head tail_behind head_of
back_in_step form x y lx ly hx hy packet packets found unit memories =
    let kx = history_kept form x hx lx in
    let ky = history_kept form y hy ly in
    let a = tail_behind form x hx packet in
    let b = tail_behind form y hy packet in
    let ta = tail_keeps _ packet _ kx.sound_state kx.lent in
    let tb = tail_keeps _ packet _ ky.sound_state ky.lent in
    let ha = head_keeps a.step.reader packet a.buffer ta.sound_state ta.lent in
    let hb = head_keeps b.step.reader packet b.buffer tb.sound_state tb.lent in
    let pa = place_of packet found (sound a.step.reader) (length a.buffer) ta.sound_state ta.lent in
    let pb = place_of packet found (sound b.step.reader) (length b.buffer) tb.sound_state tb.lent in
    let start = (payload_of packet).values in
    let from : Alike packet (head_from a.step.reader packet start a.buffer)
    (head_from b.step.reader packet start b.buffer) =
    head_from_unit_start_alike packet a.buffer b.buffer ta.lent tb.lent form b.step.reader.memory
    a.step.reader b.step.reader
    (tail_form _ packet _ ∙ kx.formed) (tail_form _ packet _ ∙ ky.formed) memories refl start
    (passed _ _ _ _ pa).sized unit in
    let h : Alike packet (head_after packet a) (head_after packet b) =
    subst (λ (o : Outcome). Alike packet o (head_after packet b))
    (sym (goes_on a.step.reader packet a.buffer (λ from. head_from a.step.reader packet from a.buffer) start pa))
    (subst (λ (o : Outcome). Alike packet (head_from a.step.reader packet start a.buffer) o)
    (sym (goes_on b.step.reader packet b.buffer (λ from. head_from b.step.reader packet from b.buffer) start pb))
    from) in
    ap₂ ◌∷◌ h.seen_alike (behind_alike packets (over_alike packets) packet _ _ h ha hb)
