-- What demand 3 means at the desk. Assumes nothing.
use Prim.Native.Nat.{ℕ}
use mathlib.Core.Path.{◌≡◌, sym, ◌∙◌, subst}
use mathlib.Core.Bool.{true}
use mathlib.Core.List.{List, ◌∷◌, ◌++◌}
use lib.ListN.{length}
use Rattle.packet.specs.Payload.{payload_of}
use Rattle.memory.specs.declared.Form.{Form}
use Rattle.memory.specs.Memory.{no_memory}
use Rattle.gathering_rules.specs.Checks.{buffer_length}
use Rattle.reader.specs.Pointer.{unit_start}
use Rattle.reader.proofs.Keeping.{tail_keeps}
use Rattle.instep.specs.Seen.{seen_from_head, tail_behind}
use Rattle.reader.proofs.Forms.{tail_form}
use Rattle.instep.proofs.Forms.{history_kept, Forgetful, full, remembers_nothing}
use Rattle.instep.proofs.BackInStep.{back_in_step}

-- COMPACT and FULL remember nothing once a tail is worked
nothing_behind : (form : Form) → Forgetful form → (buffer : List ℕ) → length buffer ≡ buffer_length
    → (history : List (List ℕ)) (packet : List ℕ)
    → (tail_behind form buffer history packet).step.reader.memory ≡ no_memory
unfolding tail_behind
nothing_behind form forgets buffer lent history packet =
    let k = history_kept form buffer history lent in
    let t = tail_keeps _ packet _ k.sound_state k.lent in
    remembers_nothing _ (subst Forgetful (sym (tail_form _ packet _ ∙ k.formed)) forgets) t.sound_state

-- the state that a reader had before a line-up change cannot change what it delivers once a unit start came (COMPACT, FULL)
pub line_up_change : (form : Form) → Forgetful form → (buffer₁ buffer₂ : List ℕ) → length buffer₁ ≡ buffer_length → length buffer₂ ≡ buffer_length
    → (before₁ before₂ : List (List ℕ)) (packet : List ℕ) (packets : List (List ℕ)) → (payload_of packet).number ≡ 0
    → unit_start packet ≡ true
    → seen_from_head (tail_behind form buffer₁ before₁ packet) packet packets
    ≡ seen_from_head (tail_behind form buffer₂ before₂ packet) packet packets
line_up_change form forgets x y lx ly hx hy packet packets found unit =
    back_in_step form x y lx ly hx hy packet packets found unit
    (nothing_behind form forgets x lx hx packet ∙ sym (nothing_behind form forgets y ly hy packet))

-- one damaged packet costs no more than the sections that it touches and the one being gathered (FULL): two readers are fed alike but for one packet, which for
-- one of them is damaged in any way, or lost, or another; from the next packet in which a section starts on both see the same
pub one_damaged_packet : (buffer : List ℕ) → length buffer ≡ buffer_length → (before : List (List ℕ)) (good damaged : List ℕ)
    (between : List (List ℕ))
    (packet : List ℕ) (packets : List (List ℕ)) → (payload_of packet).number ≡ 0 → unit_start packet ≡ true
    → seen_from_head (tail_behind Form.Full buffer (before ++ good ∷ between) packet) packet packets
    ≡ seen_from_head (tail_behind Form.Full buffer (before ++ damaged ∷ between) packet) packet packets
one_damaged_packet buffer lent before good damaged between packet packets found unit =
    line_up_change Form.Full full buffer buffer lent lent (before ++ good ∷ between)
    (before ++ damaged ∷ between) packet packets found unit
