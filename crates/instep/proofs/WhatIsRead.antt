-- Packets that differ in counter, error bit, priority, scrambling or PID alone are answered alike. Assumes nothing.
use Prim.Native.Nat.{ℕ, ◌+◌, ◌-◌, ◌≤◌}
use mathlib.Core.Path.{◌≡◌, refl, sym, ap, ◌∙◌}
use mathlib.Core.Bool.{Bool, true, false}
use mathlib.Core.List.{List}
use native.Mathlib.Omega.{arith}
use lib.ListN.{length, drop}
use lib.Seq.{drop-drop}
use borrow.Author.Tests.{eqb-true}
use Rattle.fields.specs.Choice.{when◌then◌else◌, ◌is◌}
use Rattle.fields.proofs.Choices.{second_chosen, either_way}
use Rattle.answers.specs.Says.{Says, given}
use Rattle.answers.specs.declared.Refusal.{Refusal}
use Rattle.answers.proofs.Saying.{same_values, given_is_not_refused}
use Rattle.packet.specs.Header.{of_a_packet}
use Rattle.packet.specs.Payload.{starting_at, payload_behind}
use Rattle.gathering_rules.specs.Checks.{checked}
use Rattle.reader.specs.declared.Reader.{Reader}
use Rattle.reader.specs.State.{sound}
use Rattle.reader.specs.Outcome.{Outcome}
use Rattle.reader.specs.Checks.{from_a_place, from_the_payload}
use Rattle.reader.specs.Pointer.{pointer}
use Rattle.reader.specs.Tail.{tail_from, tail_of}
use Rattle.reader.specs.Head.{head_from, head_of}
use Rattle.instep.specs.Read.{ReadAlike}

-- ---- a payload starts behind the header

starts_at : (n start : ℕ) → starting_at n ≡ given start → n ≡ start
unfolding starting_at
starts_at n start e =
    let not_at = second_chosen _ _ _ _ e (λ f. given_is_not_refused Refusal.PayloadEmpty (sym f)) in
    let not_above = second_chosen _ _ _ _ not_at.1 (λ f. given_is_not_refused Refusal.PayloadBeyond (sym f)) in
    same_values not_above.1

payload_behind_header : (packet : List ℕ) (start : ℕ) → payload_behind packet ≡ given start → 4 ≤ start
unfolding payload_behind
payload_behind_header packet start e =
    either_way _ _ _ _ e (λ only f. let s = starts_at 4 start f in omega arith)
    (λ others f. either_way _ _ _ _ f (λ both g. let s = starts_at _ start g in omega (arith, s))
    (λ none g. absurd (given_is_not_refused Refusal.NoPayload (sym g))))

place_behind_header : (is_sound : Bool) (packet : List ℕ) (buffer : ℕ) → ((checked is_sound packet buffer).number is 0) ≡ true
    → 4 ≤ (checked is_sound packet buffer).values
unfolding checked of_a_packet
place_behind_header is_sound packet buffer found =
    let place = checked is_sound packet buffer in
    let e : given place.values ≡ place = ap (λ (n : ℕ). record { number = n; values = place.values }) (sym (eqb-true _ _ found)) in
    let size = second_chosen _ _ _ _ (sym e) (λ f. given_is_not_refused Refusal.PacketSize (sym f)) in
    let sync = second_chosen _ _ _ _ size.1 (λ f. given_is_not_refused Refusal.NoSyncByte (sym f)) in
    let lent = second_chosen _ _ _ _ sync.1 (λ f. given_is_not_refused Refusal.BufferSize (sym f)) in
    let state = second_chosen _ _ _ _ lent.1 (λ f. given_is_not_refused Refusal.StateNotSound (sym f)) in
    payload_behind_header packet place.values state.1

-- ---- two packets

same_choice : {A : Type 0} (t : Bool) (a b c : A) → (t ≡ true → a ≡ b) → (when t then a else c) ≡ (when t then b else c)
unfolding when◌then◌else◌
same_choice true a b c f = f refl
same_choice false a b c f = refl

module _ (packet other : List ℕ) (alike : ReadAlike packet other) where
  same_place : (is_sound : Bool) (buffer : ℕ) → checked is_sound packet buffer ≡ checked is_sound other buffer
  unfolding checked of_a_packet payload_behind
  same_place is_sound buffer = simp (alike.sizes, alike.sync, alike.control, alike.behind)

  same_behind : (start : ℕ) → 4 ≤ start → drop start packet ≡ drop start other
  same_behind start h =
      let e : 4 + (start - 4) ≡ start = omega arith in
      ap (λ (n : ℕ). drop n packet) (sym e) ∙ sym (drop-drop (start - 4) 4 packet) ∙ ap (drop (start - 4)) alike.behind
      ∙ drop-drop (start - 4) 4 other ∙ ap (λ (n : ℕ). drop n other) e

  from_the_same_payload : (reader : Reader) (buffer : List ℕ) (f g : ℕ → Outcome) → ((start : ℕ) → 4 ≤ start → f start ≡ g start)
      → from_the_payload reader packet buffer f ≡ from_the_payload reader other buffer g
  unfolding from_the_payload from_a_place
  from_the_same_payload reader buffer f g each =
      same_choice _ _ _ _ (λ found. each _ (place_behind_header _ packet _ found))
      ∙ ap (λ (place : Says ℕ). from_a_place place reader buffer g) (same_place (sound reader) (length buffer))

  -- "Gathering reads neither counter, error bit, scrambling nor PID"
  pub tail_reads_no_more : (reader : Reader) (buffer : List ℕ) → tail_of reader packet buffer ≡ tail_of reader other buffer
  unfolding tail_of tail_from
  tail_reads_no_more reader buffer =
      from_the_same_payload reader buffer _ _ (λ start h. simp (alike.unit, same_behind start h))

  pub head_reads_no_more : (reader : Reader) (buffer : List ℕ) → head_of reader packet buffer ≡ head_of reader other buffer
  unfolding head_of head_from
  head_reads_no_more reader buffer =
      from_the_same_payload reader buffer _ _
      (λ start h.
      let target : 4 ≤ start + 1 + pointer (drop start other) = omega arith in
      simp (alike.unit, same_behind start h, same_behind (start + 1 + pointer (drop start other)) target))
