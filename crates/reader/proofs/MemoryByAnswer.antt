-- What a step remembers follows from its answer and the section that it delivered, and that section lies where the place says. Assumes nothing.
use Prim.Native.Nat.{ℕ, ◌+◌, ◌≤◌}
use mathlib.Core.Path.{◌≡◌, refl, sym, ap, ◌∙◌, subst}
use mathlib.Core.Bool.{Bool, true, false}
use mathlib.Core.List.{List}
use native.Mathlib.Omega.{arith}
use lib.ListN.{length, take, drop, length-drop}
use borrow.Author.Tests.{eqb-false, leb-true, not-false}
use Rattle.fields.specs.Choice.{when◌then◌else◌, ◌is◌}
use Rattle.fields.proofs.Choices.{of_both, of_either}
use Rattle.psi.specs.Header.{wanted}
use Rattle.memory.specs.declared.Form.{Form}
use Rattle.memory.specs.declared.Memory.{Memory}
use Rattle.memory.specs.Memory.{no_memory, on_delivery, after_refusal, after_answer}
use Rattle.memory.proofs.Remembering.{memory_stays}
use Rattle.memory_words.specs.Words.{memory_in}
use Rattle.gathering_rules.specs.Checks.{buffer_length, checked}
use Rattle.gathering_rules.specs.Start.{start_refusal}
use Rattle.gathering_rules.specs.Verdict.{verdict}
use Rattle.gathering_rules.proofs.Checking.{found_place}
use Rattle.gathering_rules.proofs.Answering.{verdict_is_one_of, start_refusal_is_one_of, checked_is_one_of}
use Rattle.delivered.specs.declared.Place.{Place}
use Rattle.reader.specs.declared.Reader.{Reader}
use Rattle.reader.specs.Outcome.{Step}
use Rattle.reader.specs.declared.Gathering.{Gathering}
use Rattle.reader.specs.Gathering.{GatheringStep}
use Rattle.reader.specs.State.{sound, gathering_of}
use Rattle.reader.specs.Outcome.{Outcome, outcome, nowhere, in_buffer, in_packet}
use Rattle.reader.specs.Checks.{from_a_place, from_the_payload}
use Rattle.reader.specs.Pointer.{target}
use Rattle.reader.specs.Whole.{whole}
use Rattle.reader.specs.Tail.{continued, tail_from, tail_of}
use Rattle.reader.specs.Head.{begun, started, head_from, head_of}
use Rattle.reader.specs.Gathering.{with_memory, Gathered, gathered, gathered_of, remembered}
use Rattle.reader.proofs.Soundness.{open_sound}

-- the bytes of a place: of the tail step's in the buffer, of the head step's in the packet
abbrev pub in_the_buffer : Place → List ℕ → List ℕ
in_the_buffer place buffer = take place.len buffer

abbrev pub in_the_packet : List ℕ → Place → List ℕ → List ℕ
in_the_packet packet place buffer = take place.len (drop place.start packet)

-- what a step remembers that before it remembered this, read the section there
pub record ByAnswer (memory : Memory) (read : Place → List ℕ → List ℕ) (left : Outcome) : Type 0 where
  pub follows : left.step.reader.memory
      ≡ after_answer left.step.answer left.step.reader.form memory (read left.step.place left.buffer)

-- the code's way to it: the step without its memory, and then the memory
remembered_step : (memory : Memory) (read : Place → List ℕ → List ℕ) (left : Outcome) (step : GatheringStep) (buffer : List ℕ)
    → gathered step buffer ≡ gathered_of left → ByAnswer memory read left
    → outcome (remembered memory step (read step.place buffer)) buffer ≡ left
remembered_step memory read left step buffer same by =
    ap (λ (g : Gathered). outcome (remembered memory g.step (read g.step.place g.buffer)) g.buffer) same
    ∙ ap
    (λ (after : Memory). outcome (record {
      reader = with_memory after (gathering_of left.step.reader);
      place = left.step.place;
      answer = left.step.answer;
    }) left.buffer)
    (sym by.follows)

-- ---- answers

-- one that is neither 2 nor 9 nor 10 leaves the memory
unchanged : (n : ℕ) (form : Form) (memory : Memory) (section : List ℕ) → (n is 2) ≡ false → (n is 9) ≡ false → (n is 10) ≡ false
    → memory ≡ after_answer n form memory section
unchanged n form memory section not2 not9 not10 =
    sym (memory_stays n form memory section (eqb-false n 2 not2) (eqb-false n 9 not9) (eqb-false n 10 not10))

forgotten_by_9 : (form : Form) (memory : Memory) (section : List ℕ) → no_memory ≡ after_answer 9 form memory section
unfolding after_answer when◌then◌else◌
forgotten_by_9 form memory section = refl

remembered_by_2 : (form : Form) (memory : Memory) (section : List ℕ) → on_delivery form memory section
    ≡ after_answer 2 form memory section
unfolding after_answer when◌then◌else◌
remembered_by_2 form memory section = refl

-- a verdict that is not 2 is 16 or 17
refused_verdict : (form : Form) (memory : Memory) (whole section : List ℕ) → (verdict form whole ≡ 2 → ⊥)
    → memory ≡ after_answer (verdict form whole) form memory section
refused_verdict form memory whole section not2 =
    sym (memory_stays (verdict form whole) form memory section not2
    (verdict_is_one_of (λ (n : ℕ). n ≡ 9 → ⊥) (eqb-false 2 9 refl) (eqb-false 16 9 refl) (eqb-false 17 9 refl) form whole)
    (verdict_is_one_of (λ (n : ℕ). n ≡ 10 → ⊥) (eqb-false 2 10 refl) (eqb-false 16 10 refl) (eqb-false 17 10 refl) form whole))

refused_start : (form : Form) (memory : Memory) (bytes section : List ℕ)
    → after_refusal (start_refusal form memory bytes) memory ≡ after_answer (start_refusal form memory bytes) form memory section
unfolding after_answer when◌then◌else◌
refused_start form memory bytes section =
    start_refusal_is_one_of (λ (n : ℕ). after_refusal n memory ≡ after_answer n form memory section) refl refl refl refl refl refl form
    memory bytes

refused_checks : (is_sound : Bool) (packet : List ℕ) (buffer : ℕ) (form : Form) (memory : Memory) (section : List ℕ)
    → memory ≡ after_answer (checked is_sound packet buffer).number form memory section
unfolding after_answer when◌then◌else◌
refused_checks is_sound packet buffer form memory section =
    checked_is_one_of (λ (n : ℕ). memory ≡ after_answer n form memory section) refl refl refl refl refl refl refl refl is_sound packet
    buffer

-- ---- the steps, from their ends to their starts

whole_by_answer : (read : Place → List ℕ → List ℕ) (form : Form) (memory : Memory) (place : Place) (section buffer : List ℕ)
    → read place buffer ≡ section
    → ByAnswer memory read (outcome (whole form memory place section) buffer)
unfolding whole
whole_by_answer read form memory place section buffer lies =
    of_either (λ (step : Step). ByAnswer memory read (outcome step buffer)) _ _ _
    (λ its. record { follows = ap (on_delivery form memory) (sym lies) ∙ remembered_by_2 form memory (read place buffer) })
    (λ other. record { follows = refused_verdict form memory section (read nowhere buffer) (eqb-false _ _ other) })

module _ (reader : Reader) (buffer : List ℕ) where
  abbrev InTail : Outcome → Type 0
  InTail left = ByAnswer reader.memory in_the_buffer left

  continued_by_answer : (bytes : List ℕ) → InTail (continued reader bytes buffer)
  unfolding continued
  continued_by_answer bytes =
      of_both InTail _ _ _ (record { follows = unchanged 15 reader.form reader.memory _ refl refl refl })
      (of_both InTail _ _ _ (record { follows = unchanged 1 reader.form reader.memory _ refl refl refl })
      (whole_by_answer in_the_buffer reader.form reader.memory (in_buffer reader.wanted) _ _ refl))

  tail_from_by_answer : (packet payload : List ℕ) → InTail (tail_from reader packet payload buffer)
  unfolding tail_from
  tail_from_by_answer packet payload =
      of_both InTail _ _ _ (continued_by_answer payload)
      (of_both InTail _ _ _ (record { follows = unchanged 0 reader.form reader.memory _ refl refl refl })
      (of_both InTail _ _ _ (record { follows = forgotten_by_9 reader.form reader.memory _ }) (continued_by_answer _)))

module _ (reader : Reader) (packet buffer : List ℕ) where
  abbrev InHead : Outcome → Type 0
  InHead left = ByAnswer reader.memory (in_the_packet packet) left

  begun_by_answer : (at : ℕ) → InHead (begun reader.form reader.memory (drop at packet) at buffer)
  unfolding begun
  begun_by_answer at =
      of_both InHead _ _ _ (whole_by_answer (in_the_packet packet) reader.form reader.memory (in_packet at _) _ buffer refl)
      (record { follows = unchanged 1 reader.form reader.memory _ refl refl refl })

  started_by_answer : (at : ℕ) → InHead (started reader.form reader.memory (drop at packet) at buffer)
  unfolding started
  started_by_answer at =
      of_both InHead _ _ _ (begun_by_answer at)
      (record { follows = refused_start reader.form reader.memory (drop at packet) _ })

  head_from_by_answer : (start : ℕ) → InHead (head_from reader packet start buffer)
  unfolding head_from
  head_from_by_answer start =
      of_both InHead _ _ _ (record { follows = unchanged 0 reader.form reader.memory _ refl refl refl })
      (of_both InHead _ _ _ (record { follows = forgotten_by_9 reader.form reader.memory _ }) (started_by_answer (target packet start)))

  from_the_payload_by_answer : (read : Place → List ℕ → List ℕ) (go_on : ℕ → Outcome)
      → ((start : ℕ) → ByAnswer reader.memory read (go_on start))
      → ByAnswer reader.memory read (from_the_payload reader packet buffer go_on)
  unfolding from_the_payload from_a_place
  from_the_payload_by_answer read go_on by =
      of_both (ByAnswer reader.memory read) _ _ _ (by _)
      (record { follows = refused_checks (sound reader) packet (length buffer) reader.form reader.memory _ })

  -- of any state, packet and buffer
  pub tail_by_answer : ByAnswer reader.memory in_the_buffer (tail_of reader packet buffer)
  unfolding tail_of
  tail_by_answer =
      from_the_payload_by_answer in_the_buffer _ (λ start. tail_from_by_answer reader buffer packet (drop start packet))

  pub head_by_answer : ByAnswer reader.memory (in_the_packet packet) (head_of reader packet buffer)
  unfolding head_of
  head_by_answer = from_the_payload_by_answer (in_the_packet packet) _ head_from_by_answer

-- ---- where a delivered section lies

whole_place : (P : Place → Type 0) (form : Form) (memory : Memory) (place : Place) (section : List ℕ) → P nowhere → P place
    → P (whole form memory place section).place
unfolding whole
whole_place P form memory place section none here = of_both (λ (step : Step). P step.place) _ _ _ here none

module _ (reader : Reader) (is_sound : sound reader ≡ true) (buffer : List ℕ) where
  abbrev FitsTheBuffer : Outcome → Type 0
  FitsTheBuffer left = left.step.place.len ≤ buffer_length

  continued_fits : (bytes : List ℕ) → FitsTheBuffer (continued reader bytes buffer)
  unfolding continued
  continued_fits bytes =
      of_either FitsTheBuffer _ _ _ (λ is_idle. omega arith)
      (λ is_open. of_both FitsTheBuffer _ _ _ (omega arith)
      (whole_place (λ (place : Place). place.len ≤ buffer_length) reader.form reader.memory (in_buffer reader.wanted) _
      (omega arith) (open_sound reader is_sound (not-false _ is_open)).fits))

  tail_from_fits : (packet payload : List ℕ) → FitsTheBuffer (tail_from reader packet payload buffer)
  unfolding tail_from
  tail_from_fits packet payload =
      of_both FitsTheBuffer _ _ _ (continued_fits payload)
      (of_both FitsTheBuffer _ _ _ (omega arith) (of_both FitsTheBuffer _ _ _ (omega arith) (continued_fits _)))

module _ (reader : Reader) (packet buffer : List ℕ) where
  abbrev FitsThePacket : Outcome → Type 0
  FitsThePacket left = left.step.place.start + left.step.place.len ≤ length packet

  begun_fits : (at : ℕ) → FitsThePacket (begun reader.form reader.memory (drop at packet) at buffer)
  unfolding begun
  begun_fits at =
      of_either FitsThePacket _ _ _
      (λ here.
      let enough : wanted (drop at packet) ≤ length (drop at packet) = leb-true _ _ here in
      whole_place (λ (place : Place). place.start + place.len ≤ length packet) reader.form reader.memory
      (in_packet at (wanted (drop at packet))) _ (omega arith) (omega (arith, enough, length-drop at packet)))
      (λ more. omega arith)

  started_fits : (at : ℕ) → FitsThePacket (started reader.form reader.memory (drop at packet) at buffer)
  unfolding started
  started_fits at = of_both FitsThePacket _ _ _ (begun_fits at) (omega arith)

  head_from_fits : (start : ℕ) → FitsThePacket (head_from reader packet start buffer)
  unfolding head_from
  head_from_fits start =
      of_both FitsThePacket _ _ _ (omega arith) (of_both FitsThePacket _ _ _ (omega arith) (started_fits (target packet start)))

  pub head_fits : FitsThePacket (head_of reader packet buffer)
  unfolding head_of from_the_payload from_a_place
  head_fits = of_both FitsThePacket _ _ _ (head_from_fits _) (omega arith)

pub tail_fits : (reader : Reader) (packet buffer : List ℕ) → (tail_of reader packet buffer).step.place.len ≤ length buffer
unfolding tail_of from_the_payload from_a_place
tail_fits reader packet buffer =
    of_either (λ (left : Outcome). left.step.place.len ≤ length buffer) _ _ _
    (λ found.
    let start = (checked (sound reader) packet (length buffer)).values in
    let p = found_place (sound reader) packet (length buffer) found in
    let fits = tail_from_fits reader p.sound_state buffer packet (drop start packet) in
    omega (arith, p.lent, fits))
    (λ refusal. omega arith)

-- ---- what the code finds of a step: the gathering's own, with the memory as words, and the bytes of its place

module _ (reader : Reader) (gathering : Gathering) (its : gathering ≡ gathering_of reader) (words : List ℕ)
    (lent : memory_in words ≡ reader.memory) (step : GatheringStep) (after : List ℕ) where
  same_reader : with_memory (memory_in words) gathering ≡ reader
  same_reader = ap (λ (m : Memory). with_memory m gathering) lent ∙ ap (with_memory reader.memory) its

  module _ (left : Reader → Outcome) (worked : gathered step after ≡ gathered_of (left (with_memory (memory_in words) gathering))) where
    pub worked_by_words : gathered step after ≡ gathered_of (left reader)
    worked_by_words = worked ∙ ap (λ (r : Reader). gathered_of (left r)) same_reader

  module _ (packet buffer : List ℕ) where
    pub tail_place_fits : gathered step after ≡ gathered_of (tail_of (with_memory (memory_in words) gathering) packet buffer)
        → step.place.len ≤ length buffer
    tail_place_fits worked =
        subst (λ (g : Gathered). g.step.place.len ≤ length buffer)
        (sym (worked_by_words (λ (r : Reader). tail_of r packet buffer) worked)) (tail_fits reader packet buffer)

    pub tail_remembered : gathered step after ≡ gathered_of (tail_of (with_memory (memory_in words) gathering) packet buffer)
        → outcome (remembered reader.memory step (take step.place.len after)) after ≡ tail_of reader packet buffer
    tail_remembered worked =
        remembered_step reader.memory in_the_buffer _ step after
        (worked_by_words (λ (r : Reader). tail_of r packet buffer) worked) (tail_by_answer reader packet buffer)

    pub head_place_fits : gathered step after ≡ gathered_of (head_of (with_memory (memory_in words) gathering) packet buffer)
        → step.place.start + step.place.len ≤ length packet
    head_place_fits worked =
        subst (λ (g : Gathered). g.step.place.start + g.step.place.len ≤ length packet)
        (sym (worked_by_words (λ (r : Reader). head_of r packet buffer) worked)) (head_fits reader packet buffer)

    pub head_remembered : gathered step after ≡ gathered_of (head_of (with_memory (memory_in words) gathering) packet buffer)
        → outcome (remembered reader.memory step (take step.place.len (drop step.place.start packet))) after
        ≡ head_of reader packet buffer
    head_remembered worked =
        remembered_step reader.memory (in_the_packet packet) _ step after
        (worked_by_words (λ (r : Reader). head_of r packet buffer) worked) (head_by_answer reader packet buffer)
