-- A state that C gives, with the memory that it lends: its parts, and a step on it, by whether it names a reader. Assumes nothing.
use Prim.Native.Nat.{ℕ, ◌+◌, ◌%◌, ◌≤◌}
use mathlib.Core.Path.{◌≡◌, sym, ap, ap₂, ◌∙◌, subst}
use mathlib.Core.Bool.{true, false}
use mathlib.Core.List.{List, [], ◌∷◌}
use native.Mathlib.Nat.{mod-eq_of_lt}
use native.Mathlib.Omega.{arith}
use borrow.Author.Tests.{eqb-true, leb-true, ltb-true, not-false}
use lib.ListN.{length}
use Rattle.fields.specs.Choice.{when◌then◌else◌, ◌is◌}
use Rattle.fields.proofs.Choices.{test_holds, test_fails, either_way, and_holds}
use Rattle.memory.specs.declared.Form.{Form}
use Rattle.memory.specs.declared.Memory.{Memory}
use Rattle.memory.specs.Memory.{after_answer}
use Rattle.memory_words.specs.Words.{memory_words, memory_in, written, words_after}
use Rattle.memory_words.proofs.Words.{InRange, words_remember, not_five_stay}
use Rattle.delivered.specs.declared.Place.{Place}
use Rattle.reader.specs.declared.Reader.{Reader}
use Rattle.reader.specs.declared.Gathering.{Gathering}
use Rattle.reader.specs.Gathering.{GatheringStep}
use Rattle.reader.specs.Outcome.{Outcome}
use Rattle.reader.specs.Gathering.{with_memory, Gathered, gathered, gathered_of}
use Rattle.reader.specs.Tail.{tail_of}
use Rattle.reader.specs.Head.{head_of}
use Rattle.reader.proofs.MemoryByAnswer.{ByAnswer, tail_fits, head_fits}
use Rattle.capi_gathering.specs.Gathering.{form_of, names_form, names_flag, names_memory, names_reader, gathering_from_c, reader_from_c}
use Rattle.capi_gathering.specs.Gathering.{outcome_for_c, OutcomeForC, gathering_step_for_c, refused_for_c, worked_for_c}
use Rattle.capi_gathering.specs.declared.JambpepperReader.{JambpepperReader}
use Rattle.capi_gathering.specs.declared.JambpepperStep.{JambpepperStep}

-- ---- its parts

-- a number that is 0 or 1 is its last bit
pub last_bit : (n : ℕ) → names_flag n ≡ true → (n % 2 is 1) ≡ (n is 1)
last_bit n h = ap (λ (m : ℕ). m is 1) (mod-eq_of_lt {n = n} {m = 2} (omega (arith, leb-true n 1 h)))

pub record Named (state : JambpepperReader) (words : List ℕ) : Type 0 where
  pub form : names_form state.form ≡ true
  pub is_open : names_flag state.is_open ≡ true
  pub memory : names_memory state.form words ≡ true

pub named_parts : (state : JambpepperReader) (words : List ℕ) → names_reader state words ≡ true → Named state words
unfolding names_reader
named_parts state words named =
    let behind_form = and_holds _ _ named in
    let behind_flag = and_holds _ _ behind_form.1 in
    record { form = behind_form.0; is_open = behind_flag.0; memory = (and_holds _ _ behind_flag.1).1 }

no_words_in_range : (words : List ℕ) → length words ≡ 0 → InRange words
no_words_in_range [] l = omega arith
no_words_in_range (first ∷ rest) l = absurd (let m = l in omega arith)

-- the words of a memory are no larger than its numbers
words_in_range : (form : ℕ) (words : List ℕ) → names_memory form words ≡ true → InRange words
unfolding names_memory
words_in_range form words named =
    either_way _ _ _ _ named (λ other none. no_words_in_range words (eqb-true _ _ none))
    (λ once five. ltb-true _ _ (and_holds _ _ five).1)

-- five words are lent in ONCE alone, so that what ONCE remembers is what the form does
words_of_its_form : (number : ℕ) (form : Form) → form ≡ form_of number → (words : List ℕ) → names_memory number words ≡ true
    → (answer : ℕ) (section : List ℕ)
    → words_after answer words section ≡ written (after_answer answer form (memory_in words) section) words
unfolding names_memory form_of when◌then◌else◌
words_of_its_form number form its words named answer section =
    words_remember answer words section (words_in_range number words named)
    ∙ either_way _ _ _ _ named
    (λ other none.
    let few : (length words ≡ memory_words → ⊥) = λ five. let empty = eqb-true (length words) 0 none in omega arith in
    not_five_stay _ _ words few ∙ sym (not_five_stay _ _ words few))
    (λ once five.
    let is_once : form ≡ Form.Once = its ∙ ap form_of (eqb-true number 2 (not-false _ once)) in
    ap (λ (f : Form). written (after_answer answer f (memory_in words) section) words) (sym is_once))

-- ---- a step

module _ (state : JambpepperReader) (words packet buffer : List ℕ) (gathering : Gathering) (its : gathering ≡ gathering_from_c state)
    (step : GatheringStep) (after : List ℕ) where
  -- the step of the gathering is the step of the reader that is named, but for the memory
  module _ (step_of : Reader → List ℕ → List ℕ → Outcome)
      (worked : gathered step after ≡ gathered_of (step_of (with_memory (memory_in words) gathering) packet buffer)) where
    worked_as_its : gathered step after ≡ gathered_of (step_of (reader_from_c state words) packet buffer)
    worked_as_its = worked ∙ ap (λ (g : Gathering). gathered_of (step_of (with_memory (memory_in words) g) packet buffer)) its

    -- it names one: what C is told is that reader's step, and the words are what it remembers then
    pub worked_as_named : names_reader state words ≡ true → (read : Place → List ℕ → List ℕ)
        → ByAnswer (memory_in words) read (step_of (reader_from_c state words) packet buffer)
        → (step_of (reader_from_c state words) packet buffer).step.reader.form ≡ form_of state.form
        → (told : JambpepperStep) → told ≡ gathering_step_for_c step
        → (words_then : List ℕ) → words_then ≡ words_after step.answer words (read step.place after)
        → outcome_for_c told words_then after ≡ worked_for_c step_of state words packet buffer
    unfolding worked_for_c
    worked_as_named named read by same_form told tells words_then remembers =
        let left = step_of (reader_from_c state words) packet buffer in
        let its_form = ap (λ (g : Gathered). g.step.gathering.form) worked_as_its ∙ same_form in
        ap₂ (λ (s : JambpepperStep) (w : List ℕ). outcome_for_c s w after) tells
        (remembers ∙ words_of_its_form state.form step.gathering.form its_form words (named_parts state words named).memory
        step.answer (read step.place after))
        ∙ ap tells_of worked_as_its
        ∙ ap (λ (m : Memory). outcome_for_c (gathering_step_for_c (gathered_of left).step) (written m words) left.buffer)
        (sym by.follows)
        ∙ sym (test_holds _ _ _ named)
      where
        tells_of : Gathered → OutcomeForC
        tells_of g =
            outcome_for_c (gathering_step_for_c g.step)
            (written (after_answer g.step.answer g.step.gathering.form (memory_in words) (read g.step.place g.buffer)) words)
            g.buffer

-- it names none: the checks' answer, and words and buffer as they were
pub refused_as_unnamed : (step_of : Reader → List ℕ → List ℕ → Outcome) (state : JambpepperReader) (words packet buffer : List ℕ)
    (told : JambpepperStep) → names_reader state words ≡ false → told ≡ refused_for_c state packet (length buffer)
    → outcome_for_c told words buffer ≡ worked_for_c step_of state words packet buffer
unfolding worked_for_c
refused_as_unnamed step_of state words packet buffer told unnamed tells =
    ap (λ (s : JambpepperStep). outcome_for_c s words buffer) tells ∙ sym (test_fails _ _ _ unnamed)

-- ---- what it delivers lies within what was lent

module _ (reader : Reader) (packet buffer : List ℕ) (step : GatheringStep) (after : List ℕ) where
  pub tail_section_fits : gathered step after ≡ gathered_of (tail_of reader packet buffer) → step.place.len ≤ length buffer
  tail_section_fits worked =
      subst (λ (g : Gathered). g.step.place.len ≤ length buffer) (sym worked) (tail_fits reader packet buffer)

  pub head_section_fits : gathered step after ≡ gathered_of (head_of reader packet buffer)
      → step.place.start + step.place.len ≤ length packet
  head_section_fits worked =
      subst (λ (g : Gathered). g.step.place.start + g.step.place.len ≤ length packet) (sym worked) (head_fits reader packet buffer)
