-- A state that a C host was given and hands back untouched, with the words that it lends beside it, is the reader's own, so that all that is proved of a run of
-- the reader holds of a run through C. Assumes nothing.
use Prim.Native.Nat.{ℕ}
use mathlib.Core.Path.{◌≡◌, refl, sym, ap, ◌∙◌, subst}
use mathlib.Core.Bool.{Bool, true, false, not, true≢false}
use mathlib.Core.List.{List, [], ◌∷◌}
use native.Mathlib.Omega.{arith}
use borrow.Author.Tests.{eqb-true, eq-eqb, lt-ltb, not-true}
use lib.ListN.{length}
use Rattle.fields.specs.Choice.{when◌then◌else◌, ◌is◌}
use Rattle.fields.proofs.Choices.{test_holds, test_fails, of_both, either_way, and_holds, both_hold}
use Rattle.marks.proofs.Marking.{with_mark_four}
use Rattle.labels.specs.Label.{label_of}
use Rattle.labels.proofs.Labels.{table_id_below_256, id_below_65536, version_below_32, section_number_below_256}
use Rattle.memory.specs.declared.Form.{Form}
use Rattle.memory.specs.declared.Memory.{Memory}
use Rattle.memory.specs.Memory.{no_memory, marks_for, on_delivery, after_answer}
use Rattle.memory.proofs.Remembering.{marks_for_four}
use Rattle.memory_words.specs.Words.{memory_words, words_of, memory_in, put, written}
use Rattle.memory_words.proofs.Words.{Fits, none_fits, memory_again, memory_in_fits, numbers_fit}
use Rattle.delivered.specs.declared.Place.{Place}
use Rattle.reader.specs.declared.Reader.{Reader}
use Rattle.reader.specs.State.{fresh}
use Rattle.reader.specs.Outcome.{Outcome}
use Rattle.reader.specs.Tail.{tail_of}
use Rattle.reader.specs.Head.{head_of}
use Rattle.reader.proofs.Forms.{tail_form, head_form}
use Rattle.reader.proofs.MemoryByAnswer.{ByAnswer, in_the_buffer, in_the_packet, tail_by_answer, head_by_answer}
use Rattle.capi_numbers.specs.Numbers.{flag}
use Rattle.capi_gathering.specs.Gathering.{form_number, form_of, names_form, names_flag, names_memory, names_reader, reader_for_c, reader_from_c, fresh_for_c}
use Rattle.capi_gathering.specs.Gathering.{told_to_c, worked_for_c}

-- ---- number by number

form_again : (form : Form) → form_of (form_number form) ≡ form
unfolding form_of when◌then◌else◌
form_again Form.Compact = refl
form_again Form.Full = refl
form_again Form.Once = refl

form_is_named : (form : Form) → names_form (form_number form) ≡ true
form_is_named Form.Compact = refl
form_is_named Form.Full = refl
form_is_named Form.Once = refl

flag_again : (is_set : Bool) → (flag is_set is 1) ≡ is_set
unfolding flag when◌then◌else◌
flag_again true = refl
flag_again false = refl

flag_is_named : (is_set : Bool) → names_flag (flag is_set) ≡ true
unfolding flag when◌then◌else◌
flag_is_named true = refl
flag_is_named false = refl

-- ---- the state, and the words beside it

-- words that say what the reader remembers, and are as many as its form needs
pub record Beside (reader : Reader) (words : List ℕ) : Type 0 where
  pub again : memory_in words ≡ reader.memory
  pub named : names_memory (form_number reader.form) words ≡ true

-- a fresh state is the reader's: no words beside it, or in ONCE five that are 0
pub fresh_as_the_readers : (form : Form) → fresh_for_c (form_number form) ≡ reader_for_c (fresh form)
unfolding flag when◌then◌else◌
fresh_as_the_readers form = refl

pub fresh_beside : Beside (fresh Form.Compact) [] × Beside (fresh Form.Full) [] × Beside (fresh Form.Once) (0 ∷ 0 ∷ 0 ∷ 0 ∷ 0 ∷ [])
unfolding memory_in names_memory when◌then◌else◌
fresh_beside =
    (record { again = refl; named = refl }, record { again = refl; named = refl }, record { again = refl; named = refl })

pub state_again : (reader : Reader) (words : List ℕ) → Beside reader words → reader_from_c (reader_for_c reader) words ≡ reader
state_again reader words beside = simp (form_again, flag_again, beside.again)

pub state_is_named : (reader : Reader) (words : List ℕ) → Beside reader words → names_reader (reader_for_c reader) words ≡ true
unfolding names_reader
state_is_named reader words beside =
    both_hold _ _ (form_is_named reader.form) (both_hold _ _ (flag_is_named reader.is_open) (both_hold _ _ refl beside.named))

-- ---- a step

-- either step, on the state as it was handed out: the reader's own step
pub worked_as_the_readers : (step_of : Reader → List ℕ → List ℕ → Outcome) (reader : Reader) (words packet buffer : List ℕ)
    → Beside reader words
    → worked_for_c step_of (reader_for_c reader) words packet buffer ≡ told_to_c words (step_of reader packet buffer)
unfolding worked_for_c
worked_as_the_readers step_of reader words packet buffer beside =
    test_holds _ _ _ (state_is_named reader words beside)
    ∙ ap (λ (r : Reader). told_to_c words (step_of r packet buffer)) (state_again reader words beside)

-- ---- and the words after it lie beside the state after it

delivery_fits : (memory : Memory) (section : List ℕ) → Fits memory → Fits (on_delivery Form.Once memory section)
unfolding on_delivery label_of
delivery_fits memory section fits =
    let label = label_of section in
    let version = version_below_32 section in
    record {
      byte = table_id_below_256 section;
      bytes = id_below_65536 section;
      version = omega arith;
      four = eqb-true _ _
          (with_mark_four (marks_for memory label) (marks_for_four memory label (eq-eqb _ _ fits.four)) _
          (section_number_below_256 section));
    }

on_delivery_fits : (form : Form) (memory : Memory) (section : List ℕ) → Fits memory → Fits (on_delivery form memory section)
unfolding on_delivery
on_delivery_fits Form.Compact memory section fits = fits
on_delivery_fits Form.Full memory section fits = fits
on_delivery_fits Form.Once memory section fits = delivery_fits memory section fits

answer_fits : (answer : ℕ) (form : Form) (memory : Memory) (section : List ℕ) → Fits memory → Fits (after_answer answer form memory section)
unfolding after_answer
answer_fits answer form memory section fits =
    of_both Fits _ _ _ (on_delivery_fits form memory section fits) (of_both Fits _ _ _ none_fits (of_both Fits _ _ _ none_fits fits))

-- a form that lends no words remembers nothing after a step either
delivery_of_none : (form : Form) (section : List ℕ) → (form_number form is 2) ≡ false → on_delivery form no_memory section ≡ no_memory
unfolding on_delivery
delivery_of_none Form.Compact section other = refl
delivery_of_none Form.Full section other = refl
delivery_of_none Form.Once section other = absurd (true≢false other)

answer_none : (answer : ℕ) (form : Form) (section : List ℕ) → (form_number form is 2) ≡ false
    → after_answer answer form no_memory section ≡ no_memory
unfolding after_answer
answer_none answer form section other =
    of_both (λ (m : Memory). m ≡ no_memory) _ _ _ (delivery_of_none form section other)
    (of_both (λ (m : Memory). m ≡ no_memory) _ _ _ refl (of_both (λ (m : Memory). m ≡ no_memory) _ _ _ refl refl))

no_words : (words : List ℕ) → length words ≡ 0 → ((memory : Memory) → written memory words ≡ words) × (memory_in words ≡ no_memory)
unfolding put memory_in when◌then◌else◌
no_words [] l = (λ memory. refl, refl)
no_words (first ∷ rest) l = absurd (let m = l in omega arith)

five_words : (memory : Memory) (words : List ℕ) → length words ≡ memory_words → written memory words ≡ words_of memory
unfolding put
five_words memory words l = test_holds _ _ _ (eq-eqb _ _ l)

module _ (reader : Reader) (words : List ℕ) (beside : Beside reader words) (read : Place → List ℕ → List ℕ) (left : Outcome)
    (by : ByAnswer reader.memory read left) (same_form : left.step.reader.form ≡ reader.form) where
  after_fits : Fits left.step.reader.memory
  after_fits =
      subst Fits (sym by.follows) (answer_fits _ _ _ _ (subst Fits beside.again (memory_in_fits words)))

  step_beside : Beside left.step.reader (written left.step.reader.memory words)
  unfolding names_memory
  step_beside =
      let memory = left.step.reader.memory in
      either_way _ _ _ _ beside.named
      (λ other none.
      let empty = no_words words (eqb-true _ _ none) in
      let other_form = not-true _ other in
      let nothing : memory ≡ no_memory = by.follows
      ∙ ap (λ (m : Memory). after_answer left.step.answer left.step.reader.form m (read left.step.place left.buffer))
      (sym beside.again ∙ empty.1)
      ∙ answer_none left.step.answer left.step.reader.form _ (ap (λ (f : Form). form_number f is 2) same_form ∙ other_form) in
      subst (Beside left.step.reader) (sym (empty.0 memory))
      (record {
        again = empty.1 ∙ sym nothing;
        named = ap (λ (f : Form). names_memory (form_number f) words) same_form ∙ beside.named;
      }))
      (λ is_once five.
      let l = eqb-true _ _ (and_holds _ _ five).0 in
      subst (Beside left.step.reader) (sym (five_words memory words l))
      (record {
        again = memory_again memory after_fits;
        named = test_fails _ _ _ (ap (λ (f : Form). not (form_number f is 2)) same_form ∙ is_once)
            ∙ both_hold _ _ refl (lt-ltb _ _ (numbers_fit memory after_fits));
      }))

-- what a step tells C lies beside the state that it tells
pub tail_beside : (reader : Reader) (words packet buffer : List ℕ) → Beside reader words
    → (let left = tail_of reader packet buffer in Beside left.step.reader (written left.step.reader.memory words))
tail_beside reader words packet buffer beside =
    step_beside reader words beside in_the_buffer _ (tail_by_answer reader packet buffer) (tail_form reader packet buffer)

pub head_beside : (reader : Reader) (words packet buffer : List ℕ) → Beside reader words
    → (let left = head_of reader packet buffer in Beside left.step.reader (written left.step.reader.memory words))
head_beside reader words packet buffer beside =
    step_beside reader words beside (in_the_packet packet) _ (head_by_answer reader packet buffer) (head_form reader packet buffer)
