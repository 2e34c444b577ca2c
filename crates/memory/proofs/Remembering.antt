-- What is remembered stays sound; what a delivery marks, and what no answer but 2, 9 and 10 changes. Assumes nothing.
use Prim.Native.Nat.{ℕ, ◌≤◌, ◌<◌}
use mathlib.Core.Path.{◌≡◌, refl, sym, ap, ◌∙◌}
use mathlib.Core.Bool.{Bool, true, false, false≢true}
use mathlib.Core.List.{List}
use native.Mathlib.Omega.{arith}
use borrow.Author.Tests.{le-leb, eq-eqb, ne_eqb, eqb-true}
use Rattle.fields.specs.Choice.{when◌then◌else◌, ◌is◌}
use Rattle.fields.proofs.Choices.{test_holds, test_fails, of_both, either_way, and_holds, both_hold}
use Rattle.answers.specs.Numbers.{delivered, pointer_beyond_rest, under3_bytes}
use Rattle.marks.specs.Marks.{no_marks, four_words, any_marked, marked}
use Rattle.marks.specs.declared.Marks.{Marks}
use Rattle.marks.proofs.Marking.{mark_law, with_mark_four, with_mark_any, none_marked, none_is_no_marks}
use Rattle.labels.specs.Label.{label_of, no_label}
use Rattle.labels.specs.declared.Label.{Label}
use Rattle.labels.proofs.Labels.{version_below_32, section_number_below_256}
use Rattle.memory.specs.declared.Form.{Form}
use Rattle.memory.specs.declared.Memory.{Memory}
use Rattle.memory.specs.Memory.{no_memory, may_remember, sound_memory, same_flag, agrees, repeats, marks_for, remembering, on_delivery, after_refusal, after_answer}

-- ---- sound memories

pub nothing_remembered_sound : (form : Form) → sound_memory form no_memory ≡ true
unfolding sound_memory agrees any_marked when◌then◌else◌
nothing_remembered_sound form = refl

pub four_words_lem : (form : Form) (memory : Memory) → sound_memory form memory ≡ true → four_words memory.marks ≡ true
unfolding sound_memory
four_words_lem form memory h = (and_holds _ _ h).0

pub marks_for_four : (memory : Memory) (label : Label) → four_words memory.marks ≡ true → four_words (marks_for memory label) ≡ true
unfolding marks_for
marks_for_four memory label four = of_both (λ (marks : Marks). four_words marks ≡ true) _ _ _ four refl

number_below_256 : (section : List ℕ) → (label_of section).section_number < 256
unfolding label_of
number_below_256 section = section_number_below_256 section

remembering_sound : (memory : Memory) (section : List ℕ) → four_words memory.marks ≡ true
    → sound_memory Form.Once (remembering memory (label_of section)) ≡ true
unfolding sound_memory label_of
remembering_sound memory section four =
    let marks = marks_for memory (label_of section) in
    let marks4 = marks_for_four memory (label_of section) four in
    let number = number_below_256 section in
    let below = version_below_32 section in
    let most : (label_of section).version ≤ 31 = omega arith in
    both_hold _ _ (with_mark_four marks marks4 _ number)
    (test_holds _ _ _ (with_mark_any marks marks4 _ number) ∙ le-leb _ _ most)

pub on_delivery_sound : (form : Form) (memory : Memory) (section : List ℕ) → sound_memory form memory ≡ true
    → sound_memory form (on_delivery form memory section) ≡ true
unfolding on_delivery
on_delivery_sound Form.Compact memory section h = h
on_delivery_sound Form.Full memory section h = h
on_delivery_sound Form.Once memory section h = remembering_sound memory section (four_words_lem Form.Once memory h)

pub after_refusal_sound : (form : Form) (n : ℕ) (memory : Memory) → sound_memory form memory ≡ true
    → sound_memory form (after_refusal n memory) ≡ true
after_refusal_sound form n memory h =
    of_both (λ (m : Memory). sound_memory form m ≡ true) _ _ _ (nothing_remembered_sound form) h

-- ---- four numbers that agree

pub record Agreeing (memory : Memory) (label : Label) : Type 0 where
  pub table_id : memory.table_id ≡ label.table_id
  pub id : memory.id ≡ label.id
  pub version : memory.version ≡ label.version
  pub current : memory.current_next_indicator ≡ label.current_next_indicator

same_flags : (flag other : Bool) → same_flag flag other ≡ true → flag ≡ other
unfolding when◌then◌else◌
same_flags true other h = sym h
same_flags false true h = absurd (false≢true h)
same_flags false false h = refl

same_as_itself : (flag : Bool) → same_flag flag flag ≡ true
unfolding when◌then◌else◌
same_as_itself true = refl
same_as_itself false = refl

pub agreeing : (memory : Memory) (label : Label) → agrees memory label ≡ true → Agreeing memory label
unfolding agrees
agreeing memory label h =
    let behind_table_id = and_holds _ _ h in
    let behind_id = and_holds _ _ behind_table_id.1 in
    let behind_version = and_holds _ _ behind_id.1 in
    record {
      table_id = eqb-true _ _ behind_table_id.0;
      id = eqb-true _ _ behind_id.0;
      version = eqb-true _ _ behind_version.0;
      current = same_flags _ _ behind_version.1;
    }

pub agrees_if : (memory : Memory) (label : Label) → Agreeing memory label → agrees memory label ≡ true
unfolding agrees
agrees_if memory label same =
    both_hold _ _ (eq-eqb _ _ same.table_id)
    (both_hold _ _ (eq-eqb _ _ same.id)
    (both_hold _ _ (eq-eqb _ _ same.version)
    (ap (λ (flag : Bool). same_flag flag label.current_next_indicator) same.current ∙ same_as_itself _)))

-- ---- no memory

-- four numbers that are 0, and four words
all_zero : (memory : Memory) → agrees memory no_label ≡ true → memory.marks ≡ no_marks → memory ≡ no_memory
all_zero memory h none =
    let same = agreeing memory no_label h in
    rw (same.table_id, same.id, same.version, same.current, none) refl

-- what remembers nothing refuses nothing
pub nothing_repeats : (form : Form) (bytes : List ℕ) → repeats form no_memory bytes ≡ false
unfolding repeats
nothing_repeats Form.Compact bytes = refl
nothing_repeats Form.Full bytes = refl
nothing_repeats Form.Once bytes =
    of_both (λ (b : Bool). b ≡ false) _ _ _ (none_marked (label_of bytes).section_number) refl

-- a form that may remember no version remembers nothing
pub nothing_where_none_may : (form : Form) → ((version : ℕ) → may_remember form version ≡ false) → (memory : Memory)
    → sound_memory form memory ≡ true → memory ≡ no_memory
unfolding sound_memory
nothing_where_none_may form never memory h =
    let parts = and_holds _ _ h in
    either_way _ _ _ _ parts.1 (λ some f. absurd (false≢true (sym (never memory.version) ∙ f)))
    (λ none f. all_zero memory f (none_is_no_marks memory.marks parts.0 none))

-- ---- what a delivery marks

marked_of_either : (same : Bool) (marks : Marks) (k : ℕ)
    → marked (when same then marks else no_marks) k ≡ (when same then marked marks k else false)
unfolding when◌then◌else◌
marked_of_either true marks k = refl
marked_of_either false marks k = none_marked k

pub marked_for : (memory : Memory) (label : Label) (k : ℕ)
    → marked (marks_for memory label) k ≡ (when agrees memory label then marked memory.marks k else false)
unfolding marks_for
marked_for memory label k = marked_of_either (agrees memory label) memory.marks k

-- its own number, and those that were marked with the same four
pub marked_on_delivery : (memory : Memory) (section : List ℕ) → four_words memory.marks ≡ true → (k : ℕ)
    → marked (on_delivery Form.Once memory section).marks k
    ≡ (when k is (label_of section).section_number then true else when agrees memory (label_of section) then marked memory.marks k
    else false)
unfolding on_delivery
marked_on_delivery memory section four k =
    let label = label_of section in
    mark_law (marks_for memory label) (marks_for_four memory label four) label.section_number (number_below_256 section) k
    ∙ ap (λ (before : Bool). when k is label.section_number then true else before) (marked_for memory label k)

-- ---- by the answer

-- an answer that is neither 2 nor 9 nor 10 leaves the memory as it was
pub memory_stays : (answer : ℕ) (form : Form) (memory : Memory) (section : List ℕ) → (answer ≡ delivered → ⊥)
    → (answer ≡ pointer_beyond_rest → ⊥) → (answer ≡ under3_bytes → ⊥) → after_answer answer form memory section ≡ memory
unfolding after_answer
memory_stays answer form memory section not2 not9 not10 =
    test_fails _ _ _ (ne_eqb _ _ not2) ∙ test_fails _ _ _ (ne_eqb _ _ not9) ∙ test_fails _ _ _ (ne_eqb _ _ not10)
