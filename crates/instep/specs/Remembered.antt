-- What is remembered, said from the steps of a run alone: their answers, and the sections that they delivered.
use Rattle.std.specs.Prelude.{ℕ, ◌≡◌, true, List, [], ◌∷◌, ◌++◌}
use Rattle.answers.specs.Numbers.{delivered, pointer_beyond_rest, under3_bytes}
use Rattle.marks.specs.Marks.{marked}
use Rattle.labels.specs.Label.{label_of}
use Rattle.labels.specs.declared.Label.{Label}
use Rattle.memory.specs.declared.Memory.{Memory}
use Rattle.instep.specs.Seen.{Seen}

-- steps none of which answers 9 or 10
unfoldable pub NoneForgets : List Seen → Type 0
NoneForgets [] = Unit {0}
NoneForgets (seen ∷ steps) =
    (seen.step.answer ≡ pointer_beyond_rest → ⊥) × (seen.step.answer ≡ under3_bytes → ⊥) × NoneForgets steps

-- steps none of which changes what is remembered: none answers 2, 9 or 10
unfoldable pub NoneRemembers : List Seen → Type 0
NoneRemembers [] = Unit {0}
NoneRemembers (seen ∷ steps) =
    (seen.step.answer ≡ delivered → ⊥) × (seen.step.answer ≡ pointer_beyond_rest → ⊥) × (seen.step.answer ≡ under3_bytes → ⊥)
    × NoneRemembers steps

-- a section with this label "was delivered since the last 9, 10 or fresh start"
pub record DeliveredSince (steps : List Seen) (label : Label) : Type 0 where
  pub before : List Seen
  pub delivery : Seen
  pub later : List Seen
  pub lies : steps ≡ before ++ delivery ∷ later
  pub delivers : delivery.step.answer ≡ delivered
  pub labelled : label_of delivery.section ≡ label
  pub since : NoneForgets later

-- the label of the section with this number of the table that is remembered: its four numbers are the memory's
abbrev pub label_in : Memory → ℕ → Label
label_in memory number =
    record {
      table_id = memory.table_id;
      id = memory.id;
      version = memory.version;
      current_next_indicator = memory.current_next_indicator;
      section_number = number;
    }

-- each number that is marked "was delivered since the last 9, 10 or fresh start", with the memory's four numbers
abbrev pub WereDelivered : List Seen → Memory → Type 0
WereDelivered steps memory = (number : ℕ) → marked memory.marks number ≡ true → DeliveredSince steps (label_in memory number)
