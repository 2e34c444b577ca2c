-- A table's rule at each of its entries, from one test of the whole that antt computes: it is the table that the rule makes.
-- Assumes nothing.
use mathlib.Core.Path.{◌≡◌, sym, ap, ◌∙◌}
use mathlib.Core.List.{List, [], ◌∷◌}
use Prim.Native.Nat.{ℕ, zero, suc, ◌+◌, ◌^◌, ◌<◌}
use native.Mathlib.Nat.{add-zero, zero-add, add-suc, suc-add, le_of_suc-le-suc, not-suc-le-zero}
use lib.ListN.{get_or}
use Rattle.crc_steps.specs.StepTable.{entry_of, StepTable, nibble_entry, NibbleTables}

-- n entries by a rule, the first for the place i
abbrev pub listed : {A : Type 0} → (ℕ → A) → ℕ → ℕ → List A
listed rule i zero = []
listed rule i (suc n) = rule i ∷ listed rule (suc i) n

listed_from : {A : Type 0} (rule : ℕ → A) (other : A) (i n j : ℕ) → j < n → get_or (listed rule i n) j other ≡ rule (i + j)
listed_from rule other i zero j h = absurd (not-suc-le-zero h)
listed_from rule other i (suc n) zero h = ap rule (sym (add-zero i))
listed_from rule other i (suc n) (suc j) h =
    listed_from rule other (suc i) n j (le_of_suc-le-suc h) ∙ ap rule (suc-add i j ∙ sym (add-suc i j))

pub listed_at : {A : Type 0} (rule : ℕ → A) (other : A) (n i : ℕ) → i < n → get_or (listed rule 0 n) i other ≡ rule i
listed_at rule other n i h = listed_from rule other 0 n i h ∙ ap rule (zero-add i)

-- the test, and the rule that it gives
pub step_table : (k : ℕ) {table : List ℕ} → table ≡ listed (entry_of k) 0 (2 ^ k) → StepTable k table
step_table k test = record { entry = λ i h. ap (λ t. get_or t i 0) test ∙ listed_at (entry_of k) 0 (2 ^ k) i h }

pub nibble_tables : {tables : List (List ℕ)} → tables ≡ listed (λ j. listed (nibble_entry j) 0 16) 0 16 → NibbleTables tables
nibble_tables test =
    record {
      entry = λ j i hj hi. ap (λ t. get_or (get_or t j []) i 0) test
          ∙ ap (λ t. get_or t i 0) (listed_at (λ n. listed (nibble_entry n) 0 16) [] 16 j hj) ∙ listed_at (nibble_entry j) 0 16 i hi;
    }
