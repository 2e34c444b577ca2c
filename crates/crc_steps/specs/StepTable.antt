-- The rules of the tables that stand for many bit steps at once. `CRC_TABLE` has the first at eight, `NIBBLE_TABLES` the second.
-- Assumes nothing.
use Rattle.std.specs.Prelude.{◌≡◌, List, [], ℕ, ◌+◌, ◌-◌, ◌*◌, ◌^◌, ◌<◌, get_or}
use Rattle.crc_steps.specs.BitSteps.{bit_steps}

-- "eight bit steps on i placed in the top byte", for k bits
abbrev pub entry_of : ℕ → ℕ → ℕ
entry_of k i = bit_steps k (i * 2 ^ (32 - k))

-- "entry i is eight bit steps on i placed in the top byte", for k bits
pub record StepTable (k : ℕ) (table : List ℕ) : Type 0 where
  pub entry : (i : ℕ) → i < 2 ^ k → get_or table i 0 ≡ entry_of k i

-- what four bits i bring with j times four bits behind them: the bit steps of all these on i placed in the top four bits
abbrev pub nibble_entry : ℕ → ℕ → ℕ
nibble_entry j i = bit_steps ((j + 1) * 4) (i * 2 ^ 28)

-- sixteen tables, one for each four bits of 64: entry i of table j is that of i with j times four bits behind it
pub record NibbleTables (tables : List (List ℕ)) : Type 0 where
  pub entry : (j i : ℕ) → j < 16 → i < 16 → get_or (get_or tables j []) i 0 ≡ nibble_entry j i
