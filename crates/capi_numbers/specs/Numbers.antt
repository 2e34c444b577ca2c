-- The numbers that stand for a flag and for an answer in what C sees.
use Rattle.std.specs.Prelude.{ℕ, Bool}
use Rattle.fields.specs.Choice.{when◌then◌else◌}
use Rattle.answers.specs.Says.{Says}

-- 1 where it is set, else 0
unfoldable pub flag : Bool → ℕ
flag is_set = when is_set then 1 else 0

-- document 01's number of what is said; 0 where what was asked is there
abbrev pub answer_of : {Values : Type 0} → Says Values → ℕ
answer_of said = said.number
