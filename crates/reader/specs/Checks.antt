-- How both steps go on from what they test first.
use Rattle.std.specs.Prelude.{ℕ, List, length}
use Rattle.fields.specs.Choice.{when◌then◌else◌, ◌is◌}
use Rattle.answers.specs.Says.{Says}
use Rattle.gathering_rules.specs.Checks.{checked}
use Rattle.reader.specs.declared.Reader.{Reader}
use Rattle.reader.specs.State.{sound}
use Rattle.reader.specs.Outcome.{Outcome, outcome, answered}

-- "both gathering steps go on only from a place"; a refusal here leaves state and buffer the same
unfoldable pub from_a_place : Says ℕ → Reader → List ℕ → (ℕ → Outcome) → Outcome
from_a_place payload reader buffer go_on =
    when payload.number is 0 then go_on payload.values
    else outcome (answered payload.number reader) buffer

unfoldable pub from_the_payload : Reader → List ℕ → List ℕ → (ℕ → Outcome) → Outcome
from_the_payload reader packet buffer go_on = from_a_place (checked (sound reader) packet (length buffer)) reader buffer go_on
