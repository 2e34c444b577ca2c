-- The continuity counter: document 01, "A counter follows another if it is one more modulo 16; with a number above 15 on either side the port
-- answers no".
use Rattle.std.specs.Prelude.{ℕ, ◌+◌, ◌%◌, Bool, false}
use Rattle.fields.specs.Choice.{when◌then◌else◌, ◌is◌, ◌is_above◌}

unfoldable pub follows_of : ℕ → ℕ → Bool
follows_of counter other =
    when counter is_above 15 then false
    else when other is_above 15 then false
    else counter is (other + 1) % 16
