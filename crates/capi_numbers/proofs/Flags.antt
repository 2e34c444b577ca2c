-- A bool as a byte is its flag. Assumes nothing.
use mathlib.Core.Path.{◌≡◌, refl}
use mathlib.Core.Bool.{Bool, true, false}
use mir.Val.{bool_byte}
use Rattle.fields.specs.Choice.{when◌then◌else◌}
use Rattle.capi_numbers.specs.Numbers.{flag}

pub byte_is_flag : (b : Bool) → bool_byte b ≡ flag b
unfolding flag when◌then◌else◌
byte_is_flag true = refl
byte_is_flag false = refl
