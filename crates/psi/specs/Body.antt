-- The body of a section: document 01, "Sections, CRC, PAT, PMT".
use Rattle.std.specs.Prelude.{ℕ, ◌-◌, List, length, Result}
use Rattle.fields.specs.Choice.{when◌then◌else◌, ◌is_below◌}
use Rattle.answers.specs.Numbers.{section_under12}
use Rattle.answers.specs.Says.{Says, given, refused, says}
use Rattle.answers.specs.declared.Refusal.{Refusal}
use Rattle.psi.specs.Place.{from_up_to, no_place}
use Rattle.psi.specs.declared.Place.{Place}

-- the number and the value of the answer
abbrev pub body_says : Result Place Refusal → Says Place
body_says answer = says no_place answer

-- "The body is bytes 8 up to the last 4 of a section; a section under 12 bytes is refused with 16"
unfoldable pub body_of : List ℕ → Says Place
body_of section = when length section is_below 12 then refused section_under12 no_place else given (from_up_to 8 (length section - 4))
