-- The place of a delivered section as C gives it, a number in the place of its holder, and what C reads there.
use Rattle.std.specs.Prelude.{ℕ, List, length, take, drop}
use Rattle.fields.specs.Choice.{when◌then◌else◌, ◌is◌}
use Rattle.delivered.specs.declared.Holder.{Holder}
use Rattle.delivered.specs.declared.Place.{Place}
use Rattle.delivered.specs.Delivered.{section_of}
use Rattle.capi_numbers.specs.declared.JambpepperPlace.{JambpepperPlace}

-- a number that names no holder holds nothing
unfoldable pub holder_of : ℕ → Holder
holder_of number =
    when number is 1 then Holder.Packet
    else when number is 2 then Holder.Buffer
    else Holder.Nowhere

abbrev pub place_from_c : JambpepperPlace → Place
place_from_c place = record { holder = holder_of place.holder; start = place.start; len = place.length }

abbrev pub nowhere_for_c : JambpepperPlace
nowhere_for_c = record { start = 0; length = 0; holder = 0 }

-- the place, where a section is read there; else nowhere
unfoldable pub section_for_c : List ℕ → List ℕ → ℕ → JambpepperPlace → JambpepperPlace
section_for_c packet buffer answer place =
    when length (section_of packet buffer answer (place_from_c place)) is 0 then nowhere_for_c
    else place

-- what C reads at a place: `length` bytes from `jambpepper_section_bytes` on
unfoldable pub read_at : JambpepperPlace → List ℕ → List ℕ → List ℕ
read_at place packet buffer = take place.length (drop place.start (when place.holder is 2 then buffer else packet))
