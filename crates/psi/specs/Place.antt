-- A part of some bytes, by its place.
use Rattle.std.specs.Prelude.{ℕ, ◌-◌, List, take, drop}
use Rattle.psi.specs.declared.Place.{Place}

-- the place from one byte up to another
abbrev pub from_up_to : ℕ → ℕ → Place
from_up_to start end = record { start = start; len = end - start }

-- the place of a refused answer: "its parts are empty"
abbrev pub no_place : Place
no_place = record { start = 0; len = 0 }

-- the bytes at a place
unfoldable pub part_at : Place → List ℕ → List ℕ
part_at place bytes = take place.len (drop place.start bytes)
