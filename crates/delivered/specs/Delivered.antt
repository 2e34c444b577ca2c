-- "A delivered section is read as a part of the packet or of the lent buffer, whichever holds it, by a call given both, the answer and the place; for other
-- answers, and for a place that doesn't lie within the bytes lent, the part is empty."
use Rattle.std.specs.Prelude.{ℕ, ◌-◌, List, [], length, take, drop}
use Rattle.fields.specs.Choice.{when◌then◌else◌, ◌is◌, ◌is_above◌}
use Rattle.answers.specs.Numbers.{delivered}
use Rattle.delivered.specs.declared.Holder.{Holder}
use Rattle.delivered.specs.declared.Place.{Place}

-- the part of the bytes that starts there, of that length, or none where it does not lie within
unfoldable pub part_of : List ℕ → ℕ → ℕ → List ℕ
part_of bytes start len =
    when start is_above length bytes then []
    else when len is_above length bytes - start then []
    else take len (drop start bytes)

-- "whichever holds it"
unfoldable pub part_held_by : Holder → List ℕ → List ℕ → ℕ → ℕ → List ℕ
part_held_by Holder.Nowhere packet buffer start len = []
part_held_by Holder.Packet packet buffer start len = part_of packet start len
part_held_by Holder.Buffer packet buffer start len = part_of buffer start len

unfoldable pub section_of : List ℕ → List ℕ → ℕ → Place → List ℕ
section_of packet buffer answer place =
    when answer is delivered then part_held_by place.holder packet buffer place.start place.len
    else []
