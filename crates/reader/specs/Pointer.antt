-- "A payload with unit start begins with a pointer byte"; what follows it is the rest.
use Rattle.std.specs.Prelude.{ℕ, ◌+◌, Bool, not, List, [], ◌∷◌, length, drop}
use Rattle.fields.specs.Choice.{when◌then◌else◌, ◌and◌, ◌is◌, ◌is_above◌, ◌is_at_most◌}
use Rattle.fields.specs.SyntaxTable.{Table, field}
use Rattle.packet.specs.Syntax.{transport_packet}
use Rattle.reader.specs.declared.Pointer.{Pointer}

-- pointer_field of ISO/IEC 13818-1 (2.4.4.1)
abbrev pub pointer_field : Table
pointer_field = ("pointer_field", 8) ∷ []

abbrev pub unit_start : List ℕ → Bool
unit_start packet = field transport_packet "payload_unit_start_indicator" packet is 1

abbrev pub pointer : List ℕ → ℕ
pointer payload = field pointer_field "pointer_field" payload

abbrev pub rest : List ℕ → List ℕ
rest payload = drop 1 payload

-- "Pointer above 0 and not below the rest's length"
abbrev pub points_beyond : List ℕ → Bool
points_beyond payload = pointer payload is_above 0 and length (rest payload) is_at_most pointer payload

-- "the pointer's target", in the packet whose payload starts there
abbrev pub target : List ℕ → ℕ → ℕ
target packet start = start + 1 + pointer (drop start packet)

-- what the code finds of all this in the packet whose payload starts there
unfoldable pub pointer_of : List ℕ → ℕ → Pointer
pointer_of packet start =
    when not (unit_start packet) then Pointer.NoUnitStart
    else when points_beyond (drop start packet) then Pointer.BeyondRest
    else Pointer.To (pointer (drop start packet))
