-- The payload's place: document 01, "Bytes of a packet".
use Rattle.std.specs.Prelude.{ℕ, ◌+◌, List, drop, Result}
use Rattle.fields.specs.Choice.{when◌then◌else◌, ◌is◌, ◌is_above◌}
use Rattle.fields.specs.SyntaxTable.{field}
use Rattle.answers.specs.Numbers.{no_payload, payload_empty, payload_beyond}
use Rattle.answers.specs.Says.{Says, given, refused, says}
use Rattle.packet.specs.Syntax.{transport_packet, adaptation_field_length}
use Rattle.packet.specs.Header.{size, of_a_packet}
use Rattle.answers.specs.declared.Refusal.{Refusal}

-- the number and the value of the answer
abbrev pub payload_says : Result ℕ Refusal → Says ℕ
payload_says answer = says 0 answer

-- "Control 00 has neither part, 01 payload only, 10 adaptation field only, 11 both"
abbrev pub control_of : List ℕ → ℕ
control_of packet = field transport_packet "adaptation_field_control" packet

-- the adaptation field's length byte, which stands behind the header's four bytes
abbrev pub length_byte : List ℕ → ℕ
length_byte packet = field adaptation_field_length "adaptation_field_length" (drop 4 packet)

-- "payload start is 188", then "payload start above 188"; else the payload starts there
unfoldable pub starting_at : ℕ → Says ℕ
starting_at start =
    when start is size then refused payload_empty 0
    else when start is_above size then refused payload_beyond 0
    else given start

-- "With 01 the payload starts at 4; with 11 at 5 plus byte 4"
unfoldable pub payload_behind : List ℕ → Says ℕ
payload_behind packet =
    when control_of packet is 0b01 then starting_at 4
    else when control_of packet is 0b11 then starting_at (5 + length_byte packet)
    else refused no_payload 0

unfoldable pub payload_of : List ℕ → Says ℕ
payload_of packet = of_a_packet packet 0 (payload_behind packet)
