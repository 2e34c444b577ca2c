-- A packet and its header: document 01, "Bytes of a packet".
use Rattle.std.specs.Prelude.{ℕ, false, List, length, Result}
use Rattle.fields.specs.Choice.{when◌then◌else◌, ◌is◌, ◌is_not◌}
use Rattle.fields.specs.SyntaxTable.{field}
use Rattle.answers.specs.Numbers.{packet_size, no_sync_byte}
use Rattle.answers.specs.Says.{Says, given, refused, says}
use Rattle.answers.specs.declared.Refusal.{Refusal}
use Rattle.packet.specs.Syntax.{transport_packet}
use Rattle.packet.specs.declared.Header.{Header}

-- "188 bytes, the first 0x47"
abbrev pub size : ℕ
size = 188

abbrev pub sync_byte : ℕ
sync_byte = 0x47

-- "Packet header, payload and field calls test 3 and 4 first": what is said of a packet once it is one
unfoldable pub of_a_packet : {Values : Type 0} → List ℕ → Values → Says Values → Says Values
of_a_packet packet none asked =
    when length packet is_not size then refused packet_size none
    else when field transport_packet "sync_byte" packet is_not sync_byte then refused no_sync_byte none
    else asked

-- all numbers of a refused header are 0
abbrev pub no_header : Header
no_header =
    record {
      transport_error_indicator = false;
      payload_unit_start_indicator = false;
      transport_priority = false;
      pid = 0;
      transport_scrambling_control = 0;
      adaptation_field_control = 0;
      continuity_counter = 0;
    }

-- the number and the values of the answer
abbrev pub header_says : Result Header Refusal → Says Header
header_says answer = says no_header answer

-- the header's fields
unfoldable pub fields_of : List ℕ → Header
fields_of packet =
    record {
      transport_error_indicator = field transport_packet "transport_error_indicator" packet is 1;
      payload_unit_start_indicator = field transport_packet "payload_unit_start_indicator" packet is 1;
      transport_priority = field transport_packet "transport_priority" packet is 1;
      pid = field transport_packet "PID" packet;
      transport_scrambling_control = field transport_packet "transport_scrambling_control" packet;
      adaptation_field_control = field transport_packet "adaptation_field_control" packet;
      continuity_counter = field transport_packet "continuity_counter" packet;
    }

unfoldable pub header_of : List ℕ → Says Header
header_of packet = of_a_packet packet no_header (given (fields_of packet))
