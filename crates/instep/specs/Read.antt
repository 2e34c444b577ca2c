-- "Gathering reads neither counter, error bit, scrambling nor PID".
use Rattle.std.specs.Prelude.{ℕ, ◌≡◌, List, length, drop}
use Rattle.fields.specs.SyntaxTable.{field}
use Rattle.packet.specs.Syntax.{transport_packet}

-- packets that differ in these at most: of the header they have the sync byte, the unit start and the adaptation field control in common, and all that
-- follows it
pub record ReadAlike (packet other : List ℕ) : Type 0 where
  pub sizes : length packet ≡ length other
  pub sync : field transport_packet "sync_byte" packet ≡ field transport_packet "sync_byte" other
  pub unit : field transport_packet "payload_unit_start_indicator" packet ≡ field transport_packet "payload_unit_start_indicator" other
  pub control : field transport_packet "adaptation_field_control" packet ≡ field transport_packet "adaptation_field_control" other
  pub behind : drop 4 packet ≡ drop 4 other
