-- Syntax tables of ISO/IEC 13818-1.
use Rattle.std.specs.Prelude.{[], ◌∷◌}
use Rattle.fields.specs.SyntaxTable.{Table}

-- transport_packet() (2.4.3.2), up to the continuity counter
abbrev pub transport_packet : Table
transport_packet =
    ("sync_byte", 8)
    ∷ ("transport_error_indicator", 1)
    ∷ ("payload_unit_start_indicator", 1)
    ∷ ("transport_priority", 1)
    ∷ ("PID", 13)
    ∷ ("transport_scrambling_control", 2)
    ∷ ("adaptation_field_control", 2)
    ∷ ("continuity_counter", 4)
    ∷ []

-- adaptation_field() (2.4.3.4), its first row
abbrev pub adaptation_field_length : Table
adaptation_field_length = ("adaptation_field_length", 8) ∷ []
