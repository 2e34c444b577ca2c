-- Syntax tables of ISO/IEC 13818-1: TS_program_map_section() (2.4.4.8).
use Rattle.std.specs.Prelude.{[], ◌∷◌}
use Rattle.fields.specs.SyntaxTable.{Table}

-- what stands behind last_section_number, up to the programme's descriptors
abbrev pub map_header : Table
map_header =
    ("reserved", 3)
    ∷ ("PCR_PID", 13)
    ∷ ("reserved", 4)
    ∷ ("program_info_length", 12)
    ∷ []

-- an entry of the loop behind them, up to the stream's own descriptors
abbrev pub stream_header : Table
stream_header =
    ("stream_type", 8)
    ∷ ("reserved", 3)
    ∷ ("elementary_PID", 13)
    ∷ ("reserved", 4)
    ∷ ("ES_info_length", 12)
    ∷ []
