-- Syntax tables of ISO/IEC 13818-1: what program_association_section() (2.4.4.3), TS_program_map_section() (2.4.4.8) and private_section()
-- (2.4.4.10) share.
use Rattle.std.specs.Prelude.{[], ◌∷◌}
use Rattle.fields.specs.SyntaxTable.{Table}

-- the first three bytes; what private_section() calls private_indicator is '0' in the other two
abbrev pub section_header : Table
section_header =
    ("table_id", 8)
    ∷ ("section_syntax_indicator", 1)
    ∷ ("private_indicator", 1)
    ∷ ("reserved", 2)
    ∷ ("section_length", 12)
    ∷ []

-- the five bytes behind them where section_syntax_indicator is '1'; what private_section() calls table_id_extension is
-- transport_stream_id in the first of the three and program_number in the second
abbrev pub table_header : Table
table_header =
    ("table_id_extension", 16)
    ∷ ("reserved", 2)
    ∷ ("version_number", 5)
    ∷ ("current_next_indicator", 1)
    ∷ ("section_number", 8)
    ∷ ("last_section_number", 8)
    ∷ []
