-- Syntax tables of ISO/IEC 13818-1: an entry of the loop of program_association_section() (2.4.4.3).
use Rattle.std.specs.Prelude.{[], ◌∷◌}
use Rattle.fields.specs.SyntaxTable.{Table}

-- where program_number is '0'
abbrev pub network_entry : Table
network_entry =
    ("program_number", 16)
    ∷ ("reserved", 3)
    ∷ ("network_PID", 13)
    ∷ []

-- where it is not
abbrev pub program_entry : Table
program_entry =
    ("program_number", 16)
    ∷ ("reserved", 3)
    ∷ ("program_map_PID", 13)
    ∷ []
