-- Syntax tables of ISO/IEC 13818-1: adaptation_field() (2.4.3.4), behind its flags.
use Rattle.std.specs.Prelude.{ℕ, ◌/◌, List, [], ◌∷◌, ◌++◌, drop, replicate}
use Rattle.fields.specs.Choice.{when◌then◌else◌}
use Rattle.fields.specs.SyntaxTable.{Table, size, field}
use Rattle.adaptation.specs.Syntax.{adaptation_field_flags}
use Rattle.adaptation.specs.declared.AdaptationField.{AdaptationField}

-- ---- the rows

abbrev pub program_clock_reference : Table
program_clock_reference =
    ("program_clock_reference_base", 33)
    ∷ ("reserved", 6)
    ∷ ("program_clock_reference_extension", 9)
    ∷ []

abbrev pub original_program_clock_reference : Table
original_program_clock_reference =
    ("original_program_clock_reference_base", 33)
    ∷ ("reserved", 6)
    ∷ ("original_program_clock_reference_extension", 9)
    ∷ []

abbrev pub splice_countdown : Table
splice_countdown = ("splice_countdown", 8) ∷ []

abbrev pub transport_private_data_length : Table
transport_private_data_length = ("transport_private_data_length", 8) ∷ []

-- for (i = 0; i < transport_private_data_length; i++) { private_data_byte }, from its length byte on
abbrev pub transport_private_data : List ℕ → Table
transport_private_data bytes =
    transport_private_data_length
    ++ replicate (field transport_private_data_length "transport_private_data_length" bytes) ("private_data_byte", 8)

-- ---- rows and bytes

-- how many bytes rows take
abbrev pub size_in_bytes : Table → ℕ
size_in_bytes rows = size rows / 8

-- the bytes behind rows
abbrev pub bytes_behind : Table → List ℕ → List ℕ
bytes_behind rows bytes = drop (size_in_bytes rows) bytes

-- ---- where each part begins: behind the flags, and behind each part before it whose flag is set

abbrev pub before_pcr : Table
before_pcr = adaptation_field_flags

-- if (PCR_flag == '1') { .. }
unfoldable pub before_opcr : AdaptationField → Table
before_opcr flags = before_pcr ++ (when flags.pcr_flag then program_clock_reference else [])

-- if (OPCR_flag == '1') { .. }
unfoldable pub before_splice_countdown : AdaptationField → Table
before_splice_countdown flags = before_opcr flags ++ (when flags.opcr_flag then original_program_clock_reference else [])

-- if (splicing_point_flag == '1') { .. }
unfoldable pub before_transport_private_data : AdaptationField → Table
before_transport_private_data flags = before_splice_countdown flags ++ (when flags.splicing_point_flag then splice_countdown else [])
