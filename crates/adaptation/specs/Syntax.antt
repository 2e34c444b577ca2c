-- Syntax table of ISO/IEC 13818-1: the flags of adaptation_field() (2.4.3.4), behind its length.
use Rattle.std.specs.Prelude.{[], ◌∷◌}
use Rattle.fields.specs.SyntaxTable.{Table}

abbrev pub adaptation_field_flags : Table
adaptation_field_flags =
    ("discontinuity_indicator", 1)
    ∷ ("random_access_indicator", 1)
    ∷ ("elementary_stream_priority_indicator", 1)
    ∷ ("PCR_flag", 1)
    ∷ ("OPCR_flag", 1)
    ∷ ("splicing_point_flag", 1)
    ∷ ("transport_private_data_flag", 1)
    ∷ ("adaptation_field_extension_flag", 1)
    ∷ []
