-- The parts of an adaptation field: document 01, "Present parts follow in that order".
use Rattle.std.specs.Prelude.{ℕ, ◌+◌, ◌*◌, Bool, not, List, length, Result}
use Rattle.fields.specs.Choice.{when◌then◌else◌, ◌is_below◌}
use Rattle.fields.specs.SyntaxTable.{Table, size, field}
use Rattle.answers.specs.Numbers.{flag_clear, field_ends_before}
use Rattle.answers.specs.Says.{Says, given, refused, says}
use Rattle.answers.specs.declared.Refusal.{Refusal}
use Rattle.adaptation_parts.specs.Syntax.{program_clock_reference, original_program_clock_reference, splice_countdown}
use Rattle.adaptation_parts.specs.Syntax.{transport_private_data_length, transport_private_data, size_in_bytes, bytes_behind}
use Rattle.adaptation_parts.specs.Syntax.{before_pcr, before_opcr, before_splice_countdown, before_transport_private_data}
use Rattle.adaptation.specs.AdaptationField.{start, of_a_field}
use Rattle.adaptation_parts.specs.declared.ClockRef.{ClockRef}
use Rattle.adaptation_parts.specs.declared.PrivateData.{PrivateData}

-- "optional part's flag clear", then "field ends before the part does": what is read of a part from its first byte on
unfoldable pub part : {Values : Type 0} → Bool → Table → List ℕ → Values → (List ℕ → Values) → Says Values
part flag rows bytes none read =
    when not flag then refused flag_clear none
    else when length bytes * 8 is_below size rows then refused field_ends_before none
    else given (read bytes)

-- ---- PCR and OPCR

-- all numbers of a refused clock are 0
abbrev pub no_clock : ClockRef
no_clock = record { base = 0; extension = 0 }

-- the number and the values of the answer
abbrev pub clock_says : Result ClockRef Refusal → Says ClockRef
clock_says answer = says no_clock answer

-- "A PCR is a 33-bit base, six reserved bits, a 9-bit extension"
abbrev pub pcr_from : List ℕ → ClockRef
pcr_from bytes =
    record {
      base = field program_clock_reference "program_clock_reference_base" bytes;
      extension = field program_clock_reference "program_clock_reference_extension" bytes;
    }

abbrev pub opcr_from : List ℕ → ClockRef
opcr_from bytes =
    record {
      base = field original_program_clock_reference "original_program_clock_reference_base" bytes;
      extension = field original_program_clock_reference "original_program_clock_reference_extension" bytes;
    }

unfoldable pub pcr_of : List ℕ → Says ClockRef
pcr_of packet =
    of_a_field packet no_clock
    (λ flags bytes. part flags.pcr_flag program_clock_reference (bytes_behind before_pcr bytes) no_clock pcr_from)

unfoldable pub opcr_of : List ℕ → Says ClockRef
opcr_of packet =
    of_a_field packet no_clock
    (λ flags bytes.
    part flags.opcr_flag original_program_clock_reference (bytes_behind (before_opcr flags) bytes) no_clock opcr_from)

-- ---- splice countdown

-- the number and the value of the answer
abbrev pub splice_countdown_says : Result ℕ Refusal → Says ℕ
splice_countdown_says answer = says 0 answer

-- "splice countdown 1 (its byte value, 0 to 255)"
abbrev pub splice_countdown_from : List ℕ → ℕ
splice_countdown_from bytes = field splice_countdown "splice_countdown" bytes

unfoldable pub splice_countdown_of : List ℕ → Says ℕ
splice_countdown_of packet =
    of_a_field packet 0
    (λ flags bytes.
    part flags.splicing_point_flag splice_countdown (bytes_behind (before_splice_countdown flags) bytes) 0 splice_countdown_from)

-- ---- private data

-- a refused place is 0, and empty
abbrev pub no_private_data : PrivateData
no_private_data = record { start = 0; length = 0 }

-- the number and the values of the answer
abbrev pub transport_private_data_says : Result PrivateData Refusal → Says PrivateData
transport_private_data_says answer = says no_private_data answer

-- "private data a length byte and that many bytes": the place of these, where the length byte is byte `at` of the packet
abbrev pub private_data_from : ℕ → List ℕ → PrivateData
private_data_from at bytes =
    record {
      start = at + size_in_bytes transport_private_data_length;
      length = field transport_private_data_length "transport_private_data_length" bytes;
    }

unfoldable pub private_data_at : Bool → ℕ → List ℕ → Says PrivateData
private_data_at flag at bytes = part flag (transport_private_data bytes) bytes no_private_data (private_data_from at)

unfoldable pub transport_private_data_of : List ℕ → Says PrivateData
transport_private_data_of packet =
    of_a_field packet no_private_data
    (λ flags bytes.
    private_data_at flags.transport_private_data_flag (start + size_in_bytes (before_transport_private_data flags))
    (bytes_behind (before_transport_private_data flags) bytes))
