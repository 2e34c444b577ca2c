-- The adaptation field and its flags: document 01, "Bytes of a packet".
use Rattle.std.specs.Prelude.{ℕ, false, List, take, drop, Result}
use Rattle.fields.specs.Choice.{when◌then◌else◌, ◌and◌, ◌is◌, ◌is_not◌, ◌is_above◌}
use Rattle.fields.specs.SyntaxTable.{field}
use Rattle.answers.specs.Numbers.{no_adaptation_field, adaptation_field_length}
use Rattle.answers.specs.Says.{Says, given, refused, says}
use Rattle.answers.specs.declared.Refusal.{Refusal}
use Rattle.packet.specs.Header.{of_a_packet}
use Rattle.packet.specs.Payload.{control_of, length_byte}
use Rattle.adaptation.specs.Syntax.{adaptation_field_flags}
use Rattle.adaptation.specs.declared.AdaptationField.{AdaptationField}

-- "The field begins at byte 5"
abbrev pub start : ℕ
start = 5

-- its bytes, as many as its length byte says
abbrev pub bytes_of : List ℕ → List ℕ
bytes_of packet = take (length_byte packet) (drop start packet)

-- "with flags: from bit 7 down, discontinuity, random access, priority, PCR, OPCR, splice, private data, extension"
unfoldable pub flags_of : List ℕ → AdaptationField
flags_of packet =
    record {
      adaptation_field_length = length_byte packet;
      discontinuity_indicator = field adaptation_field_flags "discontinuity_indicator" (bytes_of packet) is 1;
      random_access_indicator = field adaptation_field_flags "random_access_indicator" (bytes_of packet) is 1;
      elementary_stream_priority_indicator =
          field adaptation_field_flags "elementary_stream_priority_indicator" (bytes_of packet) is 1;
      pcr_flag = field adaptation_field_flags "PCR_flag" (bytes_of packet) is 1;
      opcr_flag = field adaptation_field_flags "OPCR_flag" (bytes_of packet) is 1;
      splicing_point_flag = field adaptation_field_flags "splicing_point_flag" (bytes_of packet) is 1;
      transport_private_data_flag = field adaptation_field_flags "transport_private_data_flag" (bytes_of packet) is 1;
      adaptation_field_extension_flag = field adaptation_field_flags "adaptation_field_extension_flag" (bytes_of packet) is 1;
    }

-- all numbers of a refused field are 0
abbrev pub no_field : AdaptationField
no_field =
    record {
      adaptation_field_length = 0;
      discontinuity_indicator = false;
      random_access_indicator = false;
      elementary_stream_priority_indicator = false;
      pcr_flag = false;
      opcr_flag = false;
      splicing_point_flag = false;
      transport_private_data_flag = false;
      adaptation_field_extension_flag = false;
    }

-- the number and the values of the answer
abbrev pub adaptation_field_says : Result AdaptationField Refusal → Says AdaptationField
adaptation_field_says answer = says no_field answer

-- "Control 00 has neither part, 01 payload only"; "with 10 its length byte must be 183; with 11 it is 0 (absent), 1 to 182, or refused": what is
-- said of a field once there is one, by the adaptation field control and the length byte
unfoldable pub where_present : {Values : Type 0} → ℕ → ℕ → Values → Says Values → Says Values
where_present control n none asked =
    when control is_not 0b10 and control is_not 0b11 then refused no_adaptation_field none
    else when control is 0b11 and n is 0 then refused no_adaptation_field none
    else when control is 0b10 and n is_not 183 then refused adaptation_field_length none
    else when control is 0b11 and n is_above 182 then refused adaptation_field_length none
    else asked

-- field calls test 3 and 4 first, "then 18, 19": what is asked of the field's flags and its bytes
unfoldable pub of_a_field : {Values : Type 0} → List ℕ → Values → (AdaptationField → List ℕ → Says Values) → Says Values
of_a_field packet none asked =
    of_a_packet packet none
    (where_present (control_of packet) (length_byte packet) none (asked (flags_of packet) (bytes_of packet)))

unfoldable pub adaptation_field_of : List ℕ → Says AdaptationField
adaptation_field_of packet = of_a_field packet no_field (λ flags bytes. given flags)
