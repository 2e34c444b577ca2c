-- Document 01's "Sixteen to check by hand": one table, and the single statement that the sixteen stand in it, in order, and that each holds.
-- Assumes nothing.
use Rattle.std.specs.Prelude.{ℕ, ◌≡◌, refl, true, false, List, [], ◌∷◌, length, drop, replicate}
use Rattle.fields.specs.Choice.{when◌then◌else◌, ◌is_above◌}
use Rattle.fields.specs.BitString.{low_bits, bit_string, number, number_at}
use Rattle.fields.specs.SyntaxTable.{size, offset, width, value_of}
use Rattle.answers.specs.Says.{given, refused}
use Rattle.crc_steps.specs.BitSteps.{◌plus_polynomial_if◌, bit_step, bit_enters, bits_enter}
use Rattle.mpegts_crc.specs.Crc.{crc_from, crc_of}
use Rattle.packet.specs.Header.{of_a_packet}
use Rattle.packet.specs.Header as packet_header
use Rattle.packet.specs.Payload.{starting_at, payload_behind, payload_of}
use Rattle.adaptation.specs.AdaptationField.{no_field, flags_of, where_present, of_a_field, adaptation_field_of}
use Rattle.adaptation_parts.specs.Parts.{part, pcr_of}
use Rattle.psi.specs.Header.{section_length, length_limit, wanted, version_number, is_current, table_fields_of, table_header_of}
use Rattle.psi.specs.Header as section_header
use Rattle.walks.specs.Walk.{found, found_at}
use Rattle.pat.specs.declared.ProgramDescriptor.TheVariants.{Network, Program}
use Rattle.pat.specs.Programs.{program_of, program_at}
use Rattle.pmt.specs.Streams.{stream_of, stream_at}
use Rattle.memory.specs.declared.Form.{Form}
use Rattle.marks.specs.Marks.{any_marked}
use Rattle.memory.specs.Memory.{sound_memory, agrees, repeats}
use Rattle.gathering_rules.specs.Checks.{checked}
use Rattle.gathering_rules.specs.Start.{start_refusal}
use Rattle.reader.specs.State.{sound_counts, sound, fresh}
use Rattle.reader.specs.Checks.{from_a_place, from_the_payload}
use Rattle.reader.specs.Tail.{tail_from, tail_of}
use Rattle.reader.specs.Head.{begun, started, head_from, head_of}
use Rattle.cases.specs.Packets.{packet_from, with_length, starting, one_payload_byte}

infixr 10 ◌then◌
-- ---- the cases

-- "47 40 00 10: unit start, PID 0, control 01, counter 0."
abbrev pub Case1 : Type 0
Case1 =
    packet_header.header_of (packet_from (0x47 ∷ 0x40 ∷ 0x00 ∷ 0x10 ∷ []))
    ≡ given
    (record {
      transport_error_indicator = false;
      payload_unit_start_indicator = true;
      transport_priority = false;
      pid = 0;
      transport_scrambling_control = 0;
      adaptation_field_control = 0b01;
      continuity_counter = 0;
    })

-- "47 1F FF 10: no unit start, PID 8191."
abbrev pub Case2 : Type 0
Case2 =
    packet_header.header_of (packet_from (0x47 ∷ 0x1f ∷ 0xff ∷ 0x10 ∷ []))
    ≡ given
    (record {
      transport_error_indicator = false;
      payload_unit_start_indicator = false;
      transport_priority = false;
      pid = 8191;
      transport_scrambling_control = 0;
      adaptation_field_control = 0b01;
      continuity_counter = 0;
    })

-- "Control 11, length 0: payload at 5, field answer 18."
abbrev pub Case3 : Type 0
Case3 = (payload_of (with_length 0) ≡ given 5) × (adaptation_field_of (with_length 0) ≡ refused 18 no_field)

-- "Length 182: payload at 187, one byte."; the field is given
abbrev pub Case4 : Type 0
Case4 =
    (payload_of (with_length 182) ≡ given 187)
    × (length (drop (payload_of (with_length 182)).values (with_length 182)) ≡ 1)
    × ((adaptation_field_of (with_length 182)).number ≡ 0)

-- "Length 183: payload 7, field 19."
abbrev pub Case5 : Type 0
Case5 = (payload_of (with_length 183) ≡ refused 7 0) × (adaptation_field_of (with_length 183) ≡ refused 19 no_field)

-- "Length 184: 8.", and so is the field's length refused
abbrev pub Case6 : Type 0
Case6 = (payload_of (with_length 184) ≡ refused 8 0) × (adaptation_field_of (with_length 184) ≡ refused 19 no_field)

-- "00 B0 0D: table 0, syntax set, length 13, wanted 16."
abbrev pub Case7 : Type 0
Case7 =
    (section_header.header_of (0x00 ∷ 0xb0 ∷ 0x0d ∷ [])
    ≡ given
    (record { table_id = 0; section_syntax_indicator = true; private_indicator = false; section_length = 13 }))
    × (wanted (0x00 ∷ 0xb0 ∷ 0x0d ∷ []) ≡ 16)

-- the head step's answer, from a fresh reader of this form
abbrev pub head_answer : Form → List ℕ → ℕ
head_answer form packet = (head_of (fresh form) packet (replicate 1024 0)).step.answer

-- "FULL, at least 8 bytes there: 02 F3 FD, length 1,021, taken. 02 F3 FE: 13.", the length and whether it is above the limit whatever stands behind
abbrev pub Case8 : Type 0
Case8 =
    (section_header.header_of (0x02 ∷ 0xf3 ∷ 0xfd ∷ [])
    ≡ given
    (record { table_id = 2; section_syntax_indicator = true; private_indicator = true; section_length = 1021 }))
    × (wanted (0x02 ∷ 0xf3 ∷ 0xfd ∷ []) ≡ 1024)
    × ((behind : List ℕ)
    → (section_length (0x02 ∷ 0xf3 ∷ 0xfd ∷ behind) ≡ 1021)
    × ((section_length (0x02 ∷ 0xf3 ∷ 0xfd ∷ behind) is_above length_limit) ≡ false)
    × ((section_length (0x02 ∷ 0xf3 ∷ 0xfe ∷ behind) is_above length_limit) ≡ true))
    × (head_answer Form.Full (starting (0x02 ∷ 0xf3 ∷ 0xfd ∷ [])) ≡ 1)
    × (head_answer Form.Full (starting (0x02 ∷ 0xf3 ∷ 0xfe ∷ [])) ≡ 13)

-- "Version byte C1: 0, current. C2: 1, next.", whatever stands before and behind; and as the call answers of a section of eight bytes
abbrev pub Case9 : Type 0
Case9 =
    ((a b c d e : ℕ) (behind : List ℕ)
    → (version_number (a ∷ b ∷ c ∷ d ∷ e ∷ 0xc1 ∷ behind) ≡ 0)
    × (is_current (a ∷ b ∷ c ∷ d ∷ e ∷ 0xc1 ∷ behind) ≡ true)
    × (version_number (a ∷ b ∷ c ∷ d ∷ e ∷ 0xc2 ∷ behind) ≡ 1)
    × (is_current (a ∷ b ∷ c ∷ d ∷ e ∷ 0xc2 ∷ behind) ≡ false))
    × (table_header_of (0x00 ∷ 0xb0 ∷ 0x0d ∷ 0x00 ∷ 0x01 ∷ 0xc1 ∷ 0x00 ∷ 0x00 ∷ [])
    ≡ given
    (record { id = 1; version = 0; current_next_indicator = true; section_number = 0; last_section_number = 0 }))
    × (table_header_of (0x00 ∷ 0xb0 ∷ 0x0d ∷ 0x00 ∷ 0x01 ∷ 0xc2 ∷ 0x00 ∷ 0x00 ∷ [])
    ≡ given
    (record { id = 1; version = 1; current_next_indicator = false; section_number = 0; last_section_number = 0 }))

-- the tail step's answer, from a fresh reader of this form
abbrev pub tail_answer : Form → List ℕ → ℕ
tail_answer form packet = (tail_of (fresh form) packet (replicate 1024 0)).step.answer

abbrev pub in_each_form : (Form → Type 0) → Type 0
in_each_form says = says Form.Compact × says Form.Full × says Form.Once

-- "One payload byte, unit start: pointer 0 gives 10; pointer 5 gives 9."; with pointer 0 the tail step has nothing to do, and 9 is its answer too
abbrev pub Case10 : Type 0
Case10 =
    in_each_form
    (λ form.
    (head_answer form (one_payload_byte 0) ≡ 10)
    × (head_answer form (one_payload_byte 5) ≡ 9)
    × (tail_answer form (one_payload_byte 0) ≡ 0)
    × (tail_answer form (one_payload_byte 5) ≡ 9))

-- "CRC of nothing: FFFFFFFF."
abbrev pub Case11 : Type 0
Case11 = crc_of [] ≡ 0xffff_ffff

-- "CRC of 00: 4E08BFB4. Of FF: FFFFFF00."
abbrev pub Case12 : Type 0
Case12 = (crc_of (0x00 ∷ []) ≡ 0x4e08_bfb4) × (crc_of (0xff ∷ []) ≡ 0xffff_ff00)

-- "CRC of FF FF FF FF: 0."
abbrev pub Case13 : Type 0
Case13 = crc_of (0xff ∷ 0xff ∷ 0xff ∷ 0xff ∷ []) ≡ 0

-- "PAT 00 01 E1 00: program 1, PID 256. 00 00 E0 10: network, PID 16."
abbrev pub Case14 : Type 0
Case14 =
    (program_at (0x00 ∷ 0x01 ∷ 0xe1 ∷ 0x00 ∷ []) 0 ≡ found (Program 1 256) 4)
    × (program_at (0x00 ∷ 0x00 ∷ 0xe0 ∷ 0x10 ∷ []) 0 ≡ found (Network 16) 4)

-- "Stream 1B E1 01 F0 00: type 27, PID 257, no info."
abbrev pub Case15 : Type 0
Case15 =
    stream_at (0x1b ∷ 0xe1 ∷ 0x01 ∷ 0xf0 ∷ 0x00 ∷ []) 0
    ≡ found (record { stream_type = 27; elementary_pid = 257; info = record { start = 5; len = 0 } }) 5

-- the PCR of a packet with this control byte and this adaptation field length, whose PCR flag alone is set
abbrev pub pcr_behind : ℕ → ℕ → Type 0
pcr_behind control n =
    pcr_of (packet_from (0x47 ∷ 0x00 ∷ 0x00 ∷ control ∷ n ∷ 0x10 ∷ 0x00 ∷ 0x00 ∷ 0x00 ∷ 0x00 ∷ 0x80 ∷ 0x00 ∷ []))
    ≡ given (record { base = 1; extension = 0 })

-- "PCR 00 00 00 00 80 00: base 1, extension 0.", in a field that is all there is, and in one of seven bytes before a payload
abbrev pub Case16 : Type 0
Case16 = pcr_behind 0x20 183 × pcr_behind 0x30 7

-- ---- the table

-- a row: a case's number in document 01, and what it says
pub record Row : Type 1 where
  pub case : ℕ
  pub says : Type 0

abbrev pub row : ℕ → Type 0 → Row
row case says = record { case = case; says = says }

abbrev pub table : List Row
table =
    row 1 Case1
    ∷ row 2 Case2
    ∷ row 3 Case3
    ∷ row 4 Case4
    ∷ row 5 Case5
    ∷ row 6 Case6
    ∷ row 7 Case7
    ∷ row 8 Case8
    ∷ row 9 Case9
    ∷ row 10 Case10
    ∷ row 11 Case11
    ∷ row 12 Case12
    ∷ row 13 Case13
    ∷ row 14 Case14
    ∷ row 15 Case15
    ∷ row 16 Case16
    ∷ []

-- ---- the statement

abbrev pub numbers : List Row → List ℕ
numbers [] = []
numbers (r ∷ rows) = r.case ∷ numbers rows

abbrev pub EachHolds : List Row → Type 0
EachHolds [] = Unit {0}
EachHolds (r ∷ rows) = r.says × EachHolds rows

-- the table has the cases 1 to 16, each once and in order, and each holds
abbrev pub Sixteen : Type 0
Sixteen = (numbers table ≡ 1 ∷ 2 ∷ 3 ∷ 4 ∷ 5 ∷ 6 ∷ 7 ∷ 8 ∷ 9 ∷ 10 ∷ 11 ∷ 12 ∷ 13 ∷ 14 ∷ 15 ∷ 16 ∷ []) × EachHolds table

-- a row holds, and so do those behind it
abbrev ◌then◌ : {A B : Type 0} → A → B → A × B
◌then◌ a b = (a, b)

pub sixteen : Sixteen
unfolding when◌then◌else◌ low_bits bit_string number number_at size offset width value_of ◌plus_polynomial_if◌ bit_step bit_enters bits_enter crc_from crc_of of_a_packet packet_header.fields_of packet_header.header_of starting_at payload_behind payload_of flags_of where_present of_a_field adaptation_field_of part pcr_of section_header.fields_of section_header.header_of table_fields_of table_header_of found_at program_of stream_of any_marked agrees sound_memory sound_counts sound checked from_a_place from_the_payload repeats start_refusal tail_from tail_of begun started head_from head_of
sixteen = (
  refl,
  refl
      then refl
      then (refl, refl)
      then (refl, refl, refl)
      then (refl, refl)
      then (refl, refl)
      then (refl, refl)
      then (refl, refl, (λ behind. (refl, refl, refl)), refl, refl)
      then ((λ a b c d e behind. (refl, refl, refl, refl)), refl, refl)
      then ((refl, refl, refl, refl), (refl, refl, refl, refl), (refl, refl, refl, refl))
      then refl
      then (refl, refl)
      then refl
      then (refl, refl)
      then refl
      then (refl, refl)
      then tt,
)
