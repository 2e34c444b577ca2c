-- The number of each refusal.
use Rattle.std.specs.Prelude.{ℕ}
use Rattle.answers.specs.Numbers.{packet_size, no_sync_byte, buffer_size, no_payload, payload_empty, payload_beyond, pointer_beyond_rest, under3_bytes, syntax_indicator, under8_bytes, length_above1021, already_delivered, no_section_open, section_under12, crc_not_zero, no_adaptation_field, adaptation_field_length, flag_clear, field_ends_before, walk_at_end, state_not_sound, position_above_length}
use Rattle.answers.specs.declared.Refusal.{Refusal}

abbrev pub number_of : Refusal → ℕ
number_of Refusal.PacketSize = packet_size
number_of Refusal.NoSyncByte = no_sync_byte
number_of Refusal.BufferSize = buffer_size
number_of Refusal.NoPayload = no_payload
number_of Refusal.PayloadEmpty = payload_empty
number_of Refusal.PayloadBeyond = payload_beyond
number_of Refusal.PointerBeyondRest = pointer_beyond_rest
number_of Refusal.Under3Bytes = under3_bytes
number_of Refusal.SyntaxIndicator = syntax_indicator
number_of Refusal.Under8Bytes = under8_bytes
number_of Refusal.LengthAbove1021 = length_above1021
number_of Refusal.AlreadyDelivered = already_delivered
number_of Refusal.NoSectionOpen = no_section_open
number_of Refusal.SectionUnder12 = section_under12
number_of Refusal.CrcNotZero = crc_not_zero
number_of Refusal.NoAdaptationField = no_adaptation_field
number_of Refusal.AdaptationFieldLength = adaptation_field_length
number_of Refusal.FlagClear = flag_clear
number_of Refusal.FieldEndsBefore = field_ends_before
number_of Refusal.WalkAtEnd = walk_at_end
number_of Refusal.StateNotSound = state_not_sound
number_of Refusal.PositionAboveLength = position_above_length
