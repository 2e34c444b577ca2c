-- The answer to a whole section.
use Rattle.std.specs.Prelude.{ℕ, List, length, Result, Ok, Err}
use Rattle.fields.specs.Choice.{when◌then◌else◌, ◌is_not◌, ◌is_below◌}
use Rattle.answers.specs.Numbers.{delivered, section_under12, crc_not_zero}
use Rattle.answers.specs.Refusals.{number_of}
use Rattle.answers.specs.declared.Refusal.{Refusal}
use Rattle.mpegts_crc.specs.Crc.{crc_of}
use Rattle.memory.specs.declared.Form.{Form}

-- "under 12 bytes, 16; CRC remainder not zero, 17; else 2"
unfoldable pub crc_verdict : List ℕ → ℕ
crc_verdict section =
    when length section is_below 12 then section_under12
    else when crc_of section is_not 0 then crc_not_zero
    else delivered

-- "A whole section, FULL and ONCE: .. COMPACT: 2"
unfoldable pub verdict : Form → List ℕ → ℕ
verdict Form.Compact section = delivered
verdict Form.Full section = crc_verdict section
verdict Form.Once section = crc_verdict section

-- the number of the code's verdict: 2 where nothing refuses
abbrev pub verdict_number : {Values : Type 0} → Result Values Refusal → ℕ
verdict_number (Ok values) = delivered
verdict_number (Err refusal) = number_of refusal
