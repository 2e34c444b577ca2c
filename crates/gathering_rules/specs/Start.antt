-- The start of a section.
use Rattle.std.specs.Prelude.{ℕ, Bool, not, List, length}
use Rattle.fields.specs.Choice.{when◌then◌else◌, ◌is_below◌, ◌is_above◌}
use Rattle.answers.specs.Numbers.{under3_bytes, syntax_indicator, under8_bytes, length_above1021, already_delivered}
use Rattle.psi.specs.Header as section
use Rattle.psi.specs.Header.{section_length, length_limit}
use Rattle.psi.specs.declared.SectionCommonHeader.{SectionCommonHeader}
use Rattle.memory.specs.declared.Form.{Form}
use Rattle.memory.specs.declared.Memory.{Memory}
use Rattle.memory.specs.Memory.{repeats}

-- the bytes without which a section is not kept: the table header's eight, "(COMPACT: 3)"
abbrev pub least_held : Form → ℕ
least_held Form.Compact = 3
least_held Form.Full = 8
least_held Form.Once = 8

-- "FULL and ONCE need it set, COMPACT clear"
abbrev pub takes_syntax : Form → Bool → Bool
takes_syntax Form.Compact indicator = not indicator
takes_syntax Form.Full indicator = indicator
takes_syntax Form.Once indicator = indicator

-- "From the pointer on: under 3 bytes, 10. Then in this order: syntax indicator .., 11; under 8 bytes (not COMPACT), 12; section_length above 1,021, 13; ONCE
-- and" one that it delivered, "14"; 0 where nothing refuses the start
unfoldable pub start_refusal : Form → Memory → List ℕ → ℕ
start_refusal form memory bytes =
    when length bytes is_below 3 then under3_bytes
    else when not (takes_syntax form (section.syntax_indicator bytes)) then syntax_indicator
    else when length bytes is_below least_held form then under8_bytes
    else when section_length bytes is_above length_limit then length_above1021
    else when repeats form memory bytes then already_delivered
    else 0

-- ---- the parts of it that the code asks one after another

-- 13, or 0
abbrev pub length_refusal : SectionCommonHeader → ℕ
length_refusal header = when header.section_length is_above length_limit then length_above1021 else 0

-- 11, 12, 13, or 0, of a header and so many bytes
unfoldable pub header_refusal : Form → SectionCommonHeader → ℕ → ℕ
header_refusal form header len =
    when not (takes_syntax form header.section_syntax_indicator) then syntax_indicator
    else when len is_below least_held form then under8_bytes
    else length_refusal header
