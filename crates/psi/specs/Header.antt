-- The headers of a section: document 01, "Sections, CRC, PAT, PMT".
use Rattle.std.specs.Prelude.{ℕ, ◌+◌, Bool, false, List, length, drop, Result}
use Rattle.fields.specs.Choice.{when◌then◌else◌, ◌is◌, ◌is_below◌}
use Rattle.fields.specs.SyntaxTable.{field}
use Rattle.answers.specs.Numbers.{under3_bytes, under8_bytes}
use Rattle.answers.specs.Says.{Says, given, refused, says}
use Rattle.answers.specs.declared.Refusal.{Refusal}
use Rattle.psi.specs.Syntax.{section_header, table_header}
use Rattle.psi.specs.declared.SectionCommonHeader.{SectionCommonHeader}
use Rattle.psi.specs.declared.TableSyntaxHeader.{TableSyntaxHeader}

-- ---- the section header

-- "byte 1 bit 7 syntax"
abbrev pub syntax_indicator : List ℕ → Bool
syntax_indicator section = field section_header "section_syntax_indicator" section is 1

-- "length from the low 4 bits of byte 1 and byte 2"
abbrev pub section_length : List ℕ → ℕ
section_length section = field section_header "section_length" section

-- "section_length above 1,021" is refused
abbrev pub length_limit : ℕ
length_limit = 1021

-- "Wanted is 3 plus section_length"
abbrev pub wanted : List ℕ → ℕ
wanted section = 3 + section_length section

unfoldable pub fields_of : List ℕ → SectionCommonHeader
fields_of section =
    record {
      table_id = field section_header "table_id" section;
      section_syntax_indicator = syntax_indicator section;
      private_indicator = field section_header "private_indicator" section is 1;
      section_length = section_length section;
    }

-- all numbers of a refused header are 0
abbrev pub no_header : SectionCommonHeader
no_header =
    record {
      table_id = 0;
      section_syntax_indicator = false;
      private_indicator = false;
      section_length = 0;
    }

-- the number and the values of the answer
abbrev pub header_says : Result SectionCommonHeader Refusal → Says SectionCommonHeader
header_says answer = says no_header answer

-- "Section header calls on fewer than 3 bytes answer 10"
unfoldable pub header_of : List ℕ → Says SectionCommonHeader
header_of bytes = when length bytes is_below 3 then refused under3_bytes no_header else given (fields_of bytes)

-- ---- the table header

-- "version in bits 5 to 1 of byte 5"
abbrev pub version_number : List ℕ → ℕ
version_number section = field table_header "version_number" (drop 3 section)

-- "current (1) or next (0) in bit 0"
abbrev pub is_current : List ℕ → Bool
is_current section = field table_header "current_next_indicator" (drop 3 section) is 1

-- "Table header (bytes 3 to 7)"
unfoldable pub table_fields_of : List ℕ → TableSyntaxHeader
table_fields_of section =
    record {
      id = field table_header "table_id_extension" (drop 3 section);
      version = version_number section;
      current_next_indicator = is_current section;
      section_number = field table_header "section_number" (drop 3 section);
      last_section_number = field table_header "last_section_number" (drop 3 section);
    }

abbrev pub no_table_header : TableSyntaxHeader
no_table_header =
    record {
      id = 0;
      version = 0;
      current_next_indicator = false;
      section_number = 0;
      last_section_number = 0;
    }

abbrev pub table_header_says : Result TableSyntaxHeader Refusal → Says TableSyntaxHeader
table_header_says answer = says no_table_header answer

-- "table header calls on a section of fewer than 8 bytes 12"
unfoldable pub table_header_of : List ℕ → Says TableSyntaxHeader
table_header_of section = when length section is_below 8 then refused under8_bytes no_table_header else given (table_fields_of section)
