-- What section calls say, as C sees it.
use Rattle.answers.specs.Says.{Says}
use Rattle.psi.specs.declared.SectionCommonHeader.{SectionCommonHeader}
use Rattle.psi.specs.declared.TableSyntaxHeader.{TableSyntaxHeader}
use Rattle.psi.specs.declared.Place.{Place}
use Rattle.capi_numbers.specs.Numbers.{flag, answer_of}
use Rattle.capi_numbers.specs.declared.JambpepperPart.{JambpepperPart}
use Rattle.capi_sections.specs.declared.JambpepperSectionHeader.{JambpepperSectionHeader}
use Rattle.capi_sections.specs.declared.JambpepperTableHeader.{JambpepperTableHeader}

abbrev pub section_header_for_c : Says SectionCommonHeader → JambpepperSectionHeader
section_header_for_c said =
    record {
      section_length = said.values.section_length;
      table_id = said.values.table_id;
      section_syntax_indicator = flag said.values.section_syntax_indicator;
      private_indicator = flag said.values.private_indicator;
      answer = answer_of said;
    }

abbrev pub table_header_for_c : Says TableSyntaxHeader → JambpepperTableHeader
table_header_for_c said =
    record {
      id = said.values.id;
      version = said.values.version;
      current_next_indicator = flag said.values.current_next_indicator;
      section_number = said.values.section_number;
      last_section_number = said.values.last_section_number;
      answer = answer_of said;
    }

abbrev pub part_for_c : Says Place → JambpepperPart
part_for_c said = record { start = said.values.start; length = said.values.len; answer = answer_of said }
