-- What a section says of itself: "table id, id, version, current bit", and its number.
use Rattle.std.specs.Prelude.{ℕ, false, List}
use Rattle.psi.specs.Header.{header_of, table_header_of}
use Rattle.psi.specs.declared.TableSyntaxHeader.{TableSyntaxHeader}
use Rattle.labels.specs.declared.Label.{Label}

-- what the two headers say, 0 where there is none
abbrev pub table_id_of : List ℕ → ℕ
table_id_of section = (header_of section).values.table_id

abbrev pub table_of : List ℕ → TableSyntaxHeader
table_of section = (table_header_of section).values

unfoldable pub label_of : List ℕ → Label
label_of section =
    record {
      table_id = table_id_of section;
      id = (table_of section).id;
      version = (table_of section).version;
      current_next_indicator = (table_of section).current_next_indicator;
      section_number = (table_of section).section_number;
    }

abbrev pub no_label : Label
no_label =
    record {
      table_id = 0;
      id = 0;
      version = 0;
      current_next_indicator = false;
      section_number = 0;
    }
