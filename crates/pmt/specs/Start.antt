-- The start of a PMT's body: document 01, "Sections, CRC, PAT, PMT".
use Rattle.std.specs.Prelude.{ℕ, ◌+◌, List, length, Result, Ok, Err}
use Rattle.fields.specs.Choice.{when◌then◌else◌, ◌is_below◌, ◌is_above◌}
use Rattle.fields.specs.SyntaxTable.{field}
use Rattle.answers.specs.Numbers.{pmt_too_short}
use Rattle.answers.specs.Says.{Says, given, refused}
use Rattle.psi.specs.Place.{from_up_to, no_place}
use Rattle.pmt.specs.Syntax.{map_header}
use Rattle.pmt.specs.declared.PmtSection.{PmtSection}
use Rattle.pmt.specs.declared.TooShort.{TooShort}

-- what was asked, and the two lengths that 22 tells
pub record Start : Type 0 where
  pub section : PmtSection
  pub needed : ℕ
  pub actual : ℕ

abbrev pub started : PmtSection → Says Start
started section = given (record { section = section; needed = 0; actual = 0 })

-- "PMT body too short; tells needed and actual lengths"; all other numbers are 0 and the place is empty
abbrev pub too_short : ℕ → ℕ → Says Start
too_short needed actual =
    refused pmt_too_short
    (record { section = record { pcr_pid = 0; descriptors = no_place; streams = 0 }; needed = needed; actual = actual })

-- the number and the values of the answer
abbrev pub start_says : Result PmtSection TooShort → Says Start
start_says (Ok section) = started section
start_says (Err lengths) = too_short lengths.needed lengths.actual

-- "4 plus the low 12 bits of bytes 2 and 3 .. Streams start there"
abbrev pub streams_start : List ℕ → ℕ
streams_start body = 4 + field map_header "program_info_length" body

-- "the PCR PID .., the place of the programme's descriptors (from 4 up to that sum) and that sum"
unfoldable pub section_of : List ℕ → PmtSection
section_of body =
    record {
      pcr_pid = field map_header "PCR_PID" body;
      descriptors = from_up_to 4 (streams_start body);
      streams = streams_start body;
    }

-- "under 4 bytes, 22 with 4 needed; 4 plus .. above the length, 22 with that sum needed"
unfoldable pub start_of : List ℕ → Says Start
start_of body =
    when length body is_below 4 then too_short 4 (length body)
    else when streams_start body is_above length body then too_short (streams_start body) (length body)
    else started (section_of body)
