-- The programs of a PAT's body: document 01, "Sections, CRC, PAT, PMT".
use Rattle.std.specs.Prelude.{ℕ, List, length, Result, Ok, Err}
use Rattle.fields.specs.Choice.{when◌then◌else◌, ◌is◌, ◌is_at_most◌}
use Rattle.fields.specs.SyntaxTable.{field}
use Rattle.answers.specs.Numbers.{pat_tail}
use Rattle.answers.specs.Says.{Says, refused}
use Rattle.answers.specs.Refusals.{number_of}
use Rattle.walks.specs.Walk.{Kind, Found, found, nothing, none_fits_at, found_at, entries_in, left_behind, left_from}
use Rattle.pat.specs.Syntax.{network_entry, program_entry}
use Rattle.pat.specs.declared.ProgramDescriptor.{ProgramDescriptor}
use Rattle.pat.specs.declared.ProgramDescriptor.TheVariants.{Network, Program}
use Rattle.pat.specs.declared.ProgramRefusal.{ProgramRefusal}

-- "program number, 3 bits skipped, PID; number 0 means network"
unfoldable pub program_of : List ℕ → ProgramDescriptor
program_of entry =
    when field program_entry "program_number" entry is 0 then Network (field network_entry "network_PID" entry)
    else Program (field program_entry "program_number" entry) (field program_entry "program_map_PID" entry)

-- "PAT entry: 4 bytes"; "Keep 24 for a PAT tail of one to three bytes"
abbrev pub program_kind : Kind ProgramDescriptor
program_kind =
    record {
      fits = λ bytes. 4 is_at_most length bytes;
      why_not = λ bytes. pat_tail;
      size = λ bytes. 4;
      entry = λ position bytes. program_of bytes;
      none = Network 0;
    }

-- the number and the offset of each refusal
abbrev pub refusal_says : ProgramRefusal → Says (Found ProgramDescriptor)
refusal_says (ProgramRefusal.Tail offset) = none_fits_at program_kind offset pat_tail
refusal_says (ProgramRefusal.Refused refusal) = refused (number_of refusal) (nothing program_kind)

-- the number, the values and the offset of the answer
abbrev pub program_says : Result (ProgramDescriptor × ℕ) ProgramRefusal → Says (Found ProgramDescriptor)
program_says (Ok answer) = found answer.0 answer.1
program_says (Err refusal) = refusal_says refusal

-- "Walks take a body and a position"
abbrev pub program_at : List ℕ → ℕ → Says (Found ProgramDescriptor)
program_at body position = found_at program_kind body position

-- ---- the loop of program_association_section(): for (i = 0; i < N; i++) { program_number .. }

-- the programs that it lists, one behind the other from the body's first byte on; there are no more of them than bytes
abbrev pub programs : List ℕ → List ProgramDescriptor
programs body = entries_in program_kind (length body) 0 body

-- the bytes behind the last of them
abbrev pub behind_programs : List ℕ → List ℕ
behind_programs body = left_behind program_kind (length body) body

-- where these begin
abbrev pub programs_end : List ℕ → ℕ
programs_end body = left_from program_kind (length body) 0 body
