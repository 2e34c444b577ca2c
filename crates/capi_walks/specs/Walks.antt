-- What the walks say, as C sees it.
use Rattle.std.specs.Prelude.{ℕ}
use Rattle.answers.specs.Says.{Says}
use Rattle.walks.specs.Walk.{Found, found, none_fits_at}
use Rattle.pat.specs.Programs.{program_kind}
use Rattle.pat.specs.declared.ProgramDescriptor.{ProgramDescriptor}
use Rattle.pmt.specs.Start.{Start}
use Rattle.pmt.specs.Streams.{stream_kind}
use Rattle.pmt.specs.declared.StreamInfo.{StreamInfo}
use Rattle.capi_numbers.specs.Numbers.{answer_of}
use Rattle.capi_walks.specs.declared.JambpepperProgram.{JambpepperProgram}
use Rattle.capi_walks.specs.declared.JambpepperPmt.{JambpepperPmt}
use Rattle.capi_walks.specs.declared.JambpepperStream.{JambpepperStream}

-- "number 0 means network"
abbrev pub program_number : ProgramDescriptor → ℕ
program_number (ProgramDescriptor.Network pid) = 0
program_number (ProgramDescriptor.Program number pid) = number

abbrev pub program_pid : ProgramDescriptor → ℕ
program_pid (ProgramDescriptor.Network pid) = pid
program_pid (ProgramDescriptor.Program number pid) = pid

abbrev pub program_for_c : Says (Found ProgramDescriptor) → JambpepperProgram
program_for_c said =
    record {
      next = said.values.next;
      offset = said.values.offset;
      program_number = program_number said.values.entry;
      pid = program_pid said.values.entry;
      answer = answer_of said;
    }

-- an entry that was found, and the position behind it
abbrev pub found_program : ProgramDescriptor → ℕ → JambpepperProgram
found_program program next = program_for_c (found program next)

-- a refused answer, and what it tells
abbrev pub no_program : ℕ → ℕ → JambpepperProgram
no_program offset answer = program_for_c (none_fits_at program_kind offset answer)

abbrev pub pmt_for_c : Says Start → JambpepperPmt
pmt_for_c said =
    record {
      descriptors_start = said.values.section.descriptors.start;
      descriptors_length = said.values.section.descriptors.len;
      streams = said.values.section.streams;
      needed = said.values.needed;
      actual = said.values.actual;
      pcr_pid = said.values.section.pcr_pid;
      answer = answer_of said;
    }

abbrev pub stream_for_c : Says (Found StreamInfo) → JambpepperStream
stream_for_c said =
    record {
      info_start = said.values.entry.info.start;
      info_length = said.values.entry.info.len;
      next = said.values.next;
      offset = said.values.offset;
      elementary_pid = said.values.entry.elementary_pid;
      stream_type = said.values.entry.stream_type;
      answer = answer_of said;
    }

abbrev pub no_stream : ℕ → ℕ → JambpepperStream
no_stream offset answer = stream_for_c (none_fits_at stream_kind offset answer)
