-- The streams of a PMT's body: document 01, "Sections, CRC, PAT, PMT".
use Rattle.std.specs.Prelude.{ℕ, ◌+◌, List, length, drop, Result, Ok, Err}
use Rattle.fields.specs.Choice.{when◌then◌else◌, ◌and◌, ◌is_at_most◌, ◌is_below◌}
use Rattle.fields.specs.SyntaxTable.{field}
use Rattle.answers.specs.Numbers.{stream_under5, info_past_end}
use Rattle.answers.specs.Says.{Says, refused}
use Rattle.answers.specs.Refusals.{number_of}
use Rattle.psi.specs.Place.{no_place}
use Rattle.walks.specs.Walk.{Kind, Found, found, nothing, none_fits_at, found_at, entries_in, left_behind, left_from}
use Rattle.pmt.specs.Syntax.{stream_header}
use Rattle.pmt.specs.Start.{streams_start}
use Rattle.pmt.specs.declared.StreamInfo.{StreamInfo}
use Rattle.pmt.specs.declared.StreamRefusal.{StreamRefusal}

-- "12-bit info length"
abbrev pub info_length : List ℕ → ℕ
info_length entry = field stream_header "ES_info_length" entry

-- "type, PID", and the place of the info, behind the five bytes
unfoldable pub stream_of : ℕ → List ℕ → StreamInfo
stream_of position entry =
    record {
      stream_type = field stream_header "stream_type" entry;
      elementary_pid = field stream_header "elementary_PID" entry;
      info = record { start = position + 5; len = info_length entry };
    }

-- "27 for a stream entry under 5 bytes and 28 for stream info past the end"
abbrev pub why_no_stream : List ℕ → ℕ
why_no_stream bytes = when length bytes is_below 5 then stream_under5 else info_past_end

-- "5 bytes and the info": none fits under 5, nor where the info passes the end
abbrev pub stream_kind : Kind StreamInfo
stream_kind =
    record {
      fits = λ bytes. (5 is_at_most length bytes) and (5 + info_length bytes is_at_most length bytes);
      why_not = why_no_stream;
      size = λ bytes. 5 + info_length bytes;
      entry = stream_of;
      none = record { stream_type = 0; elementary_pid = 0; info = no_place };
    }

-- the number and the offset of each refusal
abbrev pub refusal_says : StreamRefusal → Says (Found StreamInfo)
refusal_says (StreamRefusal.Under5 offset) = none_fits_at stream_kind offset stream_under5
refusal_says (StreamRefusal.InfoPastEnd offset) = none_fits_at stream_kind offset info_past_end
refusal_says (StreamRefusal.Refused refusal) = refused (number_of refusal) (nothing stream_kind)

-- the number, the values and the offset of the answer
abbrev pub stream_says : Result (StreamInfo × ℕ) StreamRefusal → Says (Found StreamInfo)
stream_says (Ok answer) = found answer.0 answer.1
stream_says (Err refusal) = refusal_says refusal

-- "Walks take a body and a position"; "Starting elsewhere reads what stands there"
abbrev pub stream_at : List ℕ → ℕ → Says (Found StreamInfo)
stream_at body position = found_at stream_kind body position

-- ---- the second loop of TS_program_map_section(): for (i = 0; i < N1; i++) { stream_type .. }

-- the streams that it lists, one behind the other from where they start; there are no more of them than bytes
abbrev pub streams : List ℕ → List StreamInfo
streams body =
    let bytes = drop (streams_start body) body in
    entries_in stream_kind (length bytes) (streams_start body) bytes

-- the bytes behind the last of them
abbrev pub behind_streams : List ℕ → List ℕ
behind_streams body =
    let bytes = drop (streams_start body) body in
    left_behind stream_kind (length bytes) bytes

-- where these begin
abbrev pub streams_end : List ℕ → ℕ
streams_end body =
    let bytes = drop (streams_start body) body in
    left_from stream_kind (length bytes) (streams_start body) bytes
