-- A stream, from the word of its five bytes. Assumes nothing.
use Prim.Native.Nat.{ℕ, ◌+◌, ◌/◌, ◌%◌, ◌≤◌, ◌<◌}
use mathlib.Core.Path.{◌≡◌, refl, ap, ◌∙◌}
use mathlib.Core.Bool.{true}
use mathlib.Core.List.{List}
use native.Mathlib.Nat.{div-one, add_assoc}
use native.Mathlib.Omega.{arith}
use borrow.Author.Tests.{le-leb, lt-leb, lt-ltb, le-ltb}
use lib.ListN.{length, drop, length-drop}
use Rattle.std.specs.Prelude.{Result, Ok, Err}
use Rattle.std.specs.Result.{IsErr, IsErrAnd}
use Rattle.fields.specs.Choice.{when◌then◌else◌, ◌is_at_most◌}
use Rattle.fields.specs.SyntaxTable.{size, behind, width}
use Rattle.fields.specs.Word.{word_of}
use Rattle.fields.proofs.Choices.{test_holds, test_fails}
use Rattle.fields.proofs.SyntaxTables.{field_of_word}
use Rattle.answers.specs.Numbers.{stream_under5, info_past_end}
use Rattle.answers.specs.Says.{refused}
use Rattle.answers.specs.Refusals.{number_of}
use Rattle.answers.specs.declared.Refusal.{Refusal}
use Rattle.walks.specs.Walk.{found, nothing, none_fits_at}
use Rattle.walks.proofs.Walks.{found_entry, found_none}
use Rattle.pmt.specs.Syntax.{stream_header}
use Rattle.pmt.specs.Streams.{info_length, stream_of, why_no_stream, stream_kind, refusal_says, stream_says, stream_at}
use Rattle.pmt.specs.declared.StreamInfo.{StreamInfo}
use Rattle.pmt.specs.declared.StreamRefusal.{StreamRefusal}

-- why no stream fits into some bytes
pub why_under_5 : (bytes : List ℕ) → length bytes < 5 → why_no_stream bytes ≡ stream_under5
why_under_5 bytes short = test_holds _ _ _ (lt-ltb _ _ short)

pub why_info_past_end : (bytes : List ℕ) → 5 ≤ length bytes → why_no_stream bytes ≡ info_past_end
why_info_past_end bytes five = test_fails _ _ _ (le-ltb _ _ five)

module _ (body : List ℕ) (position : ℕ) where
  -- under five bytes left
  pub under_5_found : position < length body → length body < position + 5
      → stream_at body position ≡ none_fits_at stream_kind position stream_under5
  under_5_found l short =
      let under : length (drop position body) < 5 = simp length-drop (omega arith) in
      found_none stream_kind body position l (test_fails _ _ _ (lt-leb 5 (length (drop position body)) under))
      ∙ ap (none_fits_at stream_kind position) (why_under_5 (drop position body) under)

  -- five bytes or more, whose first five are read as a word
  module _ (word : ℕ) (there : position + 5 ≤ length body) (read : word ≡ word_of body position 5) where
    five_there : (5 is_at_most length (drop position body)) ≡ true
    five_there = le-leb 5 (length (drop position body)) (simp length-drop (omega arith))

    info_length_lem : info_length (drop position body) ≡ word % 4096
    unfolding size behind width when◌then◌else◌
    info_length_lem = simp (field_of_word stream_header body position 5 word (omega arith) refl read, div-one)

    -- info past the end
    pub info_past_end_found : length body < position + 5 + word % 4096
        → stream_at body position ≡ none_fits_at stream_kind position info_past_end
    info_past_end_found beyond =
        found_none stream_kind body position (omega arith)
        (test_holds _ _ _ five_there
        ∙ lt-leb (5 + info_length (drop position body)) (length (drop position body))
        (omega (arith, info_length_lem, length-drop position body)))
        ∙ ap (none_fits_at stream_kind position) (why_info_past_end (drop position body) (omega (arith, length-drop position body)))

    pub stream_found : position + 5 + word % 4096 ≤ length body
        → stream_at body position
        ≡ found
        (record {
          stream_type = word / 4294967296 % 256;
          elementary_pid = word / 65536 % 8192;
          info = record { start = position + 5; len = word % 4096 };
        })
        (position + 5 + word % 4096)
    unfolding stream_of size behind width when◌then◌else◌
    stream_found within =
        found_entry stream_kind body position (omega arith)
        (test_holds _ _ _ five_there
        ∙ le-leb (5 + info_length (drop position body)) (length (drop position body))
        (omega (arith, info_length_lem, length-drop position body)))
        ∙ simp (field_of_word stream_header body position 5 word (omega arith) refl read, div-one, add_assoc)

-- a position that is refused
pub refused_there : (answer : Result (StreamInfo × ℕ) StreamRefusal) (refusal : Refusal)
    → IsErr answer × IsErrAnd answer (λ r. r ≡ StreamRefusal.Refused refusal)
    → stream_says answer ≡ refused (number_of refusal) (nothing stream_kind)
refused_there (Ok stream) refusal e = absurd e.1
refused_there (Err r) refusal e = ap refusal_says e.1
