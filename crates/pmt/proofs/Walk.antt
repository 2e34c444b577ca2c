-- A host that walks the streams of a PMT's body gets those that it lists. Assumes nothing.
use Prim.Native.Nat.{ℕ, zero, suc, ◌+◌, ◌≤◌, ◌<◌}
use mathlib.Core.Path.{◌≡◌, refl, sym, ap, ◌∙◌}
use mathlib.Core.Bool.{false}
use mathlib.Core.List.{List, [], ◌∷◌}
use native.Mathlib.Omega.{arith}
use borrow.Author.Tests.{leb-true, leb-false, le-leb}
use lib.ListN.{length, drop, length-drop}
use Rattle.fields.specs.Choice.{when◌then◌else◌}
use Rattle.fields.proofs.Choices.{test_holds, and_holds, of_both, by_test}
use Rattle.answers.specs.Numbers.{walk_at_end, stream_under5, info_past_end}
use Rattle.walks.specs.Walk.{Walked, walked, exactly, entries_in, left_behind, left_from}
use Rattle.walks.specs.WalkBefore.{found_before}
use Rattle.walks.proofs.AsBefore.{same_entries}
use Rattle.walks.proofs.Walks.{Fitting, walk_is_the_loop, entries_have_bytes, nothing_left_fits, left_from_there, ends_at_end, ends_before}
use Rattle.pmt.specs.Start.{started, streams_start, section_of, start_of}
use Rattle.pmt.specs.Streams.{info_length, stream_of, stream_kind, stream_at, streams, behind_streams, streams_end}
use Rattle.pmt.specs.declared.PmtSection.{PmtSection}
use Rattle.pmt.specs.declared.StreamInfo.{StreamInfo}
use Rattle.pmt.proofs.Starts.{start_given}
use Rattle.pmt.proofs.Streams.{why_under_5, why_info_past_end}

five_bytes : Fitting stream_kind
five_bytes =
    record {
      whole = λ bytes f.
          let within = leb-true (5 + info_length bytes) (length bytes) (and_holds _ _ f).1 in
          omega arith;
      refuses = λ bytes. of_both (λ (n : ℕ). n ≡ 0 → ⊥) _ _ _ (λ e. omega arith) (λ e. omega arith);
    }

-- "Starting elsewhere reads what stands there": a host gets the streams of the loop over the bytes from its first position on
pub host_gets_what_stands_there : (body : List ℕ) (position calls : ℕ) → position ≤ length body → 0 < calls → length body ≤ calls
    → (let bytes = drop position body in
    walked (stream_at body) calls position
    ≡ exactly stream_kind
    (entries_in stream_kind (length bytes) position bytes)
    (left_behind stream_kind (length bytes) bytes)
    (left_from stream_kind (length bytes) position bytes))
host_gets_what_stands_there body position calls h n c =
    walk_is_the_loop stream_kind five_bytes body position calls h n (simp length-drop (omega arith))

-- it gets every stream that it got before walks said why they stop, in as many calls
pub entries_as_before : (body : List ℕ) (calls position : ℕ)
    → ((walked (stream_at body) calls position).entries ≡ (walked (found_before stream_kind body) calls position).entries)
    × ((walked (stream_at body) calls position).calls ≡ (walked (found_before stream_kind body) calls position).calls)
entries_as_before body calls position = same_entries stream_kind body five_bytes calls position

-- the loop over the streams ends since none fits into what it leaves
pub no_stream_behind_streams : (body : List ℕ) → stream_kind.fits (behind_streams body) ≡ false
no_stream_behind_streams body =
    let bytes = drop (streams_start body) body in
    nothing_left_fits stream_kind five_bytes (length bytes) bytes (omega arith)

module _ (body : List ℕ) (section : PmtSection) (start : started section ≡ start_of body) where
  -- a host that starts where the start call says, hands each next position back and may make as many calls as the body has bytes gets the
  -- streams in order, and then 23, or 27 or 28 and where they begin where bytes are left behind them
  pub host_gets_the_streams : (calls : ℕ) → length body ≤ calls
      → walked (stream_at body) calls section.streams ≡ exactly stream_kind (streams body) (behind_streams body) (streams_end body)
  unfolding section_of
  host_gets_the_streams calls c =
      let starts = start_given body section start in
      ap (λ (s : PmtSection). walked (stream_at body) calls s.streams) starts.is
      ∙ host_gets_what_stands_there body (streams_start body) calls starts.within (omega arith) c

  -- and makes no more calls than the body has bytes
  pub within_as_many_calls_as_bytes : (calls : ℕ) → length body ≤ calls
      → (walked (stream_at body) calls section.streams).calls ≤ length body
  within_as_many_calls_as_bytes calls c =
      let starts = start_given body section start in
      let bytes = drop (streams_start body) body in
      rw (host_gets_the_streams calls c) (omega (
        arith,
        starts.four,
        entries_have_bytes stream_kind five_bytes (length bytes) (streams_start body) bytes,
        length-drop (streams_start body) body,
      ))

-- ---- how the walk ends

-- streams that lie one behind the other: the first begins at a place, each where the one before it ends, and the last ends at another place
abbrev pub EndToEnd : ℕ → List StreamInfo → ℕ → Type 0
EndToEnd from [] to = from ≡ to
EndToEnd from (stream ∷ later) to =
    (stream.info.start ≡ from + 5) × EndToEnd (stream.info.start + stream.info.len) later to

lie_in_turns : (turns position : ℕ) (bytes : List ℕ)
    → EndToEnd position (entries_in stream_kind turns position bytes) (left_from stream_kind turns position bytes)
unfolding entries_in left_from stream_of when◌then◌else◌
lie_in_turns zero position bytes = refl
lie_in_turns (suc turns) position bytes =
    let sum : position + 5 + info_length bytes ≡ position + (5 + info_length bytes) = omega arith in
    by_test (stream_kind.fits bytes)
    (λ f. rw f (refl, rw sum (lie_in_turns turns (position + (5 + info_length bytes)) (drop (5 + info_length bytes) bytes))))
    (λ f. rw f refl)

-- The streams that a host got lie end to end from where they start, and what stands from their end on is left behind. The walk ends with 23 where
-- that is nothing; else with 27 where it is under five bytes, and with 28 where it is more, and too few for their info; and then with the offset of
-- their end: that of the first byte that is in no stream.
pub record Ends (body : List ℕ) (walk : Walked StreamInfo) : Type 0 where
  pub lie : EndToEnd (streams_start body) walk.entries (streams_end body)
  pub behind : drop (streams_end body) body ≡ behind_streams body
  pub even : length (behind_streams body) ≡ 0 → (walk.ended ≡ walk_at_end) × (walk.offset ≡ 0)
  pub under : 0 < length (behind_streams body) → length (behind_streams body) < 5
      → (walk.ended ≡ stream_under5) × (walk.offset ≡ streams_end body)
  pub past : 5 ≤ length (behind_streams body)
      → (walk.ended ≡ info_past_end)
      × (walk.offset ≡ streams_end body)
      × (length (behind_streams body) < 5 + info_length (behind_streams body))

-- five bytes or more into which no stream fits are too few for its info
too_few_for_info : (bytes : List ℕ) → stream_kind.fits bytes ≡ false → 5 ≤ length bytes → length bytes < 5 + info_length bytes
too_few_for_info bytes f five =
    leb-false (5 + info_length bytes) (length bytes) (sym (test_holds _ _ _ (le-leb 5 (length bytes) five)) ∙ f)

pub how_the_walk_ends : (body : List ℕ) (section : PmtSection) → started section ≡ start_of body → (calls : ℕ) → length body ≤ calls
    → Ends body (walked (stream_at body) calls section.streams)
how_the_walk_ends body section start calls c =
    let bytes = drop (streams_start body) body in
    let left = behind_streams body in
    let within = (start_given body section start).within in
    let before = ends_before stream_kind (streams body) left (streams_end body) in
    rw (host_gets_the_streams body section start calls c)
    (record {
      lie = lie_in_turns (length bytes) (streams_start body) bytes;
      behind = sym (left_from_there stream_kind five_bytes body (length bytes) (streams_start body) within).0;
      even = ends_at_end stream_kind (streams body) left (streams_end body);
      under = λ some short.
          let ends = before (λ e. omega arith) in
          (ends.0 ∙ why_under_5 left short, ends.1);
      past = λ five.
          let ends = before (λ e. omega arith) in
          (ends.0 ∙ why_info_past_end left five, ends.1, too_few_for_info left (no_stream_behind_streams body) five);
    })
