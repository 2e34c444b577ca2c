-- A host that walks a PAT's body gets the programs that it lists. Assumes nothing.
use Prim.Native.Nat.{ℕ, zero, suc, ◌+◌, ◌*◌, ◌≤◌, ◌<◌}
use mathlib.Core.Path.{◌≡◌, refl, ap, ◌∙◌}
use mathlib.Core.List.{List, ◌∷◌}
use native.Mathlib.Omega.{arith}
use borrow.Author.Tests.{leb-true, leb-false}
use lib.ListN.{length, drop, get_or, length-drop}
use lib.Seq.{drop-drop}
use Rattle.fields.specs.Choice.{when◌then◌else◌, ◌is_at_most◌}
use Rattle.fields.proofs.Choices.{by_test}
use Rattle.answers.specs.Numbers.{walk_at_end, pat_tail}
use Rattle.walks.specs.Walk.{Walked, walked, exactly, entries_in, left_behind, left_from}
use Rattle.walks.specs.WalkBefore.{found_before}
use Rattle.walks.proofs.AsBefore.{same_entries}
use Rattle.walks.proofs.Walks.{Fitting, walk_is_the_loop, entries_have_bytes, nothing_left_fits, ends_at_end, ends_before}
use Rattle.pat.specs.declared.ProgramDescriptor.{ProgramDescriptor}
use Rattle.pat.specs.Programs.{program_of, program_kind, program_at, programs, behind_programs, programs_end}

four_bytes : Fitting program_kind
four_bytes =
    record {
      whole = λ bytes f. let l = leb-true 4 (length bytes) f in omega arith;
      refuses = λ bytes e. omega arith;
    }

-- a host that starts at 0, hands each next position back and may make as many calls as the body has bytes (one, where it has none) gets
-- the programs in order, and then 23, or 24 and where they begin where bytes are left behind them
pub host_gets_the_programs : (body : List ℕ) (calls : ℕ) → 0 < calls → length body ≤ calls
    → walked (program_at body) calls 0 ≡ exactly program_kind (programs body) (behind_programs body) (programs_end body)
host_gets_the_programs body calls n c = walk_is_the_loop program_kind four_bytes body 0 calls (omega arith) n c

-- and makes no more calls than the body has bytes (one, where it has none)
pub within_as_many_calls_as_bytes : (body : List ℕ) (calls : ℕ) → 0 < length body → length body ≤ calls
    → (walked (program_at body) calls 0).calls ≤ length body
within_as_many_calls_as_bytes body calls l c =
    rw (host_gets_the_programs body calls (omega arith) c)
    (omega (arith, entries_have_bytes program_kind four_bytes (length body) 0 body))

-- it gets every program that it got before walks said why they stop, in as many calls
pub entries_as_before : (body : List ℕ) (calls position : ℕ)
    → ((walked (program_at body) calls position).entries ≡ (walked (found_before program_kind body) calls position).entries)
    × ((walked (program_at body) calls position).calls ≡ (walked (found_before program_kind body) calls position).calls)
entries_as_before body calls position = same_entries program_kind body four_bytes calls position

-- ---- the programs are those of the standard's loop: for (i = 0; i < N; i++)

module _ (any : ProgramDescriptor) where
  first_or_later : (bytes : List ℕ) (later : List ProgramDescriptor)
      → ((i : ℕ) → i < length later → get_or later i any ≡ program_of (drop (4 * i) (drop 4 bytes)))
      → (i : ℕ) → i < suc (length later) → get_or (program_of bytes ∷ later) i any ≡ program_of (drop (4 * i) bytes)
  first_or_later bytes later each zero l = refl
  first_or_later bytes later each (suc i) l =
      each i (omega arith)
      ∙ ap program_of (drop-drop (4 * i) 4 bytes ∙ ap (λ (n : ℕ). drop n bytes) (let q : 4 + 4 * i ≡ 4 * suc i = omega arith in q))

  program_in_turn : (turns position : ℕ) (bytes : List ℕ) (i : ℕ) → i < length (entries_in program_kind turns position bytes)
      → get_or (entries_in program_kind turns position bytes) i any ≡ program_of (drop (4 * i) bytes)
  unfolding entries_in when◌then◌else◌
  program_in_turn zero position bytes i l = absurd (omega arith)
  program_in_turn (suc turns) position bytes i l =
      by_test (4 is_at_most length bytes)
      (λ f. rw f
      (first_or_later bytes (entries_in program_kind turns (position + 4) (drop 4 bytes))
      (program_in_turn turns (position + 4) (drop 4 bytes)) i (rw f at l)))
      (λ f. absurd (let none : i < 0 = rw f at l in omega arith))

  -- entry i stands in the four bytes from 4 * i on
  pub program_i : (body : List ℕ) (i : ℕ) → i < length (programs body) → get_or (programs body) i any ≡ program_of (drop (4 * i) body)
  program_i body i l = program_in_turn (length body) 0 body i l

bytes_in_turns : (turns position : ℕ) (bytes : List ℕ)
    → (4 * length (entries_in program_kind turns position bytes) + length (left_behind program_kind turns bytes) ≡ length bytes)
    × (left_from program_kind turns position bytes ≡ position + 4 * length (entries_in program_kind turns position bytes))
unfolding entries_in left_behind left_from when◌then◌else◌
bytes_in_turns zero position bytes = (omega arith, omega arith)
bytes_in_turns (suc turns) position bytes =
    by_test (4 is_at_most length bytes)
    (λ f.
    let l = leb-true 4 (length bytes) f in
    let later = bytes_in_turns turns (position + 4) (drop 4 bytes) in
    let len = length-drop 4 bytes in
    rw f (omega arith, omega arith))
    (λ f. rw f (omega arith, omega arith))

-- there are as many as the body has times four bytes, and under four bytes behind the last
pub as_many_as_fours : (body : List ℕ)
    → (4 * length (programs body) + length (behind_programs body) ≡ length body) × (length (behind_programs body) < 4)
as_many_as_fours body = (
  (bytes_in_turns (length body) 0 body).0,
  leb-false 4 (length (behind_programs body)) (nothing_left_fits program_kind four_bytes (length body) body (omega arith)),
)

-- ---- how the walk ends

-- where the body has a multiple of four bytes, with 23; else with 24 and the offset of the first byte that is in no program
pub record Ends (body : List ℕ) (walk : Walked ProgramDescriptor) : Type 0 where
  pub even : 4 * length (programs body) ≡ length body → (walk.ended ≡ walk_at_end) × (walk.offset ≡ 0)
  pub tail : 4 * length (programs body) < length body
      → (walk.ended ≡ pat_tail) × (walk.offset ≡ 4 * length (programs body))

pub how_the_walk_ends : (body : List ℕ) (calls : ℕ) → 0 < calls → length body ≤ calls → Ends body (walked (program_at body) calls 0)
how_the_walk_ends body calls n c =
    let fours = as_many_as_fours body in
    let end : programs_end body ≡ 4 * length (programs body) = omega (arith, (bytes_in_turns (length body) 0 body).1) in
    let left = behind_programs body in
    rw (host_gets_the_programs body calls n c)
    (record {
      even = λ e. ends_at_end program_kind (programs body) left (programs_end body) (omega arith);
      tail = λ l.
          let ends = ends_before program_kind (programs body) left (programs_end body) (λ e. omega arith) in
          (ends.0, ends.1 ∙ end);
    })
