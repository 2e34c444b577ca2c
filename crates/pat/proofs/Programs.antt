-- A program, from the word of its four bytes. Assumes nothing.
use Prim.Native.Nat.{ℕ, ◌+◌, ◌/◌, ◌%◌, ◌≤◌, ◌<◌}
use mathlib.Core.Path.{◌≡◌, refl, ap, ◌∙◌}
use mathlib.Core.List.{List}
use native.Mathlib.Nat.{div-one}
use native.Mathlib.Omega.{arith}
use borrow.Author.Tests.{le-leb, lt-leb, eq-eqb, ne_eqb}
use lib.ListN.{length, drop, length-drop}
use Rattle.std.specs.Prelude.{Result, Ok, Err}
use Rattle.std.specs.Result.{IsErr, IsErrAnd}
use Rattle.fields.specs.Choice.{when◌then◌else◌, ◌is◌}
use Rattle.fields.specs.SyntaxTable.{size, behind, width}
use Rattle.fields.specs.Word.{word_of}
use Rattle.fields.proofs.SyntaxTables.{field_of_word}
use Rattle.fields.proofs.Choices.{test_holds, test_fails}
use Rattle.answers.specs.Numbers.{pat_tail}
use Rattle.answers.specs.Says.{Says, refused}
use Rattle.answers.specs.Refusals.{number_of}
use Rattle.answers.specs.declared.Refusal.{Refusal}
use Rattle.walks.specs.Walk.{Found, found, nothing, none_fits_at}
use Rattle.walks.proofs.Walks.{found_entry, found_none}
use Rattle.pat.specs.Syntax.{network_entry, program_entry}
use Rattle.pat.specs.Programs.{program_of, program_kind, refusal_says, program_says, program_at}
use Rattle.pat.specs.declared.ProgramRefusal.{ProgramRefusal}
use Rattle.pat.specs.declared.ProgramDescriptor.{ProgramDescriptor}
use Rattle.pat.specs.declared.ProgramDescriptor.TheVariants.{Network, Program}

module _ (body : List ℕ) (position : ℕ) where
  -- under four bytes left
  pub tail_found : position < length body → length body < position + 4
      → program_at body position ≡ none_fits_at program_kind position pat_tail
  tail_found l short =
      found_none program_kind body position l (lt-leb 4 (length (drop position body)) (simp length-drop (omega arith)))

  -- four bytes or more, whose first four are read as a word
  module _ (word : ℕ) (there : position + 4 ≤ length body) (read : word ≡ word_of body position 4) where
    found_with : ProgramDescriptor → Says (Found ProgramDescriptor)
    found_with program = found program (position + 4)

    entry_found : program_at body position
        ≡ found_with (when word / 65536 % 65536 is 0 then Network (word % 8192) else Program (word / 65536 % 65536) (word % 8192))
    unfolding found_with program_of size behind width when◌then◌else◌
    entry_found =
        found_entry program_kind body position (omega arith) (le-leb 4 (length (drop position body)) (simp length-drop (omega arith)))
        ∙ simp (
          field_of_word program_entry body position 4 word (omega arith) refl read,
          field_of_word network_entry body position 4 word (omega arith) refl read,
          div-one,
        )

    pub network_found : word / 65536 % 65536 ≡ 0
        → program_at body position ≡ found (Network (word % 8192)) (position + 4)
    unfolding found_with
    network_found e = entry_found ∙ ap found_with (test_holds _ _ _ (eq-eqb _ _ e))

    pub program_found : (word / 65536 % 65536 ≡ 0 → ⊥)
        → program_at body position ≡ found (Program (word / 65536 % 65536) (word % 8192)) (position + 4)
    unfolding found_with
    program_found n = entry_found ∙ ap found_with (test_fails _ _ _ (ne_eqb _ _ n))

-- a position that is refused
pub refused_there : (answer : Result (ProgramDescriptor × ℕ) ProgramRefusal) (refusal : Refusal)
    → IsErr answer × IsErrAnd answer (λ r. r ≡ ProgramRefusal.Refused refusal)
    → program_says answer ≡ refused (number_of refusal) (nothing program_kind)
refused_there (Ok program) refusal e = absurd e.1
refused_there (Err r) refusal e = ap refusal_says e.1
