-- Any two answers that a contract allows are equal. Assumes nothing.
use mathlib.Core.Path.{◌≡◌, refl, sym, ap, ◌∙◌}
use borrow.Author.Tests.{ne_eqb}
use Rattle.std.specs.Prelude.{ℕ, Result, Ok, Err}
use Rattle.fields.specs.Choice.{when◌then◌else◌, ◌is◌}
use Rattle.fields.specs.Determines.{Determines}
use Rattle.fields.proofs.Choices.{test_fails}
use Rattle.answers.specs.Says.{Says}
use Rattle.answers.specs.declared.Refusal.{Refusal}
use Rattle.answers.proofs.RefusalNumbers.{numbered, numbered_number, no_refusal_is_0, no_refusal_is_24}
use Rattle.walks.specs.Walk.{Found}
use Rattle.pat.specs.Programs.{program_says}
use Rattle.pat.specs.declared.ProgramDescriptor.{ProgramDescriptor}
use Rattle.pat.specs.declared.ProgramRefusal.{ProgramRefusal}
use Rattle.pat.proofs.PatSection.program_at.Reads as program_at
use Rattle.pat.proofs.ProgramRefusal.number.Reads as number

-- the answer of which that is said
answer_of : Says (Found ProgramDescriptor) → Result (ProgramDescriptor × ℕ) ProgramRefusal
answer_of said =
    when said.number is 0 then Ok (said.values.entry, said.values.next)
    else when said.number is 24 then Err (ProgramRefusal.Tail said.values.offset)
    else Err (ProgramRefusal.Refused (numbered said.number))

said_of_it : (answer : Result (ProgramDescriptor × ℕ) ProgramRefusal) → answer_of (program_says answer) ≡ answer
unfolding answer_of when◌then◌else◌
said_of_it (Ok found) = refl
said_of_it (Err (ProgramRefusal.Tail offset)) = refl
said_of_it (Err (ProgramRefusal.Refused r)) =
    test_fails _ _ _ (ne_eqb _ _ (no_refusal_is_0 r))
    ∙ test_fails _ _ _ (ne_eqb _ _ (no_refusal_is_24 r))
    ∙ ap (λ (r : Refusal). Err (ProgramRefusal.Refused r)) (numbered_number r)

pub number_determined : Determines number.Post
number_determined κs arguments x y x_exit y_exit p q = p ∙ sym q

pub program_at_determined : Determines program_at.Post
program_at_determined κs arguments x y x_exit y_exit p q = sym (said_of_it x) ∙ ap answer_of (p ∙ sym q) ∙ said_of_it y
