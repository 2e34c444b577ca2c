-- Any two answers that a contract allows are equal. Assumes nothing.
use mathlib.Core.Path.{◌≡◌, refl, sym, ap, ◌∙◌}
use Rattle.std.specs.Prelude.{Result, Ok, Err}
use Rattle.fields.specs.Determines.{Determines}
use Rattle.answers.specs.declared.Refusal.{Refusal}
use Rattle.answers.proofs.RefusalNumbers.{one_number_one_refusal, no_refusal_is_2}
use Rattle.answers.proofs.Saying.{same_answer, same_leave}
use Rattle.gathering_rules.specs.Verdict.{verdict_number}
use Rattle.gathering_rules.proofs.checked.Reads as checked
use Rattle.gathering_rules.proofs.least_held.Reads as least_held
use Rattle.gathering_rules.proofs.test_start.Reads as test_start
use Rattle.gathering_rules.proofs.verdict.Reads as verdict

-- no refusal's number is 2
same_verdict : (x y : Result Unit Refusal) → verdict_number x ≡ verdict_number y → x ≡ y
same_verdict (Ok v) (Ok w) e = refl
same_verdict (Ok v) (Err s) e = absurd (no_refusal_is_2 s (sym e))
same_verdict (Err r) (Ok w) e = absurd (no_refusal_is_2 r e)
same_verdict (Err r) (Err s) e = ap Err (one_number_one_refusal r s e)

pub checked_determined : Determines checked.Post
checked_determined κs arguments x y x_exit y_exit p q = same_answer _ x y (p ∙ sym q)

pub least_held_determined : Determines least_held.Post
least_held_determined κs arguments x y x_exit y_exit p q = p ∙ sym q

pub test_start_determined : Determines test_start.Post
test_start_determined κs arguments x y x_exit y_exit p q = same_leave x y (p ∙ sym q)

pub verdict_determined : Determines verdict.Post
verdict_determined κs arguments x y x_exit y_exit p q = same_verdict x y (p ∙ sym q)
