-- Any two answers that a contract allows are equal. Assumes nothing.
use mathlib.Core.Path.{sym, ◌∙◌}
use Rattle.fields.specs.Determines.{Determines}
use Rattle.answers.proofs.Saying.{same_answer}
use Rattle.walks.proofs.left_at.Reads as left_at

pub left_at_determined : Determines left_at.Post
left_at_determined κs arguments x y x_exit y_exit p q = same_answer _ x y (p ∙ sym q)
