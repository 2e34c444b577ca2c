-- Any two answers that a contract allows are equal. Assumes nothing.
use mathlib.Core.Path.{sym, ◌∙◌}
use Rattle.fields.specs.Determines.{Determines}
use Rattle.answers.proofs.Saying.{same_answer}
use Rattle.adaptation.proofs.AdaptationField.of.Reads as of

pub of_determined : Determines of.Post
of_determined κs arguments x y x_exit y_exit p q = same_answer _ x y (p ∙ sym q)
