-- Any two answers that a contract allows are equal. Assumes nothing.
use mathlib.Core.Path.{sym, ◌∙◌}
use Rattle.fields.specs.Determines.{Determines}
use Rattle.labels.proofs.Label.none.Reads as none
use Rattle.labels.proofs.Label.of.Reads as of

pub none_determined : Determines none.Post
none_determined κs arguments x y x_exit y_exit p q = p ∙ sym q

pub of_determined : Determines of.Post
of_determined κs arguments x y x_exit y_exit p q = p ∙ sym q
