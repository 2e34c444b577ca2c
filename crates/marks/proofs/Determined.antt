-- Any two answers that a contract allows are equal. Assumes nothing.
use mathlib.Core.Path.{sym, ◌∙◌}
use Rattle.fields.specs.Determines.{Determines}
use Rattle.marks.proofs.Marks.none.Reads as none
use Rattle.marks.proofs.Marks.any.Reads as any
use Rattle.marks.proofs.Marks.marked.Reads as marked
use Rattle.marks.proofs.Marks.with_mark.Reads as with_mark

pub none_determined : Determines none.Post
none_determined κs arguments x y x_exit y_exit p q = p ∙ sym q

pub any_determined : Determines any.Post
any_determined κs arguments x y x_exit y_exit p q = p ∙ sym q

pub marked_determined : Determines marked.Post
marked_determined κs arguments x y x_exit y_exit p q = p ∙ sym q

pub with_mark_determined : Determines with_mark.Post
with_mark_determined κs arguments x y x_exit y_exit p q = p ∙ sym q
