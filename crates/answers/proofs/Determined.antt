-- Any two answers that a contract allows are equal. Assumes nothing.
use mathlib.Core.Path.{sym, ◌∙◌}
use Rattle.fields.specs.Determines.{Determines}
use Rattle.answers.proofs.Refusal.number.Reads as number

pub number_determined : Determines number.Post
number_determined κs a x y at_x at_y p q = p ∙ sym q
