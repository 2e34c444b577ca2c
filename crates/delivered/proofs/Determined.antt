-- Any two answers that the contract allows are equal: the part that is read is lent, and its bytes are what is equal. Assumes nothing.
use mathlib.Core.Path.{sym, ◌∙◌}
use Rattle.fields.specs.Determines.{DeterminesBytes}
use Rattle.delivered.proofs.section.Reads as section

pub section_determined : DeterminesBytes section.Post (λ κs part. part.now)
section_determined κs arguments x y x_exit y_exit p q = p ∙ sym q
