-- Any two answers that the contract allows are equal. Assumes nothing.
use mathlib.Core.Path.{sym, ◌∙◌}
use Rattle.fields.specs.Determines.{Determines}
use Rattle.capi_delivered.proofs.jambpepper_section.Reads as section

pub jambpepper_section_determined : Determines section.Post
jambpepper_section_determined κs arguments x y x_exit y_exit p q = p ∙ sym q
