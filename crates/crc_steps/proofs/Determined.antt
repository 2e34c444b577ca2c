-- Any two answers that a contract allows are equal. Assumes nothing.
use mathlib.Core.Path.{sym, ◌∙◌}
use Rattle.fields.specs.Determines.{Determines}
use Rattle.crc_steps.proofs.eight_bytes_enter.Reads as eight_bytes_enter

pub eight_bytes_enter_determined : Determines eight_bytes_enter.Post
eight_bytes_enter_determined κs arguments x y x_exit y_exit p q = p ∙ sym q
