-- Any two answers that a contract allows are equal. Assumes nothing.
use mathlib.Core.Path.{sym, ◌∙◌}
use Rattle.fields.specs.Determines.{Determines}
use Rattle.answers.proofs.Saying.{same_answer}
use Rattle.adaptation_parts.proofs.pcr.Reads as pcr
use Rattle.adaptation_parts.proofs.opcr.Reads as opcr
use Rattle.adaptation_parts.proofs.splice_countdown.Reads as splice_countdown
use Rattle.adaptation_parts.proofs.transport_private_data.Reads as transport_private_data

pub pcr_determined : Determines pcr.Post
pcr_determined κs arguments x y x_exit y_exit p q = same_answer _ x y (p ∙ sym q)

pub opcr_determined : Determines opcr.Post
opcr_determined κs arguments x y x_exit y_exit p q = same_answer _ x y (p ∙ sym q)

pub splice_countdown_determined : Determines splice_countdown.Post
splice_countdown_determined κs arguments x y x_exit y_exit p q = same_answer _ x y (p ∙ sym q)

pub transport_private_data_determined : Determines transport_private_data.Post
transport_private_data_determined κs arguments x y x_exit y_exit p q = same_answer _ x y (p ∙ sym q)
