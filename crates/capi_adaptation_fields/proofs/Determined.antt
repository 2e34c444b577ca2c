-- Any two answers that a contract allows are equal. Assumes nothing.
use mathlib.Core.Path.{sym, ◌∙◌}
use Rattle.fields.specs.Determines.{Determines}
use Rattle.capi_adaptation_fields.proofs.jambpepper_adaptation_field.Reads as adaptation_field
use Rattle.capi_adaptation_fields.proofs.jambpepper_pcr.Reads as pcr
use Rattle.capi_adaptation_fields.proofs.jambpepper_opcr.Reads as opcr
use Rattle.capi_adaptation_fields.proofs.jambpepper_splice_countdown.Reads as splice_countdown
use Rattle.capi_adaptation_fields.proofs.jambpepper_transport_private_data.Reads as transport_private_data

pub jambpepper_adaptation_field_determined : Determines adaptation_field.Post
jambpepper_adaptation_field_determined κs arguments x y x_exit y_exit p q = p ∙ sym q

pub jambpepper_pcr_determined : Determines pcr.Post
jambpepper_pcr_determined κs arguments x y x_exit y_exit p q = p ∙ sym q

pub jambpepper_opcr_determined : Determines opcr.Post
jambpepper_opcr_determined κs arguments x y x_exit y_exit p q = p ∙ sym q

pub jambpepper_splice_countdown_determined : Determines splice_countdown.Post
jambpepper_splice_countdown_determined κs arguments x y x_exit y_exit p q = p ∙ sym q

pub jambpepper_transport_private_data_determined : Determines transport_private_data.Post
jambpepper_transport_private_data_determined κs arguments x y x_exit y_exit p q = p ∙ sym q
