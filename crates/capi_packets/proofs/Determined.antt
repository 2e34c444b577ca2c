-- Any two answers that a contract allows are equal. Assumes nothing.
use mathlib.Core.Path.{sym, ◌∙◌}
use Rattle.fields.specs.Determines.{Determines}
use Rattle.capi_packets.proofs.jambpepper_header.Reads as header
use Rattle.capi_packets.proofs.jambpepper_payload.Reads as payload
use Rattle.capi_packets.proofs.jambpepper_counter_follows.Reads as counter_follows

pub jambpepper_header_determined : Determines header.Post
jambpepper_header_determined κs arguments x y x_exit y_exit p q = p ∙ sym q

pub jambpepper_payload_determined : Determines payload.Post
jambpepper_payload_determined κs arguments x y x_exit y_exit p q = p ∙ sym q

pub jambpepper_counter_follows_determined : Determines counter_follows.Post
jambpepper_counter_follows_determined κs arguments x y x_exit y_exit p q = p ∙ sym q
