-- Any two answers that a contract allows are equal. Assumes nothing.
use mathlib.Core.Path.{sym, ◌∙◌}
use Rattle.fields.specs.Determines.{Determines}
use Rattle.answers.proofs.Saying.{same_answer}
use Rattle.packet.proofs.ContinuityCounter.follows.Reads as follows
use Rattle.packet.proofs.Packet.header.Reads as header
use Rattle.packet.proofs.Packet.payload.Reads as payload
use Rattle.packet.proofs.payload_number.Reads as payload_number

pub follows_determined : Determines follows.Post
follows_determined κs arguments x y x_exit y_exit p q = p ∙ sym q

pub header_determined : Determines header.Post
header_determined κs arguments x y x_exit y_exit p q = same_answer _ x y (p ∙ sym q)

pub payload_determined : Determines payload.Post
payload_determined κs arguments x y x_exit y_exit p q = same_answer _ x y (p ∙ sym q)

pub payload_number_determined : Determines payload_number.Post
payload_number_determined κs arguments x y x_exit y_exit p q = p ∙ sym q
