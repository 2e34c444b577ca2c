-- `packet::Packet::payload` meets its contract: a refusal of the header is the payload's, and behind a header the control decides.
-- Assumes nothing.
use mathlib.Core.Path.{sym, ap, ◌∙◌}
use Rattle.answers.proofs.Saying.{passed_on}
use Rattle.packet.specs.Header.{header_says, fields_of}
use Rattle.packet.specs.Payload.{payload_of, payload_behind}
use Rattle.packet.proofs.Packets.{header_given, told_of_a_packet, refused_as_its_header}
use Rattle.packet.proofs.Packet.payload.Goals as goal

pub payload_behind-requires : goal.payload_behind-requires
unfolding fields_of
payload_behind-requires c =
    let known = c.in_ok-header.was in
    let packet = header_given _ _ (sym (ap header_says known) ∙ c.header.ensures) in
    (packet.sized, ap (λ h. h.adaptation_field_control) packet.fields)

pub returns : goal.returns
unfolding payload_of
returns c =
    let known = c.in_ok-header.was in
    c.payload_behind.ensures
    ∙ sym (told_of_a_packet _ 0 (payload_behind _) _ (sym (ap header_says known) ∙ c.header.ensures))

pub returns-in_err-header : goal.returns-in_err-header
unfolding payload_of
returns-in_err-header c =
    let known = c.in_err-header.was in
    passed_on 0 _ _ c.from_residual.ensures
    ∙ sym (refused_as_its_header _ 0 (payload_behind _) _ (sym (ap header_says known) ∙ c.header.ensures))
