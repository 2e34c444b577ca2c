-- `packet::Packet::header` meets its contract: the fields of its table, cut out of the word of its four bytes. Assumes nothing.
use native.Mathlib.Omega.{arith}
use native.Mathlib.Nat.{div-one}
use borrow.Author.Tests.{eq-eqb, ne_eqb}
use Rattle.fields.specs.Choice.{when◌then◌else◌}
use Rattle.fields.specs.SyntaxTable.{size, behind, width}
use Rattle.packet.specs.Header.{of_a_packet, fields_of, header_of}
use Rattle.packet.proofs.Packets.{header_field}
use Rattle.packet.proofs.Packet.header.Goals as goal

pub returns-then-packet-ne-SIZE : goal.returns-then-packet-ne-SIZE
unfolding header_of of_a_packet when◌then◌else◌
returns-then-packet-ne-SIZE c = simp (ne_eqb _ _ c.if-packet-ne-SIZE.true)

pub returns-then-bits : goal.returns-then-bits
unfolding header_of of_a_packet when◌then◌else◌ size behind width
returns-then-bits c =
    let bits = c.word-bits in
    let packet = c.args.packet.now in
    simp (eq-eqb _ _ c.if-packet-ne-SIZE.false, header_field packet bits.result (omega arith) bits.ensures)
    (simp (ne_eqb _ _ c.if-bits.true))

pub returns : goal.returns
unfolding header_of of_a_packet fields_of when◌then◌else◌ size behind width
returns c =
    let bits = c.word-bits in
    let packet = c.args.packet.now in
    simp (eq-eqb _ _ c.if-packet-ne-SIZE.false, header_field packet bits.result (omega arith) bits.ensures)
    (simp (eq-eqb _ _ c.if-bits.false, div-one))
