-- `reader::pointer_at` meets its contract: unit start and pointer, cut out of their words. Assumes nothing.
use mathlib.Core.Path.{refl}
use native.Mathlib.Omega.{arith}
use native.Mathlib.Nat.{div-one}
use lib.ListN.{length-drop}
use borrow.Author.Tests.{eq-eqb, ne_eqb, lt-ltb, le-leb}
use Rattle.fields.specs.Choice.{when◌then◌else◌}
use Rattle.fields.specs.SyntaxTable.{size, behind, width}
use Rattle.fields.proofs.SyntaxTables.{field_of_word}
use Rattle.packet.proofs.Packets.{header_field}
use Rattle.reader.specs.Pointer.{pointer_field, pointer_of}
use Rattle.reader.proofs.pointer_at.Goals as goal

pub returns-then-word-ne1 : goal.returns-then-word-ne1
unfolding pointer_of when◌then◌else◌ size behind width
returns-then-word-ne1 c =
    let bits = c.word in
    let packet = c.args.packet.now in
    simp (header_field packet bits.result (omega arith) bits.ensures) (simp (ne_eqb _ _ c.if-word-ne1.true))

pub returns-then-packet-start : goal.returns-then-packet-start
unfolding pointer_of when◌then◌else◌ size behind width
returns-then-packet-start c =
    let packet = c.args.packet.now in
    let start = c.args.start in
    let bits = c.word in
    let byte = c.word-2 in
    simp (
      header_field packet bits.result (omega arith) bits.ensures,
      field_of_word pointer_field packet start 1 byte.result (omega arith) refl byte.ensures,
      div-one,
      length-drop,
    )
    (simp (eq-eqb _ _ c.if-word-ne1.false, lt-ltb _ _ c.if-to-gt0.true, le-leb _ _ c.if-packet-start.true))

pub returns : goal.returns
unfolding pointer_of when◌then◌else◌ size behind width
returns c =
    let packet = c.args.packet.now in
    let start = c.args.start in
    let bits = c.word in
    let byte = c.word-2 in
    simp (
      header_field packet bits.result (omega arith) bits.ensures,
      field_of_word pointer_field packet start 1 byte.result (omega arith) refl byte.ensures,
      div-one,
      length-drop,
    )
    (grind arith)
