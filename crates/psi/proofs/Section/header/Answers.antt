-- `psi::Section::header` meets its contract: the fields of its table, cut out of the word of its three bytes. Assumes nothing.
use native.Mathlib.Omega.{arith}
use native.Mathlib.Nat.{div-one}
use borrow.Author.Tests.{lt-ltb, le-ltb}
use Rattle.fields.specs.Choice.{when◌then◌else◌}
use Rattle.fields.specs.SyntaxTable.{size, behind, width}
use Rattle.psi.specs.Header.{fields_of, header_of}
use Rattle.psi.proofs.Sections.{header_field}
use Rattle.psi.proofs.Section.header.Goals as goal

pub returns-then-bytes-lt-SIZE : goal.returns-then-bytes-lt-SIZE
unfolding header_of when◌then◌else◌
returns-then-bytes-lt-SIZE c = simp (lt-ltb _ _ c.if-bytes-lt-SIZE.true)

pub returns : goal.returns
unfolding header_of fields_of when◌then◌else◌ size behind width
returns c =
    let bits = c.word-bits in
    let bytes = c.args.bytes.now in
    simp (le-ltb _ _ c.if-bytes-lt-SIZE.false, header_field bytes bits.result (omega arith) bits.ensures) (simp div-one)
