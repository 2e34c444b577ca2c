-- `psi::Section::table_header` meets its contract: the fields of its table, cut out of the word of bytes 3 to 7. Assumes nothing.
use native.Mathlib.Omega.{arith}
use native.Mathlib.Nat.{div-one}
use borrow.Author.Tests.{lt-ltb, le-ltb}
use Rattle.fields.specs.Choice.{when◌then◌else◌}
use Rattle.fields.specs.SyntaxTable.{size, behind, width}
use Rattle.psi.specs.Header.{table_fields_of, table_header_of}
use Rattle.psi.proofs.Sections.{table_header_field}
use Rattle.psi.proofs.Section.table_header.Goals as goal

pub returns-then-section-lt-HEADERS_SIZE : goal.returns-then-section-lt-HEADERS_SIZE
unfolding table_header_of when◌then◌else◌
returns-then-section-lt-HEADERS_SIZE c = simp (lt-ltb _ _ c.if-section-lt-HEADERS_SIZE.true)

pub returns : goal.returns
unfolding table_header_of table_fields_of when◌then◌else◌ size behind width
returns c =
    let bits = c.word-bits in
    let section = c.args.section.now in
    simp (le-ltb _ _ c.if-section-lt-HEADERS_SIZE.false, table_header_field section bits.result (omega arith) bits.ensures) (simp div-one)
