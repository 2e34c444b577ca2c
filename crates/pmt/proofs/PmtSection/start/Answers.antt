-- `pmt::PmtSection::start` meets its contract: the fields of its table are cut out of the word of its four bytes, and each way out
-- gives what the tests before it choose. Assumes nothing.
use Prim.Native.Nat.{◌+◌, ◌%◌}
use native.Mathlib.Omega.{arith}
use native.Mathlib.Nat.{div-one, add-sub_cancel_left}
use borrow.Author.Tests.{lt-ltb, le-ltb}
use lib.ListN.{length}
use Rattle.fields.specs.Choice.{when◌then◌else◌}
use Rattle.fields.specs.SyntaxTable.{size, behind, width}
use Rattle.pmt.specs.Start.{section_of, start_of}
use Rattle.pmt.proofs.Starts.{header_field}
use Rattle.pmt.proofs.PmtSection.start.Goals as goal

pub returns-then-actual-lt-HEADER_SIZE : goal.returns-then-actual-lt-HEADER_SIZE
unfolding start_of when◌then◌else◌
returns-then-actual-lt-HEADER_SIZE c = simp (lt-ltb _ _ c.if-actual-lt-HEADER_SIZE.true)

pub returns-then-actual-needed : goal.returns-then-actual-needed
unfolding start_of when◌then◌else◌ size behind width
returns-then-actual-needed c =
    let bits = c.word-bits in
    let body = c.args.body.now in
    simp (le-ltb _ _ c.if-actual-lt-HEADER_SIZE.false, header_field body bits.result (omega arith) bits.ensures, div-one)
    (simp (lt-ltb (length body) (4 + bits.result % 4096) (omega arith)))

pub returns : goal.returns
unfolding start_of section_of when◌then◌else◌ size behind width
returns c =
    let bits = c.word-bits in
    let body = c.args.body.now in
    simp (le-ltb _ _ c.if-actual-lt-HEADER_SIZE.false, header_field body bits.result (omega arith) bits.ensures, div-one)
    (simp (le-ltb (length body) (4 + bits.result % 4096) (omega arith), add-sub_cancel_left))
