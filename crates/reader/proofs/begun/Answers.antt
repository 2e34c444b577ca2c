-- `reader::begun` meets its contract: the section is whole, or all bytes are kept. Assumes nothing.
use mathlib.Core.Path.{sym}
use lib.Seq.{length-take-le}
use borrow.Author.Tests.{le-leb, lt-leb}
use Rattle.fields.specs.Choice.{when◌then◌else◌}
use Rattle.reader.specs.Head.{begun}
use Rattle.reader.proofs.begun.Goals as goal

pub slice_bounds-whole-end : goal.slice_bounds-whole-end
slice_bounds-whole-end c = sym (length-take-le _ _ c.if-end-bytes.true)

pub returns-then-end-bytes : goal.returns-then-end-bytes
unfolding begun when◌then◌else◌
returns-then-end-bytes c memory =
    simp (
      ← c.wanted-size.ensures,
      le-leb _ _ c.if-end-bytes.true,
      ← c.whole.ensures memory,
    )

pub returns : goal.returns
unfolding begun when◌then◌else◌
returns c memory =
    simp (
      ← c.wanted-size.ensures,
      lt-leb _ _ c.if-end-bytes.false,
      ← c.kept.ensures,
      ← c.lay.ensures,
    )
