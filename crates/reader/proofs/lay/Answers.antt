-- `reader::lay` meets its contract: before each turn the first i bytes are laid in. Assumes nothing.
use mathlib.Core.Path.{refl, sym, ap, ◌∙◌}
use native.Mathlib.Omega.{arith}
use lib.ListN.{length-set}
use lib.Seq.{take_all}
use Rattle.fields.specs.Laid.{laid}
use Rattle.fields.proofs.LaidBytes.{laid_none, laid_one_more}
use Rattle.reader.proofs.lay.Goals as goal

pub loop-i-init : goal.loop-i-init
loop-i-init c = (omega arith, refl, sym (laid_none _ _))

pub loop-i-preserved : goal.loop-i-preserved
loop-i-preserved c =
    let a = c.args in (
      omega arith,
      simp length-set c.loop-i.invariant.1,
      rw c.loop-i.invariant.2 (laid_one_more a.buffer.now a.at a.bytes.now c.loop-i.i (omega arith) (omega arith)),
    )

pub returns : goal.returns
returns c =
    let bytes = c.args.bytes.now in
    c.loop-i.invariant.2 ∙ ap (laid c.args.buffer.now c.args.at)
    (take_all c.loop-i.i bytes (omega arith))
