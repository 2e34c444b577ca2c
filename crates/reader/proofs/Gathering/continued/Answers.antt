-- `reader::Gathering::continued` meets its contract: nothing is open, too few bytes came, or the section is whole. Assumes nothing.
use Prim.Native.Nat.{◌-◌}
use mathlib.Core.Path.{sym, ap, ap₂, ◌∙◌}
use native.Mathlib.Omega.{arith}
use lib.Seq.{length-take-le}
use borrow.Author.Tests.{not-true, not-false}
use Rattle.reader.specs.Gathering.{with_memory, gathered, gathered_of}
use Rattle.reader.proofs.Soundness.{open_counts}
use Rattle.reader.proofs.Continuing.{continued_idle, continued_short, continued_whole}
use Rattle.reader.proofs.Gathering.continued.Goals as goal

pub returns-then-not-self : goal.returns-then-not-self
returns-then-not-self c memory =
    let a = c.args in
    ap (λ step. gathered step a.buffer.now) c.ended.ensures
    ∙ sym (ap gathered_of
    (continued_idle (with_memory memory a.self) a.bytes.now a.buffer.now (not-true _ c.if-not-self.true)))

pub overflow_sub-missing : goal.overflow_sub-missing
overflow_sub-missing c =
    let w = open_counts _ c.requires.1 (not-false _ c.if-not-self.false) in
    omega arith

pub lay-requires : goal.lay-requires
lay-requires c =
    let w = open_counts _ c.requires.1 (not-false _ c.if-not-self.false) in
    omega arith

pub returns-then-bytes-missing : goal.returns-then-bytes-missing
returns-then-bytes-missing c memory =
    let a = c.args in
    let is_open = not-false _ c.if-not-self.false in
    ap₂ gathered c.kept.ensures c.lay.ensures
    ∙ sym (ap gathered_of
    (continued_short (with_memory memory a.self) a.bytes.now a.buffer.now is_open c.if-bytes-missing.true))

pub slice_bounds-lay-end : goal.slice_bounds-lay-end
slice_bounds-lay-end c = sym (length-take-le _ _ c.if-bytes-missing.false)

pub lay-requires-2 : goal.lay-requires-2
lay-requires-2 c =
    let a = c.args in
    let w = open_counts _ c.requires.1 (not-false _ c.if-not-self.false) in
    omega (arith, length-take-le (a.self.wanted - a.self.held) a.bytes.now c.if-bytes-missing.false)

pub slice_bounds-whole-end : goal.slice_bounds-whole-end
slice_bounds-whole-end c =
    let w = open_counts _ c.requires.1 (not-false _ c.if-not-self.false) in
    omega arith

pub slice_bounds-whole-end-2 : goal.slice_bounds-whole-end-2
slice_bounds-whole-end-2 c =
    let w = open_counts _ c.requires.1 (not-false _ c.if-not-self.false) in
    sym (length-take-le _ _ (omega arith))

pub returns : goal.returns
returns c memory =
    let a = c.args in
    let is_open = not-false _ c.if-not-self.false in
    let w = open_counts a.self c.requires.1 is_open in
    ap (λ step. gathered step c.lay-2.new.buffer) (c.whole.ensures memory)
    ∙ rw c.lay-2.ensures
    (sym (ap gathered_of
    (continued_whole (with_memory memory a.self) a.bytes.now a.buffer.now is_open w.below c.if-bytes-missing.false)))
