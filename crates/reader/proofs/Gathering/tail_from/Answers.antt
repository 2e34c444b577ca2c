-- `reader::Gathering::tail_from` meets its contract, by what the pointer says. Assumes nothing.
use Prim.Native.Nat.{ℕ, ◌+◌}
use mathlib.Core.Path.{sym, ap, ◌∙◌}
use mathlib.Core.List.{List}
use native.Mathlib.Omega.{arith}
use Rattle.reader.specs.Tail.{continued}
use Rattle.reader.specs.Gathering.{with_memory, gathered, gathered_of}
use Rattle.delivered.proofs.Parts.{part_to_end, part_of_lem}
use Rattle.reader.proofs.Pointers.{no_unit_start, points_to, points_beyond_lem, end_within}
use Rattle.reader.proofs.Tails.{tail_without_unit_start, tail_at_0, tail_up_to, tail_beyond}
use Rattle.reader.proofs.Gathering.tail_from.Goals as goal

pub returns-then-to-eq0 : goal.returns-then-to-eq0
returns-then-to-eq0 c memory =
    let a = c.args in
    let points = points_to _ _ _ (sym c.pointer_at.ensures ∙ c.in-To.is) in
    sym (ap gathered_of
    (tail_at_0 (with_memory memory a.self) a.packet.now a.start a.buffer.now (rw c.if-to-eq0.true at points)))

pub overflow_add-end : goal.overflow_add-end
overflow_add-end c =
    let points = points_to _ _ _ (sym c.pointer_at.ensures ∙ c.in-To.is) in
    omega (arith, end_within _ _ _ points c.requires.0 c.if-to-eq0.false)

pub returns-in-NoUnitStart : goal.returns-in-NoUnitStart
returns-in-NoUnitStart c memory =
    let a = c.args in
    let reader = with_memory memory a.self in
    let unit = no_unit_start _ _ (sym c.pointer_at.ensures ∙ c.in-NoUnitStart.is) in
    c.continued.ensures memory
    ∙ ap (λ (bytes : List ℕ). gathered_of (continued reader bytes a.buffer.now)) (part_to_end a.packet.now a.start)
    ∙ sym (ap gathered_of (tail_without_unit_start reader a.packet.now a.start a.buffer.now unit))

pub returns-else-to-eq0 : goal.returns-else-to-eq0
returns-else-to-eq0 c memory =
    let a = c.args in
    let reader = with_memory memory a.self in
    let points = points_to _ _ _ (sym c.pointer_at.ensures ∙ c.in-To.is) in
    c.continued-in-To.ensures memory
    ∙ ap (λ (bytes : List ℕ). gathered_of (continued reader bytes a.buffer.now)) (part_of_lem a.packet.now (a.start + 1) _)
    ∙ sym (ap gathered_of (tail_up_to reader a.packet.now a.start a.buffer.now _ points c.if-to-eq0.false))

pub returns-in-BeyondRest : goal.returns-in-BeyondRest
returns-in-BeyondRest c memory =
    let a = c.args in
    let beyond = points_beyond_lem _ _ (sym c.pointer_at.ensures ∙ c.in-BeyondRest.is) in
    ap (λ step. gathered step a.buffer.now) c.ended.ensures
    ∙ sym (ap gathered_of
    (tail_beyond (with_memory memory a.self) a.packet.now a.start a.buffer.now beyond.0 beyond.1))

pub slice_bounds-continued-end-in-To : goal.slice_bounds-continued-end-in-To
slice_bounds-continued-end-in-To c =
    let points = points_to _ _ _ (sym c.pointer_at.ensures ∙ c.in-To.is) in
    omega (arith, end_within _ _ _ points c.requires.0 c.if-to-eq0.false)
