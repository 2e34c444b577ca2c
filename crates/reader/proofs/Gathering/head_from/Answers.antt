-- `reader::Gathering::head_from` meets its contract, by what the pointer says. Assumes nothing.
use Prim.Native.Nat.{ℕ, ◌+◌}
use mathlib.Core.Path.{sym, ap, ◌∙◌}
use mathlib.Core.List.{List}
use native.Mathlib.Omega.{arith}
use lib.ListN.{length-drop}
use Rattle.memory_words.specs.Words.{memory_in}
use Rattle.reader.specs.Head.{started}
use Rattle.reader.specs.Gathering.{with_memory, gathered, gathered_of}
use Rattle.delivered.proofs.Parts.{part_to_end}
use Rattle.reader.proofs.Pointers.{no_unit_start, points_to, points_beyond_lem, target_within}
use Rattle.reader.proofs.Heads.{head_without_unit_start, head_at, head_beyond}
use Rattle.reader.proofs.Gathering.head_from.Goals as goal

pub overflow_add-at-in-To : goal.overflow_add-at-in-To
overflow_add-at-in-To c =
    let points = points_to _ _ _ (sym c.pointer_at.ensures ∙ c.in-To.is) in
    omega (
      arith,
      target_within _ _ _ points c.requires.0 c.requires.1,
    )

pub slice_bounds-started-count : goal.slice_bounds-started-count
slice_bounds-started-count c =
    let points = points_to _ _ _ (sym c.pointer_at.ensures ∙ c.in-To.is) in
    omega (
      arith,
      target_within _ _ _ points c.requires.0 c.requires.1,
    )

pub started-requires : goal.started-requires
started-requires c =
    let points = points_to _ _ _ (sym c.pointer_at.ensures ∙ c.in-To.is) in (
      rw part_to_end (simp length-drop (omega arith)),
      target_within _ _ _ points c.requires.0 c.requires.1,
      c.requires.2,
    )

pub returns-in-NoUnitStart : goal.returns-in-NoUnitStart
returns-in-NoUnitStart c =
    let a = c.args in
    let unit = no_unit_start _ _ (sym c.pointer_at.ensures ∙ c.in-NoUnitStart.is) in
    sym (ap gathered_of
    (head_without_unit_start (with_memory (memory_in a.memory.now) a.self) a.packet.now a.start a.buffer.now unit))

pub returns-in-To : goal.returns-in-To
returns-in-To c =
    let a = c.args in
    let to = c.in-To.to in
    let points = points_to _ _ to (sym c.pointer_at.ensures ∙ c.in-To.is) in
    c.started.ensures
    ∙ ap
    (λ (bytes : List ℕ). gathered_of (started a.self.form (memory_in a.memory.now) bytes (a.start + 1 + to) a.buffer.now))
    (part_to_end a.packet.now (a.start + 1 + to))
    ∙ sym (ap gathered_of
    (head_at (with_memory (memory_in a.memory.now) a.self) a.packet.now a.start a.buffer.now to points))

pub returns-in-BeyondRest : goal.returns-in-BeyondRest
returns-in-BeyondRest c =
    let a = c.args in
    let beyond = points_beyond_lem _ _ (sym c.pointer_at.ensures ∙ c.in-BeyondRest.is) in
    ap (λ step. gathered step a.buffer.now) c.ended.ensures
    ∙ sym (ap gathered_of
    (head_beyond (with_memory (memory_in a.memory.now) a.self) a.packet.now a.start a.buffer.now beyond.0 beyond.1))

pub slice_bounds-started-start : goal.slice_bounds-started-start
slice_bounds-started-start c =
    let points = points_to _ _ _ (sym c.pointer_at.ensures ∙ c.in-To.is) in
    omega (arith, target_within _ _ _ points c.requires.0 c.requires.1)
