-- `reader::Reader::head` meets its contract: the head step of the gathering, and what is remembered then. Assumes nothing.
use Prim.Native.Nat.{ℕ, ◌+◌, ◌-◌}
use mathlib.Core.Path.{ap, ◌∙◌}
use mathlib.Core.List.{List}
use native.Mathlib.Omega.{arith}
use lib.ListN.{take, drop}
use Rattle.delivered.specs.declared.Place.{Place}
use Rattle.delivered.proofs.Parts.{part_of_lem}
use Rattle.reader.specs.Outcome.{outcome}
use Rattle.reader.specs.Gathering.{gathering_step_says, remembered}
use Rattle.reader.proofs.MemoryByAnswer.{head_place_fits, head_remembered}
use Rattle.reader.proofs.Reader.head.Goals as goal

pub returns : goal.returns
returns c =
    let a = c.args in
    let step = gathering_step_says c.head_with-step.result in
    let after = c.head_with-step.new.buffer in
    ap (λ told. outcome told after) c.remembered.ensures
    ∙ ap
    (λ (p : Place). outcome (remembered a.self.memory step (take (p.start + p.len - p.start) (drop p.start a.packet.now))) after)
    c.place-place.ensures
    ∙ ap (λ (section : List ℕ). outcome (remembered a.self.memory step section) after)
    (part_of_lem a.packet.now step.place.start step.place.len)
    ∙ head_remembered a.self _ c.gathering.ensures _ c.as_words-words.ensures step _ a.packet.now a.buffer.now c.head_with-step.ensures

pub slice_bounds-remembered-end : goal.slice_bounds-remembered-end
slice_bounds-remembered-end c =
    let a = c.args in
    let step = gathering_step_says c.head_with-step.result in
    omega (
      arith,
      ap (λ (p : Place). p.start) c.place-place.ensures,
      ap (λ (p : Place). p.len) c.place-place.ensures,
      head_place_fits a.self _ c.gathering.ensures _ c.as_words-words.ensures step _ a.packet.now a.buffer.now c.head_with-step.ensures,
    )
