-- `reader::Reader::tail` meets its contract: the tail step of the gathering, and what is remembered then. Assumes nothing.
use mathlib.Core.Path.{sym, ap, ◌∙◌}
use native.Mathlib.Omega.{arith}
use lib.Seq.{length-take-le}
use lib.ListN.{take}
use Rattle.delivered.specs.declared.Place.{Place}
use Rattle.reader.specs.Outcome.{outcome}
use Rattle.reader.specs.Gathering.{gathering_step_says, remembered}
use Rattle.reader.proofs.MemoryByAnswer.{tail_place_fits, tail_remembered}
use Rattle.reader.proofs.Reader.tail.Goals as goal

pub slice_bounds-remembered-end : goal.slice_bounds-remembered-end
slice_bounds-remembered-end c =
    let a = c.args in
    let step = gathering_step_says c.tail_with-step.result in
    omega (arith, ap (λ (p : Place). p.len) c.place-end.ensures, tail_place_fits a.self _ c.gathering.ensures _ c.as_words-words.ensures step _ a.packet.now a.buffer.now c.tail_with-step.ensures)

pub slice_bounds-remembered-end-2 : goal.slice_bounds-remembered-end-2
slice_bounds-remembered-end-2 c =
    let a = c.args in
    let step = gathering_step_says c.tail_with-step.result in
    sym (length-take-le _ _ (omega (arith, ap (λ (p : Place). p.len) c.place-end.ensures, tail_place_fits a.self _ c.gathering.ensures _ c.as_words-words.ensures step _ a.packet.now a.buffer.now c.tail_with-step.ensures)))

pub returns : goal.returns
returns c =
    let a = c.args in
    let step = gathering_step_says c.tail_with-step.result in
    let after = c.tail_with-step.new.buffer in
    ap (λ told. outcome told after) c.remembered.ensures
    ∙ ap (λ (p : Place). outcome (remembered a.self.memory step (take p.len after)) after) c.place-end.ensures
    ∙ tail_remembered a.self _ c.gathering.ensures _ c.as_words-words.ensures step _ a.packet.now a.buffer.now c.tail_with-step.ensures
