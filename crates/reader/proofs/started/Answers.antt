-- `reader::started` meets its contract: refused, or begun. Assumes nothing.
use mathlib.Core.Path.{sym, ap, ◌∙◌}
use borrow.Author.Tests.{eq-eqb, ne_eqb}
use Rattle.fields.specs.Choice.{when◌then◌else◌}
use Rattle.answers.specs.Says.{answer_number}
use Rattle.answers.proofs.RefusalNumbers.{no_refusal_is_0}
use Rattle.reader.specs.Head.{started}
use Rattle.reader.specs.Gathering.{gathered}
use Rattle.gathering_rules.proofs.Starts.{starts}
use Rattle.reader.proofs.started.Goals as goal

pub begun-requires : goal.begun-requires
begun-requires c = (
  (starts _ _ _ (sym c.test_start.ensures ∙ ap answer_number c.in-Ok.is)).three,
  c.requires.0,
  c.requires.1,
  c.requires.2,
)

pub returns-in-Ok : goal.returns-in-Ok
unfolding started when◌then◌else◌
returns-in-Ok c =
    let starts_there = sym c.test_start.ensures ∙ ap answer_number c.in-Ok.is in
    simp (eq-eqb _ _ starts_there) (c.begun.ensures _)

pub returns-in-Err : goal.returns-in-Err
unfolding started when◌then◌else◌
returns-in-Err c =
    let refuses = sym c.test_start.ensures ∙ ap answer_number c.in-Err.is in
    simp (refuses, ne_eqb _ _ (no_refusal_is_0 c.in-Err.refusal))
    (ap (λ step. gathered step c.args.buffer.now) c.ended.ensures)
