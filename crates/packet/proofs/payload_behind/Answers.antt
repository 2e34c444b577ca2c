-- `packet::payload_behind` meets its contract: each control value gives its start. Assumes nothing.
use mathlib.Core.Path.{refl, sym, ◌∙◌}
use native.Mathlib.Nat.{div-one}
use native.Mathlib.Omega.{arith}
use borrow.Author.Tests.{eq-eqb}
use Rattle.fields.specs.Choice.{when◌then◌else◌}
use Rattle.fields.specs.SyntaxTable.{size, behind, width}
use Rattle.fields.proofs.SyntaxTables.{field_of_word}
use Rattle.packet.specs.Syntax.{adaptation_field_length}
use Rattle.packet.specs.Payload.{payload_behind}
use Rattle.packet.proofs.payload_behind.Goals as goal

pub returns-in-1 : goal.returns-in-1
unfolding payload_behind when◌then◌else◌
returns-in-1 c =
    simp (eq-eqb _ _ (sym c.requires.1 ∙ c.in-1.is)) c.starting_at.ensures

pub returns-in-3 : goal.returns-in-3
unfolding payload_behind when◌then◌else◌ size behind width
returns-in-3 c =
    let byte = c.word in
    simp (
      ← c.requires.1,
      c.in-3.is,
      eq-eqb _ _ c.in-3.is,
      field_of_word adaptation_field_length c.args.packet.now 4 1 byte.result (omega arith) refl byte.ensures,
      div-one,
    )
    c.starting_at-in-3.ensures

pub returns-in_default : goal.returns-in_default
unfolding payload_behind when◌then◌else◌
returns-in_default c = grind arith
