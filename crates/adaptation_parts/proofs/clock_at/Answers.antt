-- `adaptation_parts::clock_at` meets its contract: the fields of a clock's table, cut out of the word of its six bytes. Assumes
-- nothing.
use mathlib.Core.Path.{refl, sym}
use native.Mathlib.Nat.{div-one}
use native.Mathlib.Omega.{arith}
use lib.ListN.{drop, length-drop}
use Rattle.fields.specs.Choice.{when◌then◌else◌}
use Rattle.fields.specs.SyntaxTable.{size, behind, width}
use Rattle.fields.proofs.SyntaxTables.{field_of_word}
use Rattle.adaptation_parts.specs.Syntax.{program_clock_reference}
use Rattle.adaptation_parts.specs.Parts.{no_clock, pcr_from}
use Rattle.adaptation_parts.proofs.Parts.{flag_is_clear, field_ends_before_lem, part_is_there}
use Rattle.adaptation_parts.proofs.clock_at.Goals as goal

pub returns-then-not-flag : goal.returns-then-not-flag
returns-then-not-flag c = sym (flag_is_clear _ _ _ _ _ c.if-not-flag.true)

pub returns-then-field-at : goal.returns-then-field-at
unfolding size
returns-then-field-at c = sym (field_ends_before_lem _ _ _ _ _ c.if-not-flag.false (simp length-drop (omega arith)))

pub returns : goal.returns
unfolding when◌then◌else◌ size behind width
returns c =
    let a = c.args in
    let bytes = drop a.at a.field.now in
    let set = c.if-not-flag.false in
    let bits = c.word-bits in
    simp (
      part_is_there a.flag program_clock_reference bytes no_clock pcr_from set (simp length-drop (omega arith)),
      field_of_word program_clock_reference a.field.now a.at 6 bits.result (omega arith) refl bits.ensures,
      div-one,
    )
