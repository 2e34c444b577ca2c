-- `adaptation_parts::splice_countdown_at` meets its contract: its one row is its byte. Assumes nothing.
use mathlib.Core.Path.{sym, ap, ◌∙◌}
use native.Mathlib.Omega.{arith}
use lib.ListN.{length-drop}
use Rattle.fields.specs.Choice.{when◌then◌else◌}
use Rattle.fields.specs.SyntaxTable.{size, offset, width, value_of}
use Rattle.answers.specs.Says.{given}
use Rattle.adaptation_parts.proofs.Parts.{flag_is_clear, field_ends_before_lem, part_is_there, byte_of_its_row}
use Rattle.adaptation_parts.proofs.splice_countdown_at.Goals as goal

pub returns : goal.returns
returns c = sym (flag_is_clear _ _ _ _ _ c.if-flag.false)

pub returns-then-flag : goal.returns-then-flag
unfolding size
returns-then-flag c = sym (field_ends_before_lem _ _ _ _ _ c.if-flag.true (simp length-drop (omega arith)))

pub returns-then-at-field : goal.returns-then-at-field
unfolding when◌then◌else◌ size offset width value_of
returns-then-at-field c =
    let at = c.args.at in
    ap given (byte_of_its_row _ at (omega arith) (omega (arith, c.shared_slice_known-1.given at)))
    ∙ sym (part_is_there _ _ _ _ _ c.if-flag.true (simp length-drop (omega arith)))
