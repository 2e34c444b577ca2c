-- `adaptation_parts::private_data_at` meets its contract: its rows are a length byte and that many bytes. Assumes nothing.
use Prim.Native.Nat.{ℕ, ◌+◌}
use mathlib.Core.Path.{sym, ap, ◌∙◌}
use native.Mathlib.Omega.{arith}
use lib.ListN.{length-drop}
use Rattle.fields.specs.Choice.{when◌then◌else◌}
use Rattle.fields.specs.SyntaxTable.{size, offset, width, value_of}
use Rattle.answers.specs.Says.{given}
use Rattle.adaptation.specs.AdaptationField.{start}
use Rattle.adaptation_parts.specs.Parts.{private_data_at}
use Rattle.adaptation_parts.proofs.Parts.{flag_is_clear, field_ends_before_lem, part_is_there, byte_of_its_row, size_of_private_data}
use Rattle.adaptation_parts.proofs.private_data_at.Goals as goal

pub returns-then-not-flag : goal.returns-then-not-flag
unfolding private_data_at
returns-then-not-flag c = sym (flag_is_clear _ _ _ _ _ c.if-not-flag.true)

pub returns-then-field-at : goal.returns-then-field-at
unfolding private_data_at size
returns-then-field-at c = sym (field_ends_before_lem _ _ _ _ _ c.if-not-flag.false (simp length-drop (omega arith)))

pub overflow_cast-n : goal.overflow_cast-n
overflow_cast-n c = omega (arith, c.shared_slice_known-1.given c.args.at)

pub overflow_add-at-3 : goal.overflow_add-at-3
overflow_add-at-3 c = omega (arith, c.shared_slice_known-1.given c.args.at)

pub returns-then-field-at-2 : goal.returns-then-field-at-2
unfolding private_data_at when◌then◌else◌ offset width value_of
returns-then-field-at-2 c =
    let at = c.args.at in
    let bytes = c.args.field.now in
    let byte = byte_of_its_row bytes at (omega arith) (omega (arith, c.shared_slice_known-1.given at)) in
    sym
    (field_ends_before_lem _ _ _ _ _ c.if-not-flag.false
    (simp (size_of_private_data, length-drop, ← byte) (omega arith)))

pub returns : goal.returns
unfolding private_data_at when◌then◌else◌ size offset width value_of
returns c =
    let at = c.args.at in
    let bytes = c.args.field.now in
    let byte = byte_of_its_row bytes at (omega arith) (omega (arith, c.shared_slice_known-1.given at)) in
    ap (λ (n : ℕ). given (record { start = start + at + 1; length = n })) byte
    ∙ sym
    (part_is_there _ _ _ _ _ c.if-not-flag.false
    (simp (size_of_private_data, length-drop, ← byte) (omega arith)))
