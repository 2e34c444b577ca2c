-- `adaptation::AdaptationField::of` meets its contract: a refusal of the header is the field's, and behind a header the control
-- decides. Assumes nothing.
use Prim.Native.Nat.{ℕ, ◌%◌, ◌≤◌}
use mathlib.Core.Path.{◌≡◌, refl, sym, ap, ◌∙◌}
use mathlib.Core.List.{List}
use native.Mathlib.Nat.{div-one}
use native.Mathlib.Omega.{arith}
use lib.ListN.{length}
use Rattle.fields.specs.Choice.{when◌then◌else◌}
use Rattle.fields.specs.SyntaxTable.{size, behind, width}
use Rattle.fields.specs.Word.{word_of}
use Rattle.fields.proofs.SyntaxTables.{field_of_word}
use Rattle.answers.proofs.Saying.{passed_on}
use Rattle.packet.specs.Syntax.{adaptation_field_length}
use Rattle.packet.specs.Header.{header_says, fields_of}
use Rattle.packet.specs.Payload.{length_byte}
use Rattle.packet.proofs.Packets.{header_given, told_of_a_packet, refused_as_its_header}
use Rattle.adaptation.specs.AdaptationField.{of_a_field, adaptation_field_of}
use Rattle.adaptation.proofs.AdaptationField.of.Goals as goal

-- the length byte is the fifth, read as a word
length-byte-of-word : (packet : List ℕ) (word : ℕ) → 5 ≤ length packet → word ≡ word_of packet 4 1 → word % 256 ≡ length_byte packet
unfolding size behind width when◌then◌else◌
length-byte-of-word packet word there is =
    simp (field_of_word adaptation_field_length packet 4 1 word (omega arith) refl is, div-one)

pub field_behind-requires : goal.field_behind-requires
field_behind-requires c =
    let known = sym (ap header_says c.in_ok-header.was) ∙ c.header.ensures in
    let sized = (header_given _ _ known).sized in
    (sized, length-byte-of-word _ _ (omega arith) c.word.ensures)

pub returns : goal.returns
unfolding adaptation_field_of of_a_field fields_of
returns c =
    let known = sym (ap header_says c.in_ok-header.was) ∙ c.header.ensures in
    let control = ap (λ h. h.adaptation_field_control) (header_given _ _ known).fields in
    let sized = (header_given _ _ known).sized in
    let long = length-byte-of-word _ _ (omega arith) c.word.ensures in
    rw (long, control) at c.field_behind.ensures ∙ sym (told_of_a_packet _ _ _ _ known)

pub returns-in_err-header : goal.returns-in_err-header
unfolding adaptation_field_of of_a_field
returns-in_err-header c =
    let known = sym (ap header_says c.in_err-header.was) ∙ c.header.ensures in
    passed_on _ _ _ c.from_residual.ensures ∙ sym (refused_as_its_header _ _ _ _ known)
