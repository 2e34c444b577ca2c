-- `adaptation_parts::pcr` meets its contract: a refusal of the field is the PCR's, and in a field it lies behind the
-- flags. Assumes nothing.
use mathlib.Core.Path.{sym, ◌∙◌}
use Rattle.fields.specs.SyntaxTable.{size}
use Rattle.answers.proofs.Saying.{passed_on}
use Rattle.adaptation_parts.specs.Parts.{pcr_of}
use Rattle.adaptation.proofs.AdaptationFields.{within_its_packet, told_of_a_field, refused_as_its_field}
use Rattle.adaptation_parts.proofs.pcr.Goals as goal

pub bytes_of-bytes-requires : goal.bytes_of-bytes-requires
bytes_of-bytes-requires c = within_its_packet _ c.in_ok-field.was c.of.ensures

pub returns : goal.returns
unfolding pcr_of size
returns c =
    rw c.bytes_of-bytes.ensures at c.clock_at.ensures
    ∙ sym (told_of_a_field _ _ _ c.in_ok-field.was c.of.ensures)

pub returns-in_err-field : goal.returns-in_err-field
unfolding pcr_of
returns-in_err-field c =
    passed_on _ _ _ c.from_residual.ensures ∙ sym (refused_as_its_field _ _ _ c.in_err-field.was c.of.ensures)
