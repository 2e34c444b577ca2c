-- `adaptation_parts::opcr` meets its contract: a refusal of the field is the OPCR's, and in a field the flags tell
-- its place. Assumes nothing.
use mathlib.Core.Path.{sym, ◌∙◌}
use Rattle.answers.proofs.Saying.{passed_on}
use Rattle.adaptation_parts.specs.Parts.{opcr_of}
use Rattle.adaptation.proofs.AdaptationFields.{within_its_packet, told_of_a_field, refused_as_its_field}
use Rattle.adaptation_parts.proofs.Parts.{opcr_begins, opcr_as_pcr}
use Rattle.adaptation_parts.proofs.opcr.Goals as goal

pub bytes_of-bytes-requires : goal.bytes_of-bytes-requires
bytes_of-bytes-requires c = within_its_packet _ c.in_ok-field.was c.of.ensures

pub returns : goal.returns
unfolding opcr_of
returns c =
    rw (c.bytes_of-bytes.ensures, opcr_begins _ c.behind-at.ensures.0) at c.clock_at.ensures ∙ opcr_as_pcr _ _
    ∙ sym (told_of_a_field _ _ _ c.in_ok-field.was c.of.ensures)

pub returns-in_err-field : goal.returns-in_err-field
unfolding opcr_of
returns-in_err-field c =
    passed_on _ _ _ c.from_residual.ensures ∙ sym (refused_as_its_field _ _ _ c.in_err-field.was c.of.ensures)
