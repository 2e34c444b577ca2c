-- `adaptation_parts::transport_private_data` meets its contract: a refusal of the field is the private data's, and
-- in a field the flags tell its place. Assumes nothing.
use mathlib.Core.Path.{sym, ◌∙◌}
use Rattle.answers.proofs.Saying.{passed_on}
use Rattle.adaptation_parts.specs.Parts.{transport_private_data_of}
use Rattle.adaptation.proofs.AdaptationFields.{within_its_packet, told_of_a_field, refused_as_its_field}
use Rattle.adaptation_parts.proofs.Parts.{transport_private_data_begins}
use Rattle.adaptation_parts.proofs.transport_private_data.Goals as goal

pub bytes_of-bytes-requires : goal.bytes_of-bytes-requires
bytes_of-bytes-requires c = within_its_packet _ c.in_ok-field.was c.of.ensures

pub returns : goal.returns
unfolding transport_private_data_of
returns c =
    let begins = transport_private_data_begins _ c.behind-at.ensures.0 in
    rw (c.bytes_of-bytes.ensures, begins) at c.private_data_at.ensures
    ∙ sym (told_of_a_field _ _ _ c.in_ok-field.was c.of.ensures)

pub returns-in_err-field : goal.returns-in_err-field
unfolding transport_private_data_of
returns-in_err-field c =
    passed_on _ _ _ c.from_residual.ensures ∙ sym (refused_as_its_field _ _ _ c.in_err-field.was c.of.ensures)
