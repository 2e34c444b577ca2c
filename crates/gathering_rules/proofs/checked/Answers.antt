-- `gathering_rules::checked` meets its contract: a refusal of the header comes first, and behind a header each test in its order. Assumes nothing.
use mathlib.Core.Path.{sym, ap, ◌∙◌}
use mathlib.Core.Bool.{not}
use borrow.Author.Tests.{eq-eqb, ne_eqb}
use Rattle.fields.proofs.Choices.{test_holds, test_fails}
use Rattle.answers.proofs.Saying.{passed_on}
use Rattle.packet.specs.Header.{header_says}
use Rattle.packet.specs.Payload.{payload_of, payload_behind}
use Rattle.packet.proofs.Packets.{told_of_a_packet, refused_as_its_header}
use Rattle.gathering_rules.specs.Checks.{checked}
use Rattle.gathering_rules.proofs.checked.Goals as goal

pub returns-then-buffer-ne-SIZE : goal.returns-then-buffer-ne-SIZE
unfolding checked
returns-then-buffer-ne-SIZE c =
    let is = sym (ap header_says c.in_ok-header.was) ∙ c.header.ensures in
    sym (told_of_a_packet _ 0 _ _ is ∙ test_holds _ _ _ (ap not (ne_eqb _ _ c.if-buffer-ne-SIZE.true)))

pub returns-then-not-is_sound : goal.returns-then-not-is_sound
unfolding checked
returns-then-not-is_sound c =
    let is = sym (ap header_says c.in_ok-header.was) ∙ c.header.ensures in
    sym (told_of_a_packet _ 0 _ _ is ∙ test_fails _ _ _ (ap not (eq-eqb _ _ c.if-buffer-ne-SIZE.false)) ∙ test_holds _ _ _ (ap not c.if-not-is_sound.true))

pub returns : goal.returns
unfolding checked payload_of
returns c =
    let is = sym (ap header_says c.in_ok-header.was) ∙ c.header.ensures in
    c.payload.ensures ∙ told_of_a_packet _ 0 (payload_behind _) _ is
    ∙ sym (told_of_a_packet _ 0 _ _ is ∙ test_fails _ _ _ (ap not (eq-eqb _ _ c.if-buffer-ne-SIZE.false))
    ∙ test_fails _ _ _ (ap not c.if-not-is_sound.false))

pub returns-in_err-header : goal.returns-in_err-header
unfolding checked
returns-in_err-header c =
    let is = sym (ap header_says c.in_err-header.was) ∙ c.header.ensures in
    passed_on _ _ _ c.from_residual.ensures ∙ sym (refused_as_its_header _ 0 _ _ is)
