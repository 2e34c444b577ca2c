-- `gathering_rules::test_start` meets its contract: no header, what the header refuses, or what is remembered. Assumes nothing.
use mathlib.Core.Path.{sym, ap, ◌∙◌}
use Rattle.fields.proofs.Choices.{test_holds, test_fails}
use Rattle.answers.specs.Says.{answer_number}
use Rattle.answers.proofs.RefusalNumbers.{no_refusal_is_0}
use Rattle.answers.proofs.Saying.{passed_on_number}
use Rattle.psi.specs.Header.{header_says}
use Rattle.memory_words.specs.Words.{memory_in}
use Rattle.gathering_rules.proofs.Starts.{start_without_header, three_bytes, start_refused_by_header, start_left_to_memory}
use Rattle.gathering_rules.proofs.test_start.Goals as goal

pub returns-in_err-header : goal.returns-in_err-header
returns-in_err-header c =
    let known = sym (ap header_says c.in_err-header.was) ∙ c.header.ensures in
    passed_on_number _ _ c.from_residual.ensures ∙ sym (start_without_header _ _ _ _ known)

pub test_header-requires : goal.test_header-requires
test_header-requires c =
    let known = sym (ap header_says c.in_ok-header.was) ∙ c.header.ensures in
    let a = c.args in
    three_bytes a.form (memory_in a.memory.now) _ _ known

pub returns-in_err-test_header : goal.returns-in_err-test_header
returns-in_err-test_header c =
    let known = sym (ap header_says c.in_ok-header.was) ∙ c.header.ensures in
    let refuses = sym (ap answer_number c.in_err-test_header.was) ∙ c.test_header.ensures in
    passed_on_number _ _ c.from_residual-in_err-test_header.ensures ∙ refuses
    ∙ sym (start_refused_by_header _ _ _ _ known (λ none. no_refusal_is_0 _ (refuses ∙ none)))

pub returns-then-repeats : goal.returns-then-repeats
returns-then-repeats c =
    let known = sym (ap header_says c.in_ok-header.was) ∙ c.header.ensures in
    let none = sym c.test_header.ensures ∙ ap answer_number c.in_ok-test_header.was in
    sym (start_left_to_memory _ _ _ _ known none ∙ test_holds _ _ _ (sym c.repeats.ensures ∙ c.if-repeats.true))

pub returns : goal.returns
returns c =
    let known = sym (ap header_says c.in_ok-header.was) ∙ c.header.ensures in
    let none = sym c.test_header.ensures ∙ ap answer_number c.in_ok-test_header.was in
    sym (start_left_to_memory _ _ _ _ known none ∙ test_fails _ _ _ (sym c.repeats.ensures ∙ c.if-repeats.false))
