-- `capi_gathering::jambpepper_tail` meets its contract: the step of the reader that is named, or the checks' refusal. Assumes nothing.
use mathlib.Core.Path.{◌≡◌, sym, ap, ◌∙◌}
use mathlib.Core.Bool.{false}
use native.Mathlib.Omega.{arith}
use Rattle.reader.specs.Tail.{tail_of}
use Rattle.reader.proofs.Forms.{tail_form}
use Rattle.reader.proofs.MemoryByAnswer.{in_the_buffer, tail_by_answer}
use Rattle.memory_words.specs.Words.{remembers}
use Rattle.memory_words.proofs.Words.{words_stay}
use Rattle.reader.specs.Gathering.{gathering_step_says}
use Rattle.capi_gathering.specs.declared.JambpepperStep.{JambpepperStep}
use Rattle.capi_gathering.proofs.States.{named_parts, worked_as_named, tail_section_fits, refused_as_unnamed}
use Rattle.capi_gathering.proofs.jambpepper_tail.Goals as goal

pub gathering_from_c-requires : goal.gathering_from_c-requires
gathering_from_c-requires c =
    let named = named_parts _ _ (sym c.names_reader.ensures ∙ c.if-names_reader.true) in
    (named.form, named.is_open)

pub remember_at-requires : goal.remember_at-requires
remember_at-requires c =
    let step = gathering_step_says c.tail_with-step.result in
    omega (
      arith,
      ap (λ (told : JambpepperStep). told.place.length) c.step_for_c-told.ensures,
      tail_section_fits _ _ _ step _ c.tail_with-step.ensures,
    )

pub returns-then-remembers : goal.returns-then-remembers
returns-then-remembers c =
    let a = c.args in
    let step = gathering_step_says c.tail_with-step.result in
    worked_as_named a.reader a.memory.now a.packet.now a.buffer.now _ c.gathering_from_c.ensures step _ tail_of
    c.tail_with-step.ensures (sym c.names_reader.ensures ∙ c.if-names_reader.true) in_the_buffer (tail_by_answer _ _ _) (tail_form _ _ _) _ c.step_for_c-told.ensures _
    (rw c.step_for_c-told.ensures at c.remember_at.ensures)

pub returns-else-remembers : goal.returns-else-remembers
returns-else-remembers c =
    let a = c.args in
    let step = gathering_step_says c.tail_with-step.result in
    let forgets : remembers a.memory.now step.answer ≡ false =
    ap (λ (told : JambpepperStep). remembers a.memory.now told.answer) (sym c.step_for_c-told.ensures)
    ∙ sym c.remembers.ensures ∙ c.if-remembers.false in
    worked_as_named a.reader a.memory.now a.packet.now a.buffer.now _ c.gathering_from_c.ensures step _ tail_of
    c.tail_with-step.ensures (sym c.names_reader.ensures ∙ c.if-names_reader.true) in_the_buffer (tail_by_answer _ _ _) (tail_form _ _ _) _ c.step_for_c-told.ensures _
    (sym (words_stay step.answer a.memory.now _ forgets))

pub returns : goal.returns
returns c =
    refused_as_unnamed tail_of _ _ _ _ _ (sym c.names_reader.ensures ∙ c.if-names_reader.false) c.refused_for_c.ensures
