-- `capi_gathering::jambpepper_is_sound` meets its contract: a state is sound if it names a reader that is. Assumes nothing.
use mathlib.Core.Path.{sym, ap, ◌∙◌}
use borrow.Author.Tests.{leb-true}
use Rattle.fields.specs.Choice.{when◌then◌else◌}
use Rattle.fields.proofs.Choices.{test_holds}
use Rattle.capi_numbers.specs.Numbers.{flag}
use Rattle.capi_numbers.proofs.Flags.{byte_is_flag}
use Rattle.capi_gathering.specs.Gathering.{sound_for_c}
use Rattle.capi_gathering.proofs.States.{last_bit, named_parts}
use Rattle.capi_gathering.proofs.jambpepper_is_sound.Goals as goal

pub form_of-requires : goal.form_of-requires
form_of-requires c = leb-true _ _ (named_parts _ _ (sym c.names_reader.ensures ∙ c.if-names_reader.true)).form

pub returns-then-names_reader : goal.returns-then-names_reader
unfolding sound_for_c
returns-then-names_reader c =
    let a = c.args in
    let named = sym c.names_reader.ensures ∙ c.if-names_reader.true in
    byte_is_flag _
    ∙ ap flag
    (c.is_sound.ensures
    ∙ simp (c.form_of.ensures, c.memory_of.ensures, last_bit a.reader.is_open (named_parts _ _ named).is_open)
    (sym (test_holds _ _ _ named)))

pub returns : goal.returns
unfolding sound_for_c flag when◌then◌else◌
returns c = simp (← c.names_reader.ensures, c.if-names_reader.false)
