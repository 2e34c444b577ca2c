-- `capi_adaptation_fields::jambpepper_adaptation_field` meets its contract: each case of the answer is what is said of it. Assumes nothing.
use mathlib.Core.Path.{sym, ap, ◌∙◌}
use Rattle.fields.specs.Choice.{when◌then◌else◌}
use Rattle.capi_numbers.specs.Numbers.{flag}
use Rattle.capi_numbers.proofs.Flags.{byte_is_flag}
use Rattle.adaptation.specs.AdaptationField.{adaptation_field_says}
use Rattle.capi_adaptation_fields.proofs.jambpepper_adaptation_field.Goals as goal

pub returns-in-Ok : goal.returns-in-Ok
returns-in-Ok c = simp (byte_is_flag, sym (sym (ap adaptation_field_says c.in-Ok.is) ∙ c.of.ensures))

pub returns-in-Err : goal.returns-in-Err
unfolding flag when◌then◌else◌
returns-in-Err c = simp (c.number.ensures, sym (sym (ap adaptation_field_says c.in-Err.is) ∙ c.of.ensures))
