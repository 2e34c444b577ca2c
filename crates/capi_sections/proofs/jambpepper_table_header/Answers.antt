-- `capi_sections::jambpepper_table_header` meets its contract: each case of the answer is what is said of it. Assumes nothing.
use mathlib.Core.Path.{sym}
use Rattle.fields.specs.Choice.{when◌then◌else◌}
use Rattle.capi_numbers.specs.Numbers.{flag}
use Rattle.capi_numbers.proofs.Flags.{byte_is_flag}
use Rattle.capi_sections.proofs.jambpepper_table_header.Goals as goal

pub returns-in-Ok : goal.returns-in-Ok
returns-in-Ok c = simp (byte_is_flag, sym c.in-Ok.ensures)

pub returns-in-Err : goal.returns-in-Err
unfolding flag when◌then◌else◌
returns-in-Err c = simp (c.number.ensures, sym c.in-Err.ensures)
