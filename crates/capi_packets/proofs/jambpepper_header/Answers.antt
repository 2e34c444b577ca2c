-- `capi_packets::jambpepper_header` meets its contract: each case of the answer is what is said of it. Assumes nothing.
use mathlib.Core.Path.{sym, ap, ◌∙◌}
use Rattle.fields.specs.Choice.{when◌then◌else◌}
use Rattle.capi_numbers.specs.Numbers.{flag}
use Rattle.capi_numbers.proofs.Flags.{byte_is_flag}
use Rattle.packet.specs.Header.{header_says}
use Rattle.capi_packets.proofs.jambpepper_header.Goals as goal

pub returns-in-Ok : goal.returns-in-Ok
returns-in-Ok c = simp (byte_is_flag, sym (sym (ap header_says c.in-Ok.is) ∙ c.header.ensures))

pub returns-in-Err : goal.returns-in-Err
unfolding flag when◌then◌else◌
returns-in-Err c = simp (c.number.ensures, sym (sym (ap header_says c.in-Err.is) ∙ c.header.ensures))
