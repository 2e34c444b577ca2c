-- `capi_packets::jambpepper_counter_follows` meets its contract: a bool as a byte is its flag. Assumes nothing.
use mathlib.Core.Path.{ap, ◌∙◌}
use Rattle.capi_numbers.specs.Numbers.{flag}
use Rattle.capi_numbers.proofs.Flags.{byte_is_flag}
use Rattle.capi_packets.proofs.jambpepper_counter_follows.Goals as goal

pub returns : goal.returns
returns c = byte_is_flag _ ∙ ap flag c.follows.ensures
