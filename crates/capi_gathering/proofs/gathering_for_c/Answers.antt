-- `capi_gathering::gathering_for_c` meets its contract: number by number. Assumes nothing.
use Rattle.capi_numbers.proofs.Flags.{byte_is_flag}
use Rattle.capi_gathering.proofs.gathering_for_c.Goals as goal

pub returns : goal.returns
returns c = simp (byte_is_flag, c.form_number.ensures)
