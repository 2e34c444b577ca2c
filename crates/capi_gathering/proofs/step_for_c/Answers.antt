-- `capi_gathering::step_for_c` meets its contract: number by number. Assumes nothing.
use Rattle.capi_gathering.proofs.step_for_c.Goals as goal

pub returns : goal.returns
returns c = simp (c.gathering_for_c.ensures, c.place_for_c.ensures, c.place.ensures, c.number.ensures)
