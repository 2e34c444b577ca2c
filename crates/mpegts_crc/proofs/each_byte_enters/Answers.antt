-- `mpegts_crc::each_byte_enters` meets its contract: the table is what its rule says. Assumes nothing.
use mathlib.Core.Path.{refl}
use Rattle.crc_steps.specs.BitSteps.{◌plus_polynomial_if◌, bit_step, bit_steps}
use Rattle.crc_steps.proofs.Table.{step_table}
use Rattle.mpegts_crc.proofs.each_byte_enters.Goals as goal

-- the test of the whole table
pub byte_enters-register-requires : goal.byte_enters-register-requires
unfolding ◌plus_polynomial_if◌ bit_step bit_steps
byte_enters-register-requires c = step_table 8 refl
