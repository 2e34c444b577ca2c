-- `crc_steps::eight_bytes_enter` meets its contract: the tables are those of the rule. Assumes nothing.
use mathlib.Core.Path.{refl}
use Rattle.crc_steps.specs.BitSteps.{◌plus_polynomial_if◌, bit_step, bit_steps}
use Rattle.crc_steps.proofs.Table.{nibble_tables}
use Rattle.crc_steps.proofs.eight_bytes_enter.Goals as goal

-- the test of the tables
pub by_tables-requires : goal.by_tables-requires
unfolding ◌plus_polynomial_if◌ bit_step bit_steps
by_tables-requires c = nibble_tables refl
