-- `crc_steps::four_bytes` meets its contract: before each turn `sum` is what the last n fours bring. Assumes nothing.
use Prim.Native.Nat.{◌*◌}
use mathlib.Core.Path.{◌≡◌}
use Rattle.crc_steps.specs.BitSteps.{bit_steps, bits_enter}
use Rattle.crc_steps.proofs.four_bytes.Given as goal

abbrev pub invariant-loop-n : goal.invariant-loop-n
invariant-loop-n l = l.sum ≡ bit_steps (l.behind * 4) (bits_enter (l.n * 4) 0 l.bytes)
