-- `line::adler32` is safe: both sums are below the number that they are counted by before each part, and grow within a part by no more than its bytes bring.
-- Assumes nothing.
use Prim.Native.Nat.{◌+◌, ◌*◌, ◌≤◌, ◌<◌}
use mathlib.Core.Path.{◌≡◌}
use lib.ListN.{length}
use Rattle.replay.proofs.line.adler32.Given as goal

abbrev pub invariant-loop-part : goal.invariant-loop-part
invariant-loop-part l = (l.low < 65521) × (l.high < 65521) × (l.part-iterator.size ≡ 1048576)

abbrev pub invariant-loop-byte : goal.invariant-loop-byte
invariant-loop-byte l =
    (length l.part ≤ 1048576) × (l.low ≤ 65521 + 255 * l.byte-index) × (l.high ≤ 65521 + 536870912 * l.byte-index)
