-- `crc_values::compare_all` is safe and ends: each turn leaves less of the list, and counts at most one. Assumes nothing.
use Rattle.std.proofs.Common.{◌+◌, ◌≤◌, length}
use Rattle.crc_values.proofs.compare_all.Given as goal

abbrev pub invariant-loop-vector : goal.invariant-loop-vector
invariant-loop-vector l = (l.compared + length l.list ≤ length l.fn.list) × (l.differ ≤ l.compared)

abbrev pub decreases-loop-vector : goal.decreases-loop-vector
decreases-loop-vector l = length l.list
