-- `Run::work_bytes` is safe and ends: each turn leaves fewer bytes. Assumes nothing.
use Rattle.std.proofs.Common.{◌≤◌, length}
use Rattle.sections.proofs.run.Run.work_bytes.Given as goal

abbrev pub invariant-loop-found : goal.invariant-loop-found
invariant-loop-found l = length l.bytes ≤ length l.fn.bytes

abbrev pub decreases-loop-found : goal.decreases-loop-found
decreases-loop-found l = length l.bytes
