-- `Run::work_all` is safe: what has come lies within the room. Assumes nothing.
use Rattle.std.proofs.Common.{◌≤◌, length}
use Rattle.sections.proofs.run.Run.work_all.Given as goal

abbrev pub invariant-loop : goal.invariant-loop
invariant-loop g l = l.end ≤ length l.room
