-- No more cases differ than were run.
use Rattle.std.proofs.Common.{◌≤◌}
use Rattle.vectors.proofs.Run.differing.Given as goal

abbrev pub invariant-loop-i : goal.invariant-loop-i
invariant-loop-i g l = l.differ ≤ l.i-counter
