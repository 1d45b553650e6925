-- The verdict over the pairs passed.
use Rattle.std.proofs.Common.{◌≡◌, not, ◌&&◌, length, get_or, leb}
use Rattle.rules.specs.Tests.{all}
use Rattle.image.proofs.check.both_at_most.Given as goal

abbrev pub invariant-loop-x : goal.invariant-loop-x
invariant-loop-x l = not l.beyond ≡ all (length l.yielded) (λ i. leb (get_or l.fn.low i 0) l.b && leb (get_or l.fn.high i 0) l.b)
