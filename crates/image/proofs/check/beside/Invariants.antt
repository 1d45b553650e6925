-- The verdict over the pairs passed.
use Rattle.std.proofs.Common.{◌≡◌, not, ◌||◌, length, get_or, eqb}
use Rattle.rules.specs.Tests.{all}
use Rattle.image.proofs.check.beside.Given as goal

abbrev pub invariant-loop-mark : goal.invariant-loop-mark
invariant-loop-mark l = l.ok ≡ all (length l.yielded) (λ k. eqb (get_or l.fn.marks k 0) 0 || not (eqb (get_or l.fn.slots k 0) 0))
