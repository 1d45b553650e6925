-- The verdict over the words passed.
use Rattle.std.proofs.Common.{◌≡◌, not, get_or, eqb}
use Rattle.rules.specs.Tests.{all}
use Rattle.image.proofs.check.none_zero.Given as goal

abbrev pub invariant-loop-word : goal.invariant-loop-word
invariant-loop-word l = l.ok ≡ all l.word-index (λ k. not (eqb (get_or l.words k 0) 0))
