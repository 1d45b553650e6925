-- The verdict over the words passed.
use Rattle.std.proofs.Common.{◌≡◌, get_or, leb}
use Rattle.rules.specs.Tests.{all}
use Rattle.image.proofs.check.run_at_most.Given as goal

abbrev pub invariant-loop-word : goal.invariant-loop-word
invariant-loop-word l = l.ok ≡ all l.word-index (λ k. leb (get_or l.words k 0) l.b)
