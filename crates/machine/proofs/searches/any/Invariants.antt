-- Whether a word passed is x.
use Rattle.std.proofs.Common.{◌≡◌, get_or, eqb}
use Rattle.rules.specs.Tests.{some}
use Rattle.machine.proofs.searches.any.Given as goal

abbrev pub invariant-loop-word : goal.invariant-loop-word
invariant-loop-word l = l.hit ≡ some l.word-index (λ i. eqb (get_or l.words i 0) l.x)
