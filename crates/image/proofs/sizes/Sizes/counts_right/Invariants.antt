-- The counts passed are right, and the sizes passed are added up. It is said of any settings that these sizes are of.
use Rattle.std.proofs.Common.{◌≡◌}
use Rattle.rules.proofs.Shaped.{count_right}
use Rattle.rules.specs.Image.{start}
use Rattle.rules.specs.Tests.{all}
use Rattle.image.proofs.sizes.Sizes.counts_right.Given as goal

abbrev pub invariant-loop-n : goal.invariant-loop-n
invariant-loop-n l =
    (l.p ≡ start l.self.settings l.n-index) × (l.ok ≡ all l.n-index (count_right l.self.settings l.words))
