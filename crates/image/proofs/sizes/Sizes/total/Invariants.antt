-- The sizes passed are added up, each with its count.
use Rattle.std.proofs.Common.{◌≡◌}
use Rattle.rules.specs.Image.{start}
use Rattle.image.proofs.sizes.Sizes.total.Given as goal

abbrev pub invariant-loop-n : goal.invariant-loop-n
invariant-loop-n l = l.words ≡ start l.self.settings l.n-index
