-- The lists passed.
use Rattle.std.proofs.Common.{◌≡◌, leb}
use Rattle.rules.specs.Settings as of
use Rattle.rules.specs.State.{entry}
use Rattle.rules.specs.Tests.{all}
use Rattle.image.specs.Views.{seen}
use Rattle.image.proofs.view.View.lists_at_most.Given as goal

abbrev pub invariant-loop-t : goal.invariant-loop-t
invariant-loop-t l = l.ok ≡ all l.t (λ t. all (of.room l.self.layout.settings) (λ i. leb (entry (seen l.self) t i) l.b))
