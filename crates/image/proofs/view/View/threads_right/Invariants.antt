-- The threads passed.
use Rattle.std.proofs.Common.{◌≡◌}
use Rattle.rules.specs.Damaged as image
use Rattle.rules.specs.Tests.{all}
use Rattle.image.specs.Views.{seen}
use Rattle.image.proofs.view.View.threads_right.Given as goal

abbrev pub invariant-loop-t : goal.invariant-loop-t
invariant-loop-t l = l.ok ≡ all l.t (λ t. image.thread_right l.self.layout.settings (seen l.self) t)
