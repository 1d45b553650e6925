use Rattle.std.proofs.Common.{arith, refl}
use Rattle.image.proofs.Loops.{begins, ends, goes_on}
use Rattle.image.proofs.check.run_at_most.Goals as goal

pub loop-word-init : goal.loop-word-init
loop-word-init c = begins _

pub loop-word-preserved : goal.loop-word-preserved
loop-word-preserved c = goes_on _ c.loop-word.word-index c.loop-word.invariant refl

pub returns : goal.returns
returns c = ends _ c.loop-word.word-index _ (omega arith) (omega arith) c.loop-word.invariant
