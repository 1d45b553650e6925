use Rattle.std.proofs.Common.{arith}
use Rattle.image.proofs.Loops.{begins, ends, goes_on}
use Rattle.image.proofs.view.View.threads_right.Goals as goal

pub loop-t-init : goal.loop-t-init
loop-t-init c = begins _

pub loop-t-preserved : goal.loop-t-preserved
loop-t-preserved c = goes_on _ c.loop-t.t c.loop-t.invariant c.thread_right-ok.ensures

pub returns : goal.returns
returns c = ends _ c.loop-t.t _ (omega arith) (omega arith) c.loop-t.invariant
