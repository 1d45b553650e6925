use Rattle.std.proofs.Common.{arith, leb}
use Rattle.image.proofs.Loops.{begins, ends, goes_on}
use Rattle.image.proofs.Lists.{room_first, row_all}
use Rattle.image.proofs.view.View.lists_at_most.Goals as goal

pub loop-t-init : goal.loop-t-init
loop-t-init c = begins _

pub row-requires : goal.row-requires
row-requires c = omega (arith, room_first c.args.self.now.layout)

pub loop-t-preserved : goal.loop-t-preserved
loop-t-preserved c = goes_on _ c.loop-t.t c.loop-t.invariant (row_all (λ x. leb x c.args.b) c.at_most-ok.ensures c.row.ensures)

pub returns : goal.returns
returns c = ends _ c.loop-t.t _ (omega arith) (omega arith) c.loop-t.invariant
