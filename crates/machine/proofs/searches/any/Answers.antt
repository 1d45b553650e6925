-- A word more.
use Rattle.std.proofs.Common.{sym}
use Rattle.rules.proofs.Laws.{some_more, some_none}
use Rattle.machine.proofs.searches.any.Goals as goal

pub loop-word-init : goal.loop-word-init
loop-word-init c = sym (some_none _)

pub loop-word-preserved : goal.loop-word-preserved
loop-word-preserved c = rw (c.loop-word.invariant) (sym (some_more _ _))
