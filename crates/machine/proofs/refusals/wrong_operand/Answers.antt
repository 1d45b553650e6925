-- The three limits, and a retire of 0.
use Rattle.std.proofs.Common.{rules}
use Rattle.machine.proofs.Operands.{wrong_is}
use Rattle.machine.proofs.refusals.wrong_operand.Goals as goal

pub returns : goal.returns
returns c =
    let l = c.limits.ensures in
    wrong_is c.args.s c.args.named.step c.args.named.same (search rules) l.first l.second l.third
