-- The limits of the operands that the definition lists.
use Rattle.std.proofs.Common.{refl, arith}
use Rattle.std.proofs.lemmas.Grind.{common_steps}
use Rattle.rules.specs.Replies.{operands}
use Rattle.machine.specs.Operands.{operand_limit}
use Rattle.machine.proofs.refusals.limits.Goals as goal

pub returns-in-Swap : goal.returns-in-Swap
unfolding operand_limit operands
returns-in-Swap c = rw c.in-Swap.is (record { first = refl; second = refl; third = refl })

pub returns-in-Load : goal.returns-in-Load
unfolding operand_limit operands
returns-in-Load c = rw c.in-Load.is (record { first = refl; second = refl; third = refl })

pub returns-in-Use : goal.returns-in-Use
unfolding operand_limit operands
returns-in-Use c = grind (arith, common_steps)

pub returns-in-Retire : goal.returns-in-Retire
unfolding operand_limit operands
returns-in-Retire c = rw c.in-Retire.is (record { first = refl; second = refl; third = refl })

pub returns-in-Allocate : goal.returns-in-Allocate
unfolding operand_limit operands
returns-in-Allocate c = grind (arith, common_steps)
