-- Damaged, no such thread, or the image to read.
use Rattle.machine.proofs.Undamaged.{number_0, number_1, number_3, shaped}
use Rattle.machine.proofs.asked.Goals as goal

pub returns-then-damaged-clause-number : goal.returns-then-damaged-clause-number
returns-then-damaged-clause-number c = number_1 _ _ c.damaged.ensures c.if-damaged.true

pub of-layout-requires : goal.of-layout-requires
of-layout-requires c = shaped _ c.damaged.ensures c.if-damaged.false

pub returns-then-layout-thread-clause-number : goal.returns-then-layout-thread-clause-number
returns-then-layout-thread-clause-number c = number_3 _ _ c.damaged.ensures c.if-damaged.false c.of-layout.ensures.0 c.if-layout-thread.true

pub invariant_of-result : goal.invariant_of-result
invariant_of-result c = record { long = c.of-layout.ensures.1 }

pub returns-clause-number : goal.returns-clause-number
returns-clause-number c = number_0 _ _ c.damaged.ensures c.if-damaged.false c.of-layout.ensures.0 c.if-layout-thread.false
