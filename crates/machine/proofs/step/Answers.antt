-- The damage check, and then the step on an image that is known to be undamaged.
use Rattle.std.proofs.Common.{rules}
use Rattle.machine.proofs.Undamaged.{shaped, sound, whole, whole_1}
use Rattle.machine.proofs.step.Goals as goal

pub returns-then-damaged : goal.returns-then-damaged
returns-then-damaged c = whole_1 _ _ c.damaged.ensures c.if-damaged.true

pub of-layout-requires : goal.of-layout-requires
of-layout-requires c = shaped _ c.damaged.ensures c.if-damaged.false

pub invariant_of-undamaged : goal.invariant_of-undamaged
invariant_of-undamaged c = record { long = c.of-layout.ensures.1 }

pub step_on-requires : goal.step_on-requires
step_on-requires c = sound _ c.damaged.ensures c.if-damaged.false c.of-layout.ensures.0

pub returns : goal.returns
returns c =
    let e = whole _ c.damaged.ensures c.if-damaged.false c.of-layout.ensures.0 _ c.step_on.ensures.outcome in
    search (rules, e)
