use Rattle.std.proofs.Common.{arith}
use Rattle.image.proofs.Stands.{room_fits}
use Rattle.image.proofs.layout.Layout.lay.Goals as goal

pub overflow_add-section : goal.overflow_add-section
overflow_add-section c = omega (arith, room_fits c.args.self)

pub overflow_add-section-in-Entry : goal.overflow_add-section-in-Entry
overflow_add-section-in-Entry c = omega (arith, room_fits c.args.self)
