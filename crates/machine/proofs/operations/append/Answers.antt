use Rattle.std.proofs.Common.{arith}
use Rattle.image.proofs.Stands.{room_fits}
use Rattle.machine.proofs.operations.append.Goals as goal

pub overflow_add-n : goal.overflow_add-n
overflow_add-n c = omega (arith, room_fits c.args.image.now.layout)
