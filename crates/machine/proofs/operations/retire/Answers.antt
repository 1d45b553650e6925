-- The rows of the rule one after another, and then what the append does.
use Rattle.std.proofs.Common.{arith}
use Rattle.image.proofs.Stands.{room_fits}
use Rattle.machine.proofs.operations.retire.Goals as goal

pub overflow_add-result : goal.overflow_add-result
overflow_add-result c =
    let v = c.view-view.ensures in
    omega (arith, rw (v.words, v.layout) at c.word-n.ensures, c.requires.3, room_fits c.args.image.now.layout)
