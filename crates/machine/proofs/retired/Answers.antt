-- The part that stands where the list question says, of the image itself.
use Rattle.std.proofs.Common.{arith}
use Rattle.machine.proofs.Undamaged.{part_inside}
use Rattle.machine.proofs.retired.Goals as goal

pub slice_bounds-result-end : goal.slice_bounds-result-end
slice_bounds-result-end c =
    let p = c.in-Ok.ensures in
    omega (arith, p.1, p.2, part_inside c.args.image.now c.args.thread)
