use Rattle.std.proofs.Common.{rules, length-append}
use Rattle.std.proofs.lemmas.Slice.Zip.{zip_turn}
use Rattle.image.proofs.Loops.{begins, goes_on}
use Rattle.image.proofs.check.beside.Goals as goal

pub loop-mark-init : goal.loop-mark-init
loop-mark-init c = begins _

pub loop-mark-preserved : goal.loop-mark-preserved
loop-mark-preserved c =
    let z = zip_turn c.args.marks.now c.args.slots.now _ _ _ c.next.new.self _ (search rules) (search rules) c.loop-mark.yielded_by _ c.in-Some.is c.next.ensures.steps in
    rw (length-append) (goes_on _ _ c.loop-mark.invariant (rw (z.2 0, z.3 0)))
