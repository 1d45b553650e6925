use Rattle.std.proofs.Common.{rules, ◌∙◌, length-append}
use Rattle.std.proofs.lemmas.Slice.Zip.{zip_turn}
use Rattle.image.proofs.Loops.{begins, goes_on, none_beyond}
use Rattle.image.proofs.check.both_at_most.Goals as goal

pub loop-x-init : goal.loop-x-init
loop-x-init c = begins _

pub loop-x-preserved : goal.loop-x-preserved
loop-x-preserved c =
    let z = zip_turn c.args.low.now c.args.high.now _ _ _ c.next.new.self _ (search rules) (search rules) c.loop-x.yielded_by _ c.in-Some.is c.next.ensures.steps in
    rw (length-append) (none_beyond c.loop-x.beyond _ _ _ ∙ goes_on _ _ c.loop-x.invariant (rw (z.2 0, z.3 0)))
