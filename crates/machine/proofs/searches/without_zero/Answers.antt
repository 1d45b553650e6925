-- A block more, or the answer.
use Rattle.std.proofs.Common.{◌∙◌, sym}
use Rattle.machine.proofs.Passed.{block_inside, block_passed, block_rest}
use Rattle.machine.proofs.searches.without_zero.Goals as goal

pub loop-block-preserved : goal.loop-block-preserved
loop-block-preserved c =
    let s = c.in-Some.ensures.steps in
    let i = c.loop-block.invariant in
    let e = sym i.rest ∙ s.1.0 in
    let d = s.1.1 ∙ i.size in
    record {
      inside = block_inside _ _ _ i.inside e d;
      size = s.0 ∙ i.size;
      rest = block_rest _ _ _ i.inside e d;
      none = block_passed _ _ _ i.inside e d i.none c.any.ensures c.if-any.false;
    }
