use Rattle.std.proofs.Common.{arith}
use Rattle.image.proofs.Loops.{begins, ends, goes_on}
use Rattle.image.proofs.Sections.{section_inside, size_is, start_more, start_none, sum_fits}
use Rattle.rules.proofs.Shaped.{count_right}
use Rattle.image.proofs.sizes.Sizes.counts_right.Goals as goal

pub loop-n-init : goal.loop-n-init
loop-n-init c = (start_none _, begins _)

pub offset_bounds-words-p : goal.offset_bounds-words-p
offset_bounds-words-p c =
    let z = c.args.self.now in
    omega (arith, sum_fits z.settings _ z.limits c.loop-n-test.true z.sections_are c.loop-n.invariant.0)

pub bounds-words-p : goal.bounds-words-p
bounds-words-p c =
    let z = c.args.self.now in
    omega (arith, c.loop-n.invariant.0, section_inside z.settings _ c.loop-n-test.true, c.requires)

pub overflow_add-p : goal.overflow_add-p
overflow_add-p c =
    let z = c.args.self.now in
    omega (arith, sum_fits z.settings _ z.limits c.loop-n-test.true z.sections_are c.loop-n.invariant.0)

pub overflow_add-p-in-loop-n : goal.overflow_add-p-in-loop-n
overflow_add-p-in-loop-n c =
    let z = c.args.self.now in
    omega (arith, sum_fits z.settings _ z.limits c.loop-n-test.true z.sections_are c.loop-n.invariant.0)

pub loop-n-preserved : goal.loop-n-preserved
loop-n-preserved c =
    let z = c.args.self.now in
    let l = c.loop-n in
    let n = size_is z.settings l.n-index z.sections_are in (
      start_more z.settings _ l.invariant.0 n,
      goes_on (count_right z.settings c.args.words.now) _ l.invariant.1 (rw (l.invariant.0, n)),
    )

pub returns : goal.returns
returns c = ends _ c.loop-n.n-index 11 (omega arith) (omega arith) c.loop-n.invariant.1
