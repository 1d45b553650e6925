use Rattle.std.proofs.Common.{arith, ◌≡◌, ap, ◌∙◌}
use Rattle.image.proofs.Sections.{size_is, start_more, start_none, sum_fits}
use Rattle.rules.specs.Image.{sections, start}
use Rattle.image.proofs.sizes.Sizes.total.Goals as goal

pub loop-n-init : goal.loop-n-init
loop-n-init c = start_none _

pub overflow_add-words : goal.overflow_add-words
overflow_add-words c =
    let z = c.args.self.now in
    omega (arith, sum_fits z.settings _ z.limits c.loop-n-test.true z.sections_are c.loop-n.invariant)

pub overflow_add-words-in-loop-n : goal.overflow_add-words-in-loop-n
overflow_add-words-in-loop-n c =
    let z = c.args.self.now in
    omega (arith, sum_fits z.settings _ z.limits c.loop-n-test.true z.sections_are c.loop-n.invariant)

pub loop-n-preserved : goal.loop-n-preserved
loop-n-preserved c =
    let z = c.args.self.now in
    start_more z.settings _ c.loop-n.invariant (size_is z.settings _ z.sections_are)

pub returns : goal.returns
returns c =
    let e : c.loop-n.n-index ≡ sections = omega arith in
    c.loop-n.invariant ∙ ap (start c.args.self.now.settings) e
