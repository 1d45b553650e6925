-- The row's words stand one after another from its first on.
use Rattle.std.proofs.Common.{arith}
use Rattle.image.proofs.Stands.{row_part, row_within}
use Rattle.rules.proofs.Limits.{words_most}
use Rattle.image.proofs.view.View.row.Goals as goal

pub overflow_add-end : goal.overflow_add-end
overflow_add-end c =
    let v = c.args.self.now in
    omega (arith, row_within v _ _ c.requires c.place-start.ensures c.lay.ensures, c.lay.ensures.span, words_most v.layout.limits)

pub slice_bounds-result-end : goal.slice_bounds-result-end
slice_bounds-result-end c =
    let v = c.args.self.now in
    omega (arith, row_within v _ _ c.requires c.place-start.ensures c.lay.ensures, c.lay.ensures.span, v.long)

pub returns : goal.returns
returns c = row_part c.args.self.now _ _ c.requires c.place-start.ensures c.lay.ensures
