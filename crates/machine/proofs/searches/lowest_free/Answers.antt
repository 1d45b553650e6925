-- What is passed over and what the search meets are no free records.
use Rattle.std.proofs.Common.{arith, sym}
use Rattle.machine.proofs.Passed.{first_free, free_inside, none_free}
use Rattle.machine.proofs.searches.lowest_free.Goals as goal

pub returns-in_err-i : goal.returns-in_err-i
returns-in_err-i c =
    let p = c.without_zero-passed.ensures in
    rw c.from_residual.ensures (none_free c.args.view.now c.section-statuses.ensures p.0 p.1 c.in_err-i.ensures)

pub returns : goal.returns
returns c =
    let p = c.without_zero-passed.ensures in
    let e = c.in_ok-i.ensures in
    (sym (first_free c.args.view.now c.section-statuses.ensures p.0 p.1 _ e.0 e.1 e.2), omega arith, free_inside c.args.view.now c.section-statuses.ensures p.0 p.1 _ e.0)
