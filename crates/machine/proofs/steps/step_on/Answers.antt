-- The row 2, the rows 3 to 6, or the operation.
use Rattle.std.proofs.Common.{rules, ◌≡◌, Err}
use Rattle.image.specs.Views.{state}
use Rattle.machine.proofs.Dispatch.{out_2, refuses}
use Rattle.machine.proofs.steps.step_on.Goals as goal

pub returns-in_err-op : goal.returns-in_err-op
returns-in_err-op c =
    let i = c.args.image.now in
    let e : c.from_residual.result ≡ Err c.in_err-op.field-0.0 = search rules in
    let n = c.in_err-op.ensures in
    refuses e (rw n.0 (out_2 i.layout.settings (state i) c.args.step n.1))
