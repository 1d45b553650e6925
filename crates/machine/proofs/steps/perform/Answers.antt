-- An arm an operation: what it asks is what the rows before leave, and what it answers is what is left of the table.
use Rattle.std.proofs.Common.{refl, sym, ap, ◌∙◌}
use Rattle.rules.specs.Replies.{op_number}
use Rattle.machine.proofs.Dispatch.{at_op}
use Rattle.rules.proofs.Checked.{late_advance, late_allocate, late_check, late_clear, late_deliver, late_handle, late_load, late_reserve, late_retire, late_swap, late_use}
use Rattle.machine.proofs.steps.perform.Goals as goal

pub returns-in-Allocate : goal.returns-in-Allocate
returns-in-Allocate c = at_op c.args.named.step 0 c.requires.1 (sym c.args.named.same ∙ ap op_number c.in-Allocate.is) (late_allocate _ _ _ _ _ _) c.allocate.ensures

pub returns-in-Swap : goal.returns-in-Swap
returns-in-Swap c = at_op c.args.named.step 1 c.requires.1 (sym c.args.named.same ∙ ap op_number c.in-Swap.is) (late_swap _ _ _ _ _ _) c.swap.ensures

pub returns-in-Load : goal.returns-in-Load
returns-in-Load c = at_op c.args.named.step 2 c.requires.1 (sym c.args.named.same ∙ ap op_number c.in-Load.is) (late_load _ _ _ _ _ _) c.load.ensures

pub returns-in-Reserve : goal.returns-in-Reserve
returns-in-Reserve c = at_op c.args.named.step 3 c.requires.1 (sym c.args.named.same ∙ ap op_number c.in-Reserve.is) (late_reserve _ _ _ _ _ _) c.reserve.ensures

pub returns-in-Check : goal.returns-in-Check
returns-in-Check c = at_op c.args.named.step 4 c.requires.1 (sym c.args.named.same ∙ ap op_number c.in-Check.is) (late_check _ _ _ _ _ _) c.check.ensures

pub returns-in-Use : goal.returns-in-Use
returns-in-Use c =
    let i = c.args.image.now in
    let v = c.view.ensures in
    at_op {i = i} {j = i} c.args.named.step 5 c.requires.1 (sym c.args.named.same ∙ ap op_number c.in-Use.is) (late_use _ _ _ _ _ _)
    (record { same = refl; layout = refl; outcome = rw (v.words, v.layout) at c.use_slot.ensures })

pub returns-in-Clear : goal.returns-in-Clear
returns-in-Clear c = at_op c.args.named.step 6 c.requires.1 (sym c.args.named.same ∙ ap op_number c.in-Clear.is) (late_clear _ _ _ _ _ _) c.clear.ensures

pub returns-in-Retire : goal.returns-in-Retire
returns-in-Retire c = at_op c.args.named.step 7 c.requires.1 (sym c.args.named.same ∙ ap op_number c.in-Retire.is) (late_retire _ _ _ _ _ _) c.retire.ensures

pub returns-in-Advance : goal.returns-in-Advance
returns-in-Advance c = at_op c.args.named.step 8 c.requires.1 (sym c.args.named.same ∙ ap op_number c.in-Advance.is) (late_advance _ _ _ _ _ _) c.advance.ensures

pub returns-in-Deliver : goal.returns-in-Deliver
returns-in-Deliver c = at_op c.args.named.step 9 c.requires.1 (sym c.args.named.same ∙ ap op_number c.in-Deliver.is) (late_deliver _ _ _ _ _ _) c.deliver.ensures

pub returns-in-Handle : goal.returns-in-Handle
returns-in-Handle c = at_op c.args.named.step 10 c.requires.1 (sym c.args.named.same ∙ ap op_number c.in-Handle.is) (late_handle _ _ _ _ _ _) c.handle.ensures
