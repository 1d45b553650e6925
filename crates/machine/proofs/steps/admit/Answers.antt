-- The rows in their order.
use Rattle.std.proofs.Common.{rules, ◌≡◌, ◌∙◌, leb}
use Rattle.image.specs.Views.{seen}
use Rattle.rules.specs.Replies.{op_number}
use Rattle.machine.proofs.Dispatch.{admitted, out_3, out_4, out_5, out_6}
use Rattle.machine.proofs.steps.admit.Goals as goal

pub returns-then-view-t : goal.returns-then-view-t
returns-then-view-t c =
    let v = c.args.view.now in
    out_3 v.layout.settings (seen v) c.args.named.step _ c.args.named.same c.if-view-t.true

pub returns-then-wrong_operand : goal.returns-then-wrong_operand
returns-then-wrong_operand c =
    let v = c.args.view.now in
    out_4 v.layout.settings (seen v) c.args.named.step _ c.args.named.same c.if-view-t.false c.wrong_operand.ensures c.if-wrong_operand.true

pub returns-then-word-ne : goal.returns-then-word-ne
returns-then-word-ne c =
    let v = c.args.view.now in
    let n : c.ne.result ≡ leb (op_number c.args.named.op) 9 = search rules in
    out_5 v.layout.settings (seen v) c.args.named.step _ c.args.named.same c.if-view-t.false c.wrong_operand.ensures c.if-wrong_operand.false
    c.word.ensures n c.if-word-ne.true

pub returns-then-allowed : goal.returns-then-allowed
returns-then-allowed c =
    let v = c.args.view.now in
    let n : c.ne.result ≡ leb (op_number c.args.named.op) 9 = search rules in
    let p = c.in_ok-at.ensures ∙ c.word-2.ensures in
    admitted v.layout.settings (seen v) c.args.named.step _ c.args.named.same c.if-view-t.false c.wrong_operand.ensures c.if-wrong_operand.false
    c.word.ensures n c.if-word-ne.false _ p c.allowed.ensures c.if-allowed.true

pub returns-else-allowed : goal.returns-else-allowed
returns-else-allowed c =
    let v = c.args.view.now in
    let n : c.ne.result ≡ leb (op_number c.args.named.op) 9 = search rules in
    let p = c.in_ok-at.ensures ∙ c.word-2.ensures in
    out_6 v.layout.settings (seen v) c.args.named.step _ c.args.named.same c.if-view-t.false c.wrong_operand.ensures c.if-wrong_operand.false
    c.word.ensures n c.if-word-ne.false _ p c.allowed.ensures c.if-allowed.false
