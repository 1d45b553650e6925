-- The entries are tested last, and only where the phase line holds.
use Rattle.std.proofs.Common.{arith, sym, ◌∙◌}
use Rattle.image.proofs.Threads.{asks, failing, no_phase, passing}
use Rattle.image.specs.Views.{seen}
use Rattle.image.proofs.view.View.thread_right.Goals as goal

pub returns-in_default : goal.returns-in_default
returns-in_default c = no_phase _ _ _ (omega (arith, c.in_default.ensures.1, c.word.ensures))

pub entries_right-requires : goal.entries_right-requires
entries_right-requires c =
    let v = c.args.self.now in
    let q = asks v.layout.settings (seen v) c.args.t c.in-Ok.phase c.word-2.ensures (c.in-Ok.ensures ∙ c.word.ensures) c.word-3.ensures c.word-4.ensures c.word-5.ensures c.word-6.ensures c.word-7.ensures v.layout.room_is c.line_right.ensures c.if-word-s.true in
    (c.requires, q.0, q.1)

pub returns-then-word-s : goal.returns-then-word-s
returns-then-word-s c =
    let v = c.args.self.now in
    c.entries_right.ensures
    ∙ sym (passing v.layout.settings (seen v) c.args.t c.in-Ok.phase c.word-2.ensures (c.in-Ok.ensures ∙ c.word.ensures) c.word-3.ensures c.word-4.ensures c.word-5.ensures c.word-6.ensures c.word-7.ensures v.layout.room_is c.line_right.ensures c.if-word-s.true)

pub returns-else-word-s : goal.returns-else-word-s
returns-else-word-s c =
    let v = c.args.self.now in
    sym (failing v.layout.settings (seen v) c.args.t c.in-Ok.phase c.word-2.ensures (c.in-Ok.ensures ∙ c.word.ensures) c.word-3.ensures c.word-4.ensures c.word-5.ensures c.word-6.ensures c.word-7.ensures v.layout.room_is c.line_right.ensures c.if-word-s.false)
