-- While a list is freed the entries below v and from u on are in use, else those below its length.
use Rattle.std.proofs.Common.{arith, sym, ap, ◌∙◌, ◌≤◌, ℕ, Bool, not, eqb}
use Rattle.image.proofs.Lists.{all_below, all_first, all_above, freeing_all, other_all, room_first}
use Rattle.image.proofs.Loops.{joined}
use Rattle.image.proofs.Threads.{not_freeing}
use Rattle.image.specs.Views.{seen}
use Rattle.rules.specs.State.{entry}
use Rattle.rules.specs.Settings.{room}
use Rattle.rules.specs.Replies.{phase_number}
use Rattle.image.proofs.view.View.entries_right.Goals as goal

pub row-requires : goal.row-requires
row-requires c = omega (arith, room_first c.args.self.now.layout)

pub returns-in-Freeing : goal.returns-in-Freeing
returns-in-Freeing c =
    let v = c.args.self.now in
    let a = c.args.l in
    let m : c.args.l.length ≤ room c.args.self.now.layout.settings = omega (arith, c.requires.1, v.layout.room_is) in
    let q = c.requires.2 (ap phase_number c.in-Freeing.is) in
    let f : ℕ → Bool = λ x. not (eqb x 0) in
    joined
    (all_below c.row.ensures f a.length m a.v (omega (arith, q.0, q.1)) c.none_zero.ensures)
    (all_above c.row.ensures f a.length m a.u (omega (arith, q.0)) c.none_zero-in-Freeing.ensures)
    (freeing_all (entry (seen v) c.args.t) _ a.length (phase_number a.phase) a.u a.v m (ap phase_number c.in-Freeing.is) q.0 q.1)

pub returns-in_default : goal.returns-in_default
returns-in_default c =
    let v = c.args.self.now in
    let a = c.args.l in
    let m : c.args.l.length ≤ room c.args.self.now.layout.settings = omega (arith, c.requires.1, v.layout.room_is) in
    all_first c.row.ensures (λ x. not (eqb x 0)) a.length m c.none_zero-in_default.ensures
    ∙ sym (other_all (entry (seen v) c.args.t) _ a.length (phase_number a.phase) a.u a.v m (not_freeing a.phase c.in_default.not-Freeing))
