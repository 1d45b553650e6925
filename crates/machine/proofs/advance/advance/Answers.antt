-- The phase picks the rule's line, and its phase line gives what the call asks.
use Rattle.std.proofs.Common.{◌∙◌, sym, ap}
use Rattle.rules.specs.Replies.{phase_number}
use Rattle.machine.proofs.Dispatch.{item_there}
use Rattle.machine.proofs.advance.advance.Goals as goal

pub free-requires : goal.free-requires
free-requires c =
    let v = c.view.ensures in
    let p = c.in_ok-at.ensures ∙ (rw (v.words, v.layout) at c.word.ensures) in
    let i = item_there {l = c.args.image.now.layout} c.requires.2 (sym p ∙ ap phase_number c.in-Freeing.is) in
    (c.requires.0, i.inside, i.kept, i.named, c.requires.3 _ i.inside)
