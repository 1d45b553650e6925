-- The branches of the rule, by whether the record is noted.
use Rattle.std.proofs.Common.{rules, arith}
use Rattle.image.proofs.Stands.{room_fits}
use Rattle.rules.specs.Advance.{free}
use Rattle.machine.proofs.advance.free.Goals as goal

pub overflow_add-k : goal.overflow_add-k
overflow_add-k c =
    let v = c.view-view.ensures in
    omega (arith, rw (v.words, v.layout) at c.word-k.ensures, c.requires.1, c.requires.2, room_fits c.args.image.now.layout)

pub freed_on-requires : goal.freed_on-requires
freed_on-requires c =
    let v = c.view-view.ensures in
    (search rules, omega (arith, rw (v.words, v.layout) at c.word-i.ensures, c.requires.1, room_fits c.args.image.now.layout))

pub freed_on-requires-else-kept : goal.freed_on-requires-else-kept
freed_on-requires-else-kept c =
    let v = c.view-view.ensures in
    (search rules, omega (arith, rw (v.words, v.layout) at c.word-i.ensures, c.requires.1, room_fits c.args.image.now.layout))

pub returns-then-kept : goal.returns-then-kept
unfolding free
returns-then-kept c = search rules

pub returns-else-kept : goal.returns-else-kept
unfolding free
returns-else-kept c = search rules
