-- Word x % H of row x / H is slot x of all threads, in the section that the row comes from.
use Rattle.machine.proofs.Sections.{row_there, seen_joined}
use Rattle.machine.proofs.advance.slot_seen.Goals as goal

pub row-row-requires : goal.row-row-requires
row-row-requires c = row_there c.args.view.now c.section-private.ensures c.section-published.ensures c.requires

pub returns : goal.returns
returns c = seen_joined c.args.view.now c.section-private.ensures c.section-published.ensures c.requires _ c.row-row.ensures.result_value
