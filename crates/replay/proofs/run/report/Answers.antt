-- No legal settings need more words than the largest image has.
use Rattle.std.proofs.Common.{sym, ◌∙◌}
use Rattle.replay.proofs.Runs as run
use Rattle.replay.proofs.run.report.Goals as goal

pub slice_bounds-room-end : goal.slice_bounds-room-end
slice_bounds-room-end c = run.words_fit c.args.schedule.says c.needed-n.ensures

pub slice_bounds-run-end : goal.slice_bounds-run-end
slice_bounds-run-end c = sym (run.part_long c.args.schedule.says c.needed-n.ensures)

pub run-requires : goal.run-requires
run-requires c = run.part_long c.args.schedule.says c.needed-n.ensures ∙ c.needed-n.ensures
