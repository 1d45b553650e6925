-- The header, the lines and the total, one behind the other.
use Rattle.std.proofs.Common.{rules}
use Rattle.replay.proofs.Runs as run
use Rattle.replay.proofs.run.run.Goals as goal

pub end-requires : goal.end-requires
end-requires c = run.total_room c.args.schedule.says c.steps.ensures.ran

pub returns : goal.returns
returns c =
    let e = run.reported c.args.schedule.says c.steps.ensures.ran c.set_up.ensures c.end.ensures in
    search (rules, e)
