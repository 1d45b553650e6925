-- The step, its reply, its line and its count.
use Rattle.replay.proofs.Runs.{turned}
use Rattle.replay.proofs.run.turn.Goals as goal

pub returns-clause-turned : goal.returns-clause-turned
returns-clause-turned c =
    turned c.args.i c.step-reply.result c.step-reply.ensures c.number-number.ensures c.value-value.ensures c.push_line.ensures c.count.ensures
