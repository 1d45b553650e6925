-- What a schedule says of itself.
use Rattle.std.proofs.Common.{sym, ◌∙◌}
use Rattle.rules.proofs.Programs.{schedule_says}
use Rattle.replay.proofs.reader.Schedule.of.Goals as goal

pub invariant_of-result : goal.invariant_of-result
invariant_of-result c =
    record { says = schedule_says c.args.input.now (sym c.is_schedule.ensures ∙ c.if-is_schedule.true) }
