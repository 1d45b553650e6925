-- The loop's invariant: what is still to come makes up what all steps give, the reader is at the next step, and the report writes to the text that it began with.
use Rattle.std.proofs.Common.{◌≡◌}
use Rattle.std.specs.Iterator.Adapters.{enumerate_source, enumerate_count}
use Rattle.rules.specs.Program.{given_count}
use Rattle.replay.proofs.Runs.{Going}
use Rattle.replay.proofs.run.steps.Given as goal

abbrev pub invariant-loop-i : goal.invariant-loop-i
invariant-loop-i l = record {
  can : (goal.iterator-loop-i).can_next l.i-iterator;
  ends : (goal.iterator-loop-i).is_finite l.i-iterator;
  place : (enumerate_source l.i-iterator).at ≡ enumerate_count l.i-iterator;
  input : (enumerate_source l.i-iterator).schedule.bytes.now ≡ l.fn.schedule.bytes.now;
  same_reference : l.report.text.ghost_name ≡ l.initial.report.text.ghost_name;
  going : Going l.fn.schedule.bytes.now l.fn.image (given_count l.fn.schedule.bytes.now) l.image l.report (enumerate_count l.i-iterator);
}
