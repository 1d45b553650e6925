-- What the rows of the table of replies before those of the operations leave.
use Rattle.std.specs.Prelude.{◌≡◌}
use Rattle.rules.specs.declared.Settings.{Settings}
use Rattle.rules.specs.declared.Step.{Step}
use Rattle.rules.specs.State.{State}
use Rattle.rules.specs.Step.{perform, answer}
use Rattle.rules.proofs.Checked.{checked, late, Entered}

-- the step is past them: the rows of the operations and what they do are left
pub record Admitted (S : Settings) (m : State) (s : Step) : Type 0 where
  pub entered : Entered S m s
  pub left : answer S m s ≡ checked (late S m s.thread s.op s.a s.b s.c) (perform S m s)
