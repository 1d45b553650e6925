-- What a run has counted and written.
use Rattle.std.specs.Prelude.{◌≡◌, not, ◌&&◌, List, ◌++◌, ℕ, ◌+◌, ◌≤◌, eqb}
use Rattle.rules.specs.Tests.{bit}
use Rattle.rules.specs.Phases.{#advance}
use Rattle.rules.specs.declared.Step.{Step}
use Rattle.rules.specs.Step.{step}
use Rattle.rules.specs.Schedules.{outcomes}
use Rattle.rules.specs.Program.{ascii, most_steps, line, lines, accepted, refusals_among, freed}
use Rattle.replay.specs.declared.report.Tally.{Tally}
use Rattle.replay.specs.declared.report.Report.{Report}

-- the first line
abbrev pub header : List ℕ
header = ascii "step op code value\n"

-- no more steps are counted than a schedule has
pub record Low (t : Tally) : Type 0 where
  pub accepted : t.accepted ≤ most_steps
  pub refused : t.refused ≤ most_steps
  pub freed : t.freed ≤ most_steps

-- no step yet
abbrev pub nothing : Tally
nothing = record { accepted = 0; refused = 0; freed = 0 }

-- one step more
unfoldable pub counted_in : Tally → (op number value : ℕ) → Tally
counted_in t op number value =
    record {
      accepted = t.accepted + bit (eqb number 0);
      refused = t.refused + bit (not (eqb number 0));
      freed = t.freed + bit (eqb op #advance && eqb number 0 && eqb value 3);
    }

-- step i was carried out on the image J, its line written, and counted
pub record Turned (i : ℕ) (s : Step) (J J' : List ℕ) (r r' : Report) : Type 0 where
  pub image : J' ≡ (step J s).image
  pub text : r'.text.now.bytes ≡ r.text.now.bytes ++ line i s (step J s)
  pub sums : r'.tally ≡ counted_in r.tally s.op (step J s).number (step J s).value

-- steps were carried out on the image J, the header and their lines written, and counted
pub record Ran (ss : List Step) (J : List ℕ) (r : Report) : Type 0 where
  pub text : r.text.now.bytes ≡ header ++ lines 0 ss (outcomes J ss)
  pub accepted : r.tally.accepted ≡ accepted (outcomes J ss)
  pub refused : r.tally.refused ≡ refusals_among (outcomes J ss)
  pub freed : r.tally.freed ≡ freed ss (outcomes J ss)
