-- The statements of demand 3 speak of something: in 01's printed example a check confirms a record, and a reclaim ends.
use mathlib.Core.Path.{refl}
use mathlib.Core.List.{List, [], ◌∷◌}
use native.Mathlib.Omega.{arith}
use Rattle.rules.specs.declared.Settings.{Settings}
use Rattle.rules.specs.Tests.{all, some}
use Rattle.rules.specs.Settings.{legal, room, settings, settings_of, settings_words}
use Rattle.rules.specs.Image.{sizes, size, start, within, address, is_word, view}
use Rattle.rules.specs.Damaged.{laid, records_right, statuses_right, marks_right, in_use, entries_right, phase_line, thread_right, right, undamaged}
use Rattle.rules.specs.SetUp.{fresh_section, fresh_up_to, fresh}
use Rattle.rules.specs.Phases.{allowed, allows, #allocate, #swap, #load, #reserve, #check, #use, #clear, #retire, #advance, #deliver, #handle}
use Rattle.rules.specs.Operations.{lowest_free, named, allocate, swap, load, reserve, to_idle, check, use_slot, clear, retire, deliver, handle}
use Rattle.rules.specs.Advance.{onward, collect, ping, wait, seen, scan, freed_on, noted, free, advance}
use Rattle.rules.specs.declared.Step.{Step}
use Rattle.rules.specs.Replies.{step_of, operands, fits, operands_fit, phase_forbids, not_live, refusals, refusal}
use Rattle.rules.specs.Step.{perform, answer, step}
use Rattle.rules.specs.Schedules.{run}
use Rattle.rules.specs.Demand3.{step_at, image_at, Confirms, Ends}

-- 01, The schedule program: its settings and steps
abbrev example_settings : Settings
example_settings = settings_of 2 1 1 2 1 4294967295

abbrev reclaim_on : Step
reclaim_on = step_of 0 #advance 0 0 0

abbrev example_steps : List Step
example_steps =
    step_of 0 #allocate 0 0 0 ∷ step_of 0 #swap 0 0 1 ∷ step_of 1 #load 0 0 0 ∷ step_of 1 #reserve 0 0 0 ∷ step_of 1 #check 0 0 0
    ∷ step_of 0 #swap 0 1 0 ∷ step_of 0 #retire 1 0 0
    ∷ reclaim_on ∷ reclaim_on ∷ reclaim_on ∷ reclaim_on ∷ reclaim_on ∷ reclaim_on
    ∷ step_of 1 #deliver 0 0 0 ∷ step_of 1 #handle 0 0 0 ∷ step_of 1 #handle 0 0 0
    ∷ reclaim_on ∷ reclaim_on ∷ reclaim_on ∷ reclaim_on
    ∷ step_of 1 #use 0 0 0 ∷ step_of 1 #clear 0 0 0 ∷ step_of 1 #use 0 0 0 ∷ []

-- step 4: thread 1 confirms record 1 in its slot 0
pub example_confirms : Confirms example_settings example_steps 4 1 0 1
unfolding all some legal room settings settings_words sizes size start within address is_word view laid records_right statuses_right marks_right in_use entries_right phase_line thread_right right undamaged fresh_section fresh_up_to fresh allowed allows lowest_free named allocate swap load reserve to_idle check use_slot clear retire deliver handle onward collect ping wait seen scan freed_on noted free advance operands fits operands_fit phase_forbids not_live refusals refusal perform answer step run step_at image_at
example_confirms = record {
  check = record { there = omega arith; accepted = refl; by = refl; operation = refl };
  equal = refl;
  slot = refl;
  compared = refl;
  some = omega arith;
}

-- step 19: thread 0 ends its reclaim
pub example_ends : Ends example_settings example_steps 0 19
unfolding all some legal room settings settings_words sizes size start within address is_word view laid records_right statuses_right marks_right in_use entries_right phase_line thread_right right undamaged fresh_section fresh_up_to fresh allowed allows lowest_free named allocate swap load reserve to_idle check use_slot clear retire deliver handle onward collect ping wait seen scan freed_on noted free advance operands fits operands_fit phase_forbids not_live refusals refusal perform answer step run step_at image_at
example_ends = record {
  advance = record { there = omega arith; accepted = refl; by = refl; operation = refl };
  before = refl;
  after = refl;
}
