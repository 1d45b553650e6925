-- The cases marked (P) of 01: every row of the table passes, by computation.
use mathlib.Core.Path.{◌≡◌, refl}
use mathlib.Core.Bool.{true}
use Rattle.rules.specs.Tests.{all, some, same}
use Rattle.rules.specs.Settings.{legal, room, settings, settings_words}
use Rattle.rules.specs.Image.{sizes, size, start, within, address, is_word, view}
use Rattle.rules.specs.Damaged.{laid, records_right, statuses_right, marks_right, in_use, entries_right, phase_line, thread_right, right, undamaged}
use Rattle.rules.specs.SetUp.{fresh_section, fresh_up_to, fresh}
use Rattle.rules.specs.Phases.{allowed, allows}
use Rattle.rules.specs.Operations.{lowest_free, named, allocate, swap, load, reserve, to_idle, check, use_slot, clear, retire, deliver, handle}
use Rattle.rules.specs.Advance.{onward, collect, ping, wait, seen, scan, freed_on, noted, free, advance}
use Rattle.rules.specs.Replies.{operands, fits, operands_fit, phase_forbids, not_live, refusals, refusal}
use Rattle.rules.specs.Step.{perform, answer, step}
use Rattle.rules.specs.Cases.{claims_hold, follows, passes, table, all_pass}

pub cases_pass : all_pass table ≡ true
unfolding all some same legal room settings settings_words sizes size start within address is_word view laid records_right statuses_right marks_right in_use entries_right phase_line thread_right right undamaged fresh_section fresh_up_to fresh allowed allows lowest_free named allocate swap load reserve to_idle check use_slot clear retire deliver handle onward collect ping wait seen scan freed_on noted free advance operands fits operands_fit phase_forbids not_live refusals refusal perform answer step claims_hold follows passes table all_pass
cases_pass = refl
