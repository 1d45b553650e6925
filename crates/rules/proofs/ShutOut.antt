-- 01, How far each contract reaches: the six builds that have to be shut out, and for each an input where it differs from the rules.
use mathlib.Core.Path.{◌≡◌, refl, ap}
use mathlib.Core.Bool.{true, cond, ◌&&◌}
use mathlib.Core.List.{List, [], ◌∷◌, ◌++◌}
use Prim.Native.Nat.{ℕ, zero, suc, ◌+◌}
use native.Mathlib.Omega.{arith}
use lib.Dec.{eqb}
use Rattle.rules.specs.declared.Settings.{Settings}
use Rattle.rules.specs.Tests.{all, some, same}
use Rattle.rules.specs.Settings.{legal, room, settings, settings_words, settings_of}
use Rattle.rules.specs.State.{State, status, phase, u, v, list_length, entry, Write, status≔, entry≔, Answer, done}
use Rattle.rules.specs.Image.{sizes, size, start, within, address, is_word, view, Outcome, outcome, after}
use Rattle.rules.specs.Damaged.{laid, records_right, statuses_right, marks_right, in_use, entries_right, phase_line, thread_right, right, undamaged}
use Rattle.rules.specs.SetUp.{fresh_section, fresh_up_to, fresh}
use Rattle.rules.specs.Phases.{freeing, allowed, allows, #allocate, #retire, #advance}
use Rattle.rules.specs.Operations.{lowest_free, named, allocate, swap, load, reserve, to_idle, check, use_slot, clear, retire, deliver, handle}
use Rattle.rules.specs.Advance.{onward, collect, ping, wait, seen, scan, freed_on, noted, free, advance}
use Rattle.rules.specs.declared.Step.{Step}
use Rattle.rules.specs.Replies.{step_of, operands, fits, operands_fit, phase_forbids, not_live, refusals, refusal}
use Rattle.rules.specs.Step.{perform, answer, step}
use Rattle.rules.specs.Schedules.{run, reached}

-- a build: what it answers, and the image that it leaves
abbrev pub Build : Type 0
Build = List ℕ → Step → Outcome

-- the contract of the step: number, value and every word of the image
abbrev pub Meets : Build → Type 0
Meets f = (I : List ℕ) (s : Step) → f I s ≡ step I s

abbrev pub ShutOut : Build → Type 0
ShutOut f = Meets f → ⊥

-- 1: refuses everything, with any numbers
unfoldable pub refuses_all : (List ℕ → Step → ℕ) → Build
refuses_all n I s = outcome (suc (n I s)) 0 I

-- 2: a fixed reply, over the right image
unfoldable pub fixed : (number value : ℕ) → Build
fixed n x I s = outcome n x (step I s).image

-- 3: answers right, and never writes
unfoldable pub writes_nothing : Build
writes_nothing I s = outcome (step I s).number (step I s).value I

-- the rules with f for phase 7, where it is not held up by damage: build 4 leaves entries of 0 behind
unfoldable pub frees_by : (Settings → State → ℕ → Answer) → Build
frees_by f I s =
    let S : Settings = settings I in
    let m : State = view S I in
    cond (eqb (refusal S m s) 0 && eqb s.op #advance && eqb (phase m s.thread) freeing)
    (after S I (f S m s.thread)) (step I s)

-- the first n entries of thread t, freed and taken out
unfoldable pub all_freed : State → (t n : ℕ) → List Write
all_freed m t zero = []
all_freed m t (suc n) = status≔ (entry m t n) 0 ∷ entry≔ t n 0 ∷ all_freed m t n

-- 4: frees the whole list at its first entry; after that it says that it frees, and only counts on
unfoldable pub frees_at_once : Build
frees_at_once = frees_by (λ S m t.
    done 3 (cond (eqb (u m t) 0) (all_freed m t (list_length m t)) [] ++ freed_on t (u m t) (list_length m t) 0))

-- 5: keeps every record
unfoldable pub keeps_all : Build
keeps_all = frees_by (λ S m t.
    done 2 (entry≔ t (u m t) 0 ∷ entry≔ t (v m t) (entry m t (u m t)) ∷ freed_on t (u m t) (list_length m t) (v m t + 1)))

-- 6: reports a length made up from the step alone, whatever the list has
unfoldable pub invents_length : (Step → ℕ) → Build
invents_length n I s =
    let o : Outcome = step I s in
    outcome o.number (cond (eqb s.op #retire && eqb o.number 0) (n s) o.value) o.image

-- the inputs: thread 0 alone, with one slot and one cell
abbrev allocates : Step
allocates = step_of 0 #allocate 0 0 0

abbrev retires : ℕ → Step
retires p = step_of 0 #retire p 0 0

abbrev advances : Step
advances = step_of 0 #advance 0 0 0

-- one record, and a reclaim at each retire; two records, and a reclaim at two
abbrev one : Settings
one = settings_of 1 1 1 1 1 0

abbrev two : Settings
two = settings_of 1 1 1 2 2 0

-- record 1 is to be freed next; records 1 and 2 are
abbrev one_left : List ℕ
one_left = reached one (allocates ∷ retires 1 ∷ advances ∷ advances ∷ advances ∷ advances ∷ [])

abbrev two_left : List ℕ
two_left = reached two (allocates ∷ allocates ∷ retires 1 ∷ retires 2 ∷ advances ∷ advances ∷ advances ∷ advances ∷ [])

-- two records are live, with an empty list; one of them is in the list
abbrev none_listed : List ℕ
none_listed = reached two (allocates ∷ allocates ∷ [])

abbrev one_listed : List ℕ
one_listed = reached two (allocates ∷ allocates ∷ retires 2 ∷ [])

-- the outcome after two advances of a build, both in phase 7
abbrev last : Build → Outcome
last f = f (f two_left advances).image advances

abbrev pub answers : Outcome → (number value : ℕ) → Type 0
answers o n x = (o.number ≡ n) × (o.value ≡ x)

-- what the builds and the rules answer there, by computation
pub record Facts : Type 0 where
  pub allocated : answers (step (fresh one) allocates) 0 1
  pub forbidden : answers (step (fresh one) advances) 6 0
  pub unwritten : status (view one (writes_nothing (fresh one) allocates).image) 1 ≡ 0
  pub written : status (view one (step (fresh one) allocates).image) 1 ≡ 1
  -- both replies of the build that frees at once are right, and so is its last image: the image between isn't
  pub first_reply : answers (frees_at_once two_left advances) 0 3 × answers (step two_left advances) 0 3
  pub last_reply : answers (last frees_at_once) 0 3 × answers (last step) 0 3
  pub last_image : same (last frees_at_once).image (last step).image ≡ true
  pub both_gone : status (view two (frees_at_once two_left advances).image) 2 ≡ 0
  pub one_gone : status (view two (step two_left advances).image) 2 ≡ 2
  pub kept : answers (keeps_all one_left advances) 0 2
  pub freed : answers (step one_left advances) 0 3
  pub invented_first : (n : Step → ℕ) → answers (invents_length n none_listed (retires 1)) 0 (n (retires 1))
  pub invented_second : (n : Step → ℕ) → answers (invents_length n one_listed (retires 1)) 0 (n (retires 1))
  pub first_length : answers (step none_listed (retires 1)) 0 1
  pub second_length : answers (step one_listed (retires 1)) 0 2

pub facts : Facts
unfolding all some same legal room settings settings_words sizes size start within address is_word view laid records_right statuses_right marks_right in_use entries_right phase_line thread_right right undamaged fresh_section fresh_up_to fresh allowed allows lowest_free named allocate swap load reserve to_idle check use_slot clear retire deliver handle onward collect ping wait seen scan freed_on noted free advance operands fits operands_fit phase_forbids not_live refusals refusal perform answer step run writes_nothing frees_by all_freed frees_at_once keeps_all invents_length
facts = record {
  allocated = (refl, refl);
  forbidden = (refl, refl);
  unwritten = refl;
  written = refl;
  first_reply = ((refl, refl), (refl, refl));
  last_reply = ((refl, refl), (refl, refl));
  last_image = refl;
  both_gone = refl;
  one_gone = refl;
  kept = (refl, refl);
  freed = (refl, refl);
  invented_first = λ n. (refl, refl);
  invented_second = λ n. (refl, refl);
  first_length = (refl, refl);
  second_length = (refl, refl);
}

-- none of them meets the contract
pub refuses_all_out : (n : List ℕ → Step → ℕ) → ShutOut (refuses_all n)
unfolding refuses_all
refuses_all_out n h = omega (arith, ap (λ o. o.number) (h (fresh one) allocates), facts.allocated)

pub fixed_out : (n x : ℕ) → ShutOut (fixed n x)
unfolding fixed
fixed_out n x h =
    omega (arith, ap (λ o. o.number) (h (fresh one) allocates), ap (λ o. o.number) (h (fresh one) advances), facts.allocated, facts.forbidden)

pub writes_nothing_out : ShutOut writes_nothing
writes_nothing_out h =
    omega (arith, ap (λ o. status (view one o.image) 1) (h (fresh one) allocates), facts.unwritten, facts.written)

pub frees_at_once_out : ShutOut frees_at_once
frees_at_once_out h =
    omega (arith, ap (λ o. status (view two o.image) 2) (h two_left advances), facts.both_gone, facts.one_gone)

pub keeps_all_out : ShutOut keeps_all
keeps_all_out h = omega (arith, ap (λ o. o.value) (h one_left advances), facts.kept, facts.freed)

pub invents_length_out : (n : Step → ℕ) → ShutOut (invents_length n)
invents_length_out n h =
    omega (
      arith,
      ap (λ o. o.value) (h none_listed (retires 1)),
      ap (λ o. o.value) (h one_listed (retires 1)),
      facts.invented_first n,
      facts.invented_second n,
      facts.first_length,
      facts.second_length,
    )
