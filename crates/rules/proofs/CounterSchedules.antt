-- Slips that demand 3 shuts out, made visible: for each a machine with that slip and a schedule from a fresh set-up, after
-- which a held record is free; our rules keep it. And a machine that waits for itself, whose reclaim never ends.
use mathlib.Core.Path.{◌≡◌, refl}
use mathlib.Core.Logic.{◌≢◌}
use mathlib.Core.Bool.{true, false, cond, not, ◌&&◌, ◌||◌}
use mathlib.Core.List.{List, [], ◌∷◌, ◌++◌}
use Prim.Native.Nat.{ℕ, ◌+◌, ◌<◌}
use native.Mathlib.Omega.{arith}
use lib.ListN.{replicate}
use lib.Dec.{eqb, leb}
use Rattle.rules.specs.declared.Settings.{Settings}
use Rattle.rules.specs.Tests.{all, some, bit}
use Rattle.rules.specs.Settings.{legal, all_slots, slot, room, settings, settings_words, settings_of}
use Rattle.rules.specs.State.{State, status, private, published, held, count, phase, u, pending, handler, collected, collected≔, scanned≔, Answer, done, refused}
use Rattle.rules.specs.Image.{sizes, size, start, within, address, is_word, view, Outcome, after}
use Rattle.rules.specs.Damaged.{laid, records_right, statuses_right, marks_right, in_use, entries_right, phase_line, thread_right, right, undamaged, damaged}
use Rattle.rules.specs.SetUp.{fresh_section, fresh_up_to, fresh}
use Rattle.rules.specs.Phases.{operations, waiting, scanning, freeing, allowed, allows, #allocate, #swap, #load, #reserve, #check, #use, #retire, #advance, #deliver, #handle}
use Rattle.rules.specs.Operations.{lowest_free, named, allocate, swap, load, reserve, to_idle, check, use_slot, clear, retire, deliver, handle}
use Rattle.rules.specs.Advance.{onward, collect, ping, wait, seen, scan, freed_on, noted, free, advance}
use Rattle.rules.specs.declared.Step.{Step}
use Rattle.rules.specs.Replies.{step_of, operands, fits, operands_fit, Ground, phase_forbids, not_live, refusals, refusal}
use Rattle.rules.specs.Step.{perform, answer, step}
use Rattle.rules.specs.Schedules.{run, reached}
use Rattle.rules.proofs.Laws.{same, diff, sep, end, ◌▸◌, case_of}
use Rattle.rules.proofs.Refused.{Accepted, accepted_says}
use Rattle.rules.proofs.Changes.{eqb_self}
use Rattle.rules.proofs.ShutOut.{Build, answers}

-- a machine by its refusals and its operations
unfoldable pub machine : (Settings → State → Step → ℕ) → (Settings → State → Step → Answer) → Build
machine refuse act I s =
    let S : Settings = settings I in
    let m : State = view S I in
    let n : ℕ = refuse S m s in
    after S I (cond (damaged I) (refused 1) (cond (eqb n 0) (act S m s) (refused n)))

-- with our refusals and operations it is our step
pub ours_is : (I : List ℕ) (s : Step) → machine refusal perform I s ≡ step I s
unfolding machine step answer
ours_is I s = refl

-- our rules, but in phase p an advance does f
unfoldable pub with_phase : ℕ → (Settings → State → ℕ → Answer) → Build
with_phase p f = machine refusal (λ S m s. cond (eqb s.op #advance && eqb (phase m s.thread) p) (f S m s.thread) (perform S m s))

-- our rules, but number n is never given
unfoldable pub first_but : ℕ → List Ground → ℕ
first_but n [] = 0
first_but n (g ∷ gs) = cond (g.given && not (eqb g.number n)) g.number (first_but n gs)

unfoldable pub without_number : ℕ → Build
without_number n = machine (λ S m s. first_but n (refusals S m s)) perform

-- the wait as printed in 004, lines 51-52: the collected count is overwritten by the present one, and then it plus 1 has to
-- be no less than that
unfoldable pub wait_as_printed : Build
wait_as_printed = with_phase waiting (λ S m t.
    let c : ℕ = count m (u m t) in
    cond (leb c (c + 1)) (done 1 (collected≔ t (u m t) c ∷ onward t (u m t) S.threads scanning)) (done 0 (collected≔ t (u m t) c ∷ [])))

-- the scan reads the published row of every thread, the reclaimer's own too
unfoldable pub own_published_row : Build
own_published_row = with_phase scanning (λ S m t. done 1 (scanned≔ t (u m t) (published m (u m t)) ∷ onward t (u m t) (all_slots S) freeing))

-- the wait is for every thread, the reclaimer too
unfoldable pub waits_for_itself : Build
waits_for_itself = with_phase waiting (λ S m t.
    cond (not (eqb (count m (u m t)) (collected m t (u m t)))) (done 1 (onward t (u m t) S.threads scanning)) (done 0 []))

-- the image after steps of a machine
unfoldable pub run_by : Build → List ℕ → List Step → List ℕ
run_by f I [] = I
run_by f I (s ∷ ss) = run_by f (f I s).image ss

-- what is seen after a schedule: of a slot its mark and its record; the status of a record; number and value of an allocate
-- that comes next, and of a use of the slot that comes then
pub record Seen : Type 0 where
  pub mark : ℕ
  pub names : ℕ
  pub status_is : ℕ
  pub allocate_number : ℕ
  pub allocate_value : ℕ
  pub use_number : ℕ
  pub use_value : ℕ

-- after schedule ss, run by f: slot s of thread t, record p, an allocate by thread a
unfoldable pub seen_after : Build → Settings → List Step → (t s p a : ℕ) → Seen
seen_after f S ss t s p a =
    let I : List ℕ = run_by f (fresh S) ss in
    let o : Outcome = f I (step_of a #allocate 0 0 0) in
    let r : Outcome = f o.image (step_of t #use s 0 0) in
    record {
      mark = held (view S I) (slot S t s);
      names = private (view S I) (slot S t s);
      status_is = status (view S I) p;
      allocate_number = o.number;
      allocate_value = o.value;
      use_number = r.number;
      use_value = r.value;
    }

-- the slot holds p, and p is free: it is handed out again, and a use of the slot still gives it. By our rules it isn't free
pub record Lost (f : Build) (S : Settings) (ss : List Step) (t s p a : ℕ) : Type 0 where
  pub lost : seen_after f S ss t s p a ≡ record {
    mark = 1;
    names = p;
    status_is = 0;
    allocate_number = 0;
    allocate_value = p;
    use_number = 0;
    use_value = p;
  }
  pub ours : status (view S (reached S ss)) p ≢ 0

-- the parts of the schedules. Thread t allocates record 1 and stores it in cell 0
abbrev stores : ℕ → List Step
stores t = step_of t #allocate 0 0 0 ∷ step_of t #swap 0 0 1 ∷ []

-- loads slot 0 from cell 0, reserves and checks
abbrev confirms : ℕ → List Step
confirms t = step_of t #load 0 0 0 ∷ step_of t #reserve 0 0 0 ∷ step_of t #check 0 0 0 ∷ []

-- takes record 1 out of cell 0
abbrev empties : ℕ → List Step
empties t = step_of t #swap 0 1 0 ∷ []

-- retires record p
abbrev retires : (t p : ℕ) → List Step
retires t p = step_of t #retire p 0 0 ∷ []

-- advances n times
abbrev advances : (t n : ℕ) → List Step
advances t n = replicate n (step_of t #advance 0 0 0)

-- takes its ping and copies its one slot; adds one to its count
abbrev copies : ℕ → List Step
copies t = step_of t #deliver 0 0 0 ∷ step_of t #handle 0 0 0 ∷ []

abbrev counts : ℕ → List Step
counts t = step_of t #handle 0 0 0 ∷ []

-- The wait as printed: thread 1 holds the record, and thread 0 frees it though nobody has published. 16 steps. None is
-- shorter: seven steps lead up to a reclaim, which takes nine advances with two threads; one thread alone loses nothing. A
-- search over all schedules of these settings, by breadth, finds none of fewer steps
abbrev two : Settings
two = settings_of 2 1 1 1 1 0

abbrev nobody_published : List Step
nobody_published = stores 0 ++ confirms 1 ++ empties 0 ++ retires 0 1 ++ advances 0 9

-- One's own published row: thread 0 holds the record itself, and nobody pings it. 12 steps
abbrev one : Settings
one = settings_of 1 1 1 1 1 0

abbrev own_row_old : List Step
own_row_old = stores 0 ++ confirms 0 ++ empties 0 ++ retires 0 1 ++ advances 0 5

-- A slot that changes while the handler runs, as refusal 5 is left out: thread 1, in a reclaim of record 2, pings thread 0;
-- thread 0 copies its empty slot, and only then confirms record 1. Thread 2 retires that, collects, and takes the count of
-- this handler for one that began later. 32 steps
abbrev three : Settings
three = settings_of 3 1 1 2 1 0

abbrev copied_before : List Step
copied_before =
    stores 2 ++ (step_of 1 #allocate 0 0 0 ∷ retires 1 2) ++ advances 1 4 ++ copies 0 ++ confirms 0 ++ empties 0 ++ retires 2 1
    ++ advances 2 6 ++ counts 0 ++ copies 1 ++ counts 1 ++ advances 2 7

-- A record retired though a cell names it, as refusal 9 is left out: it is freed, and then confirmed. 11 steps
abbrev cell_names : List Step
cell_names = stores 0 ++ retires 0 1 ++ advances 0 5 ++ confirms 0

-- Waiting for oneself: thread 0 alone retires record 1, collects and pings, and now waits for its own count
unfoldable pub stuck : List ℕ
stuck = run_by waits_for_itself (fresh one) (step_of 0 #allocate 0 0 0 ∷ retires 0 1 ++ advances 0 2)

-- what stands in that image, and what is answered there: an advance gives 0, every other operation is refused 6
pub record Stuck (m : State) : Type 0 where
  pub whole : damaged stuck ≡ false
  pub settings_are : settings stuck ≡ one
  pub phase_is : phase m 0 ≡ waiting
  pub item_is : u m 0 ≡ 0
  pub count_is : count m 0 ≡ collected m 0 0
  pub no_ping : pending m 0 ≡ 0
  pub no_handler : handler m 0 ≡ 0
  pub advance_gives : answers (waits_for_itself stuck (step_of 0 #advance 0 0 0)) 0 0
  pub others_refused : all operations (λ op. eqb op #advance || eqb (waits_for_itself stuck (step_of 0 op (bit (eqb op #retire)) 0 0)).number 6) ≡ true

pub record CounterSchedules : Type 0 where
  pub printed : Lost wait_as_printed two nobody_published 1 0 1 0
  pub own_row : Lost own_published_row one own_row_old 0 0 1 0
  pub slot_changes : Lost (without_number 5) three copied_before 0 0 1 2
  pub named_record : Lost (without_number 9) one cell_names 0 0 1 0
  pub waiting_on : Stuck (view one stuck)

pub counter_schedules : CounterSchedules
unfolding all some legal room settings settings_words sizes size start within address is_word view laid records_right statuses_right marks_right in_use entries_right phase_line thread_right right undamaged fresh_section fresh_up_to fresh allowed allows lowest_free named allocate swap load reserve to_idle check use_slot clear retire deliver handle onward collect ping wait seen scan freed_on noted free advance operands fits operands_fit phase_forbids not_live refusals refusal perform answer step run machine with_phase first_but without_number wait_as_printed own_published_row waits_for_itself run_by seen_after stuck
counter_schedules = record {
  printed = record { lost = refl; ours = omega arith };
  own_row = record { lost = refl; ours = omega arith };
  slot_changes = record { lost = refl; ours = omega arith };
  named_record = record { lost = refl; ours = omega arith };
  waiting_on = record {
    whole = refl;
    settings_are = refl;
    phase_is = refl;
    item_is = refl;
    count_is = refl;
    no_ping = refl;
    no_handler = refl;
    advance_gives = (refl, refl);
    others_refused = refl;
  };
}

-- there only an advance of thread 0 is accepted
only_advance : {m : State} → Stuck m → (t a b c op : ℕ) → op < operations → Accepted one m (step_of t op a b c) → (t ≡ 0) × (op ≡ #advance)
only_advance {m} g t a b c op h k =
    let e : t ≡ 0 = omega (arith, k.thread) in (
      e,
      case_of {P = λ op. Accepted one m (step_of 0 op a b c) → op ≡ #advance}
          ((λ k. absurd (omega (arith, k.rests refl, g.phase_is)))
          ▸ (λ k. absurd (omega (arith, k.rests refl, g.phase_is)))
          ▸ (λ k. absurd (omega (arith, k.rests refl, g.phase_is)))
          ▸ (λ k. absurd (omega (arith, k.reserves refl, g.phase_is)))
          ▸ (λ k. absurd (omega (arith, k.checks refl, g.phase_is)))
          ▸ (λ k. absurd (omega (arith, k.rests refl, g.phase_is)))
          ▸ (λ k. absurd (omega (arith, k.rests refl, g.phase_is)))
          ▸ (λ k. absurd (omega (arith, k.rests refl, g.phase_is)))
          ▸ (λ k. refl)
          ▸ (λ k. absurd (k.pinged refl g.no_ping))
          ▸ (λ k. absurd (k.handling refl g.no_handler))
          ▸ end) op (omega arith) h (rw e at k),
    )

-- so no step of any content changes a word, and no schedule ends the reclaim
stuck_step : (s : Step) → (waits_for_itself stuck s).image ≡ stuck
unfolding waits_for_itself with_phase machine
stuck_step s =
    let g : Stuck (view one stuck) = counter_schedules.waiting_on in
    rw (g.whole, g.settings_are) (elim (sep (refusal one (view one stuck) s) 0) [
      | diff n q ↦ rw q
      | same e q ↦
          let k : Accepted one (view one stuck) s = accepted_says one (view one stuck) s e in
          let (t, o) = only_advance g s.thread s.a s.b s.c s.op k.known k in
          rw (q, o, t, g.phase_is, g.item_is, g.count_is, eqb_self (collected (view one stuck) 0 0))
    ])

pub stuck_for_good : (ss : List Step) → run_by waits_for_itself stuck ss ≡ stuck
unfolding run_by
stuck_for_good [] = refl
stuck_for_good (s ∷ ss) = rw (stuck_step s) (stuck_for_good ss)
