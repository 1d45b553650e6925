-- Histories: every image that steps reach from a fresh set-up is undamaged and has the invariant; and what a step of a
-- history, accepted or refused, changes.
use mathlib.Core.Path.{◌≡◌, refl, sym, ◌∙◌}
use mathlib.Core.Logic.{◌≢◌}
use mathlib.Core.Bool.{true, false}
use mathlib.Core.List.{List, [], ◌∷◌}
use Prim.Native.Nat.{ℕ, zero, suc, ◌<◌}
use native.Mathlib.Nat.{le_of_suc-le-suc, not-suc-le-zero}
use native.Mathlib.Omega.{arith}
use lib.ListN.{length, get_or, take}
use borrow.Author.Tests.{ne_eqb, not-false}
use Rattle.rules.specs.declared.Settings.{Settings}
use Rattle.rules.specs.Settings.{legal, settings}
use Rattle.rules.specs.State.{State, w}
use Rattle.rules.specs.Image.{view, words, Outcome}
use Rattle.rules.specs.Damaged.{undamaged}
use Rattle.rules.specs.SetUp.{fresh}
use Rattle.rules.specs.declared.Step.{Step}
use Rattle.rules.specs.Replies.{refusal}
use Rattle.rules.specs.Step.{perform, step, marks_empty}
use Rattle.rules.specs.Schedules.{outcomes, run}
use Rattle.rules.specs.Demand3.{step_at, image_at, state_at, reply_at, moving}
use Rattle.rules.proofs.Laws.{holds, fails, either, same, diff, sep, tests}
use Rattle.rules.proofs.Limits.{Limits, legal_says}
use Rattle.rules.proofs.Writes.{stored_all, kept_settings}
use Rattle.rules.proofs.Fresh.{fresh_settings, fresh_undamaged}
use Rattle.rules.proofs.Sound.{Sound, undamaged_says}
use Rattle.rules.proofs.Refused.{Accepted, accepted_says, accepted_is, refused_is}
use Rattle.rules.proofs.Words.{writes_valid}
use Rattle.rules.proofs.Kept.{step_keeps}
use Rattle.rules.proofs.Moves.{performs, move_done}
use Rattle.rules.proofs.Changes.{next}
use Rattle.rules.proofs.Turns.{Turn, still, turn}
use Rattle.rules.proofs.Invariant.{Invariant, fresh_invariant}
use Rattle.rules.proofs.InvariantKept.{Going, invariant_kept}

-- an image that keeps its settings, is undamaged and has the invariant
pub record Reached (S : Settings) (I : List ℕ) : Type 0 where
  pub same_settings : settings I ≡ S
  pub whole : undamaged I ≡ true
  pub limits : Limits S
  pub long : words S ≡ length I
  pub sound : Sound S (view S I)
  pub invariant : Invariant S (view S I)

-- what a step did: refused, or accepted with what the operation answers
pub data Went (S : Settings) (m : State) (s : Step) (o : Outcome) (m' : State) : Type 0 where
  refused_step : o.number ≢ 0 → m' ≡ m → Went S m s o m'
  accepted_step : o.number ≡ 0 → o.value ≡ (perform S m s).value → m' ≡ next m (perform S m s) → Accepted S m s → Went S m s o m'

-- the settings of an undamaged image are legal, and its words sound
reached : {S : Settings} (I : List ℕ) → settings I ≡ S → undamaged I ≡ true → Invariant S (view S I) → Reached S I
reached I e w inv =
    let q = undamaged_says I w in
    record { same_settings = e; whole = w; limits = rw e at q.0.limits; long = rw e at q.0.long; sound = rw e at q.1; invariant = inv }

module _ {S : Settings} {I : List ℕ} (g : Reached S I) (s : Step) where
  abbrev m : State
  m = view S I

  -- no check marks an empty slot
  pub never_marks_empty : marks_empty S m s ≡ false
  unfolding marks_empty
  never_marks_empty = elim (either (marks_empty S m s)) [
    | fails e ↦ e
    | holds e ↦
        let ((((z, o), _), n), p) = simp tests at e in
        let k : Accepted S m s = accepted_says S m s z in
        absurd (n (sym (g.invariant.reserving s.thread k.thread (k.checks o)) ∙ p))
  ]

  pub went : Went S m s (step I s) (view S (step I s).image)
  unfolding step
  went = rw (g.whole, g.same_settings) (elim (sep (refusal S m s) 0) [
    | diff n q ↦ rw (refused_is S m s n) (refused_step n refl)
    | same e q ↦
        let k : Accepted S m s = accepted_says S m s e in
        rw (accepted_is S m s e) (accepted_step (move_done (performs s g.sound k)) refl
        (stored_all S (perform S m s).writes I (writes_valid S m s g.sound e) (omega (arith, g.long))) k)
  ])

  -- the number is what the table of refusals gives
  pub reply_number : (step I s).number ≡ refusal S m s
  unfolding step
  reply_number = rw (g.whole, g.same_settings) (elim (sep (refusal S m s) 0) [
    | diff n q ↦ rw (refused_is S m s n)
    | same e q ↦ rw (accepted_is S m s e) (move_done (performs s g.sound (accepted_says S m s e)) ∙ sym e)
  ])

  pub going : Accepted S m s → Going S m s (perform S m s)
  going k = record { move = performs s g.sound k; limits = g.limits; sound = g.sound; by = k.thread; invariant = g.invariant }

  next_invariant : Invariant S (view S (step I s).image)
  next_invariant = elim went [
    | refused_step _ e ↦ rw e g.invariant
    | accepted_step _ _ e k ↦ rw e (invariant_kept (going k))
  ]

  next_settings : settings (step I s).image ≡ S
  unfolding step
  next_settings = rw (g.whole, g.same_settings) (elim (sep (refusal S m s) 0) [
    | diff n q ↦ rw (refused_is S m s n) g.same_settings
    | same e q ↦ rw (accepted_is S m s e) (kept_settings S (perform S m s).writes I (writes_valid S m s g.sound e) ∙ g.same_settings)
  ])

  pub reached_next : Reached S (step I s).image
  reached_next =
      reached (step I s).image next_settings
      (not-false _ (step_keeps I s g.whole ∙ rw g.same_settings never_marks_empty)) next_invariant

-- the set-up, and every run of steps from it
pub reached_fresh : (S : Settings) → legal S ≡ true → Reached S (fresh S)
reached_fresh S l = reached (fresh S) (fresh_settings S) (not-false _ (fresh_undamaged S l)) (fresh_invariant (legal_says S l))

pub reached_run : {S : Settings} (ss : List Step) {I : List ℕ} → Reached S I → Reached S (run I ss)
unfolding run
reached_run [] g = g
reached_run (s ∷ ss) g = reached_run ss (reached_next g s)

-- one step more
run_next : (ss : List Step) (i : ℕ) (I : List ℕ) → i < length ss → run I (take (suc i) ss) ≡ (step (run I (take i ss)) (step_at ss i)).image
unfolding run step_at
run_next [] i I h = absurd (not-suc-le-zero h)
run_next (s ∷ ss) zero I h = refl
run_next (s ∷ ss) (suc i) I h = run_next ss i (step I s).image (le_of_suc-le-suc h)

-- the replies are the outcomes of the run
outcome_next : (ss : List Step) (i : ℕ) (I : List ℕ) (o : Outcome) → i < length ss → get_or (outcomes I ss) i o ≡ step (run I (take i ss)) (step_at ss i)
unfolding outcomes run step_at
outcome_next [] i I o h = absurd (not-suc-le-zero h)
outcome_next (s ∷ ss) zero I o h = refl
outcome_next (s ∷ ss) (suc i) I o h = outcome_next ss i (step I s).image o (le_of_suc-le-suc h)

pub reply_is : (S : Settings) (ss : List Step) (i : ℕ) (o : Outcome) → i < length ss → get_or (outcomes (fresh S) ss) i o ≡ reply_at S ss i
unfolding image_at
reply_is S ss i o h = outcome_next ss i (fresh S) o h

module _ (S : Settings) (legal_S : legal S ≡ true) (ss : List Step) where
  pub reached_at : (i : ℕ) → Reached S (image_at S ss i)
  unfolding image_at
  reached_at i = reached_run (take i ss) (reached_fresh S legal_S)

  pub image_next : (i : ℕ) → i < length ss → image_at S ss (suc i) ≡ (reply_at S ss i).image
  unfolding image_at
  image_next i h = run_next ss i (fresh S) h

  pub went_at : (i : ℕ) → i < length ss → Went S (state_at S ss i) (step_at ss i) (reply_at S ss i) (state_at S ss (suc i))
  went_at i h = rw (image_next i h) (went (reached_at i) (step_at ss i))

  -- an accepted step is by one of the threads
  pub accepted_at : (i : ℕ) → i < length ss → (reply_at S ss i).number ≡ 0 → Accepted S (state_at S ss i) (step_at ss i)
  accepted_at i h z = elim (went_at i h) [ refused_step n _ ↦ absurd (n z) | accepted_step _ _ _ k ↦ k ]

  -- what a step does to the reclaim of thread a
  pub turn_at : (i : ℕ) → i < length ss → (a : ℕ)
      → Turn S (step_at ss i) (reply_at S ss i).value (state_at S ss i) (state_at S ss (suc i)) a (moving S ss a i)
  unfolding moving
  turn_at i h a = elim (went_at i h) [
    | refused_step n e ↦ rw (e, ne_eqb (reply_at S ss i).number 0 n) (still (omega arith))
    | accepted_step z x e k ↦ rw (e, z, x) (turn (performs (step_at ss i) (reached_at i).sound k) a)
  ]
