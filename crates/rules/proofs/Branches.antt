-- What each branch of a rule says, so that code and theorems need not open the rule.
use mathlib.Core.Path.{◌≡◌, refl}
use mathlib.Core.Logic.{◌≢◌}
use mathlib.Core.Bool.{Bool, true, false, not, ◌||◌}
use mathlib.Core.List.{List, [], ◌∷◌}
use Prim.Native.Nat.{ℕ, ◌+◌, ◌-◌, ◌%◌, ◌≤◌, ◌<◌}
use lib.Dec.{eqb, leb}
use borrow.Author.Tests.{eq-eqb, ne_eqb, le-leb, lt-leb}
use Rattle.rules.specs.declared.Settings.{Settings}
use Rattle.rules.specs.Settings.{modulus, slot}
use Rattle.rules.specs.Phases.{idle, collecting, pinging, waiting, scanning, freeing}
use Rattle.rules.specs.State.{State, private, count, phase, u, v, handler, collected, list_length, entry, status≔, published≔, count≔, phase≔, u≔, v≔, handler≔, list_length≔, entry≔, Answer, done}
use Rattle.rules.specs.Image.{write_all, Outcome, after}
use Rattle.rules.specs.Operations.{handle}
use Rattle.rules.specs.Advance.{onward, collect, ping, wait, scan, freed_on, noted, free, advance}

-- an outcome that is right for what a rule says is right for the rule
pub says : (S : Settings) (I : List ℕ) {a b : Answer} {o : Outcome} → a ≡ b → o ≡ after S I b → o ≡ after S I a
says S I e h = rw e h

-- the words written after an item, and after an entry
module _ (S : Settings) (I : List ℕ) (t i n : ℕ) where
  pub onward_last : (p : ℕ) → i + 1 ≡ n → write_all S I (onward t i n p) ≡ write_all S I (u≔ t 0 ∷ phase≔ t p ∷ [])
  unfolding onward
  onward_last p e = rw (eq-eqb (i + 1) n e)

  pub onward_next : (p : ℕ) → i + 1 ≢ n → write_all S I (onward t i n p) ≡ write_all S I (u≔ t (i + 1) ∷ [])
  unfolding onward
  onward_next p e = rw (ne_eqb (i + 1) n e)

  pub freed_last : (k : ℕ) → i + 1 ≡ n → write_all S I (freed_on t i n k) ≡ write_all S I (u≔ t 0 ∷ v≔ t 0 ∷ phase≔ t idle ∷ list_length≔ t k ∷ [])
  unfolding freed_on
  freed_last k e = rw (eq-eqb (i + 1) n e)

  pub freed_next : (k : ℕ) → i + 1 ≢ n → write_all S I (freed_on t i n k) ≡ write_all S I (u≔ t (i + 1) ∷ v≔ t k ∷ [])
  unfolding freed_on
  freed_next k e = rw (ne_eqb (i + 1) n e)

module _ (S : Settings) (m : State) (t : ℕ) where
  pub handle_copy : handler m t ≤ S.slots → handle S m t
      ≡ done 1 (published≔ (slot S t (handler m t - 1)) (private m (slot S t (handler m t - 1))) ∷ handler≔ t (handler m t + 1) ∷ [])
  unfolding handle
  handle_copy h = rw (le-leb (handler m t) S.slots h)

  pub handle_count : S.slots < handler m t → handle S m t ≡ done 2 (count≔ t ((count m t + 1) % modulus) ∷ handler≔ t 0 ∷ [])
  unfolding handle
  handle_count h = rw (lt-leb (handler m t) S.slots h)

  -- reclaimer t need not wait for its item
  abbrev pub passes : Bool
  passes = eqb (u m t) t || not (eqb (count m (u m t)) (collected m t (u m t)))

  pub wait_passes : passes ≡ true → wait S m t ≡ done 1 (onward t (u m t) S.threads scanning)
  unfolding wait
  wait_passes e = rw e

  pub wait_waits : passes ≡ false → wait S m t ≡ done 0 []
  unfolding wait
  wait_waits e = rw e

  pub free_kept : noted S m t (entry m t (u m t)) ≡ true → free S m t
      ≡ done 2 (entry≔ t (u m t) 0 ∷ entry≔ t (v m t) (entry m t (u m t)) ∷ freed_on t (u m t) (list_length m t) (v m t + 1))
  unfolding free
  free_kept e = rw e

  pub free_freed : noted S m t (entry m t (u m t)) ≡ false → free S m t
      ≡ done 3 (entry≔ t (u m t) 0 ∷ status≔ (entry m t (u m t)) 0 ∷ freed_on t (u m t) (list_length m t) (v m t))
  unfolding free
  free_freed e = rw e

  -- advance, by phase
  pub advance_collect : phase m t ≡ collecting → advance S m t ≡ collect S m t
  unfolding advance
  advance_collect e = rw e

  pub advance_ping : phase m t ≡ pinging → advance S m t ≡ ping S m t
  unfolding advance
  advance_ping e = rw e

  pub advance_wait : phase m t ≡ waiting → advance S m t ≡ wait S m t
  unfolding advance
  advance_wait e = rw e

  pub advance_scan : phase m t ≡ scanning → advance S m t ≡ scan S m t
  unfolding advance
  advance_scan e = rw e

  pub advance_free : phase m t ≡ freeing → advance S m t ≡ free S m t
  unfolding advance
  advance_free e = rw e
