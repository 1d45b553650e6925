-- A thread's words as the damage check reads them: its entries are tested last, and only where the others are right.
use Rattle.std.proofs.Common.{◌≡◌, ℕ, ◌+◌, ◌<◌, ◌≤◌, Bool, true, false, not, ◌&&◌, ◌||◌, eqb, leb, ltb, refl, sym, ap, ◌∙◌, arith}
use Rattle.rules.proofs.Laws.{four}
use Rattle.rules.specs.Damaged.{entries_right, in_use, phase_line, thread_right}
use Rattle.rules.specs.Phases.{phases}
use Rattle.rules.specs.Settings.{room}
use Rattle.rules.specs.Tests.{all}
use Rattle.rules.specs.Replies.{phase_number}
use Rattle.rules.specs.declared.Settings.{Settings}
use Rattle.rules.specs.declared.Phase.{Phase}
use Rattle.rules.specs.declared.Phase.TheVariants.{Idle, Loaded, Reserved, Collecting, Pinging, Waiting, Scanning, Freeing}
use Rattle.rules.specs.State.{State, u, v, w, phase, pending, handler, list_length, entry}
use mathlib.Core.Bool.{and-true, and-false}
use borrow.Author.Tests.{ltb-true, leb-true, le-ltb}

-- a phase's number is one of the eight, and only one phase's is 7
pub known : (p : Phase) → ltb (phase_number p) phases ≡ true
known p = elim p as (λ p. ltb (phase_number p) phases ≡ true) [ Idle ↦ refl | Loaded ↦ refl | Reserved ↦ refl | Collecting ↦ refl | Pinging ↦ refl | Waiting ↦ refl | Scanning ↦ refl | Freeing ↦ refl ]

pub not_freeing : (p : Phase) → (p ≡ Freeing → ⊥) → phase_number p ≡ 7 → ⊥
not_freeing Idle n e = omega (arith, e)
not_freeing Loaded n e = omega (arith, e)
not_freeing Reserved n e = omega (arith, e)
not_freeing Collecting n e = omega (arith, e)
not_freeing Pinging n e = omega (arith, e)
not_freeing Waiting n e = omega (arith, e)
not_freeing Scanning n e = omega (arith, e)
not_freeing Freeing n e = n refl

freed : (S : Settings) (n p u v w : ℕ) → phase_line S n p u v w ≡ true → p ≡ 7 → (u < n) × (v ≤ u)
unfolding phase_line
freed S n p u v w h e =
    let q = four (leb 1 n) (ltb u n) (leb v u) (eqb w 0) (rw e at h) in
    (ltb-true _ _ q.1, leb-true _ _ q.2)

passed : (a b c d e f : Bool) → e ≡ true → (a && b && c && f) ≡ true → (a && b && c && d && e && f) ≡ d
passed a b c d e f g h =
    let q = four a b c f h in
    rw (q.0, q.1, q.2, q.3, g) (ap (λ (x : Bool). x && true) (and-true d) ∙ and-true d)

failed : (a b c d e f : Bool) → (a && b && c && f) ≡ false → (a && b && c && d && e && f) ≡ false
failed false b c d e f h = refl
failed true false c d e f h = refl
failed true true false d e f h = refl
failed true true true d e f h = rw h (and-false (d && e))

-- no phase's number stands in the thread's word
pub no_phase : (S : Settings) (m : State) (t : ℕ) → phases ≤ phase m t → false ≡ thread_right S m t
unfolding thread_right
no_phase S m t h = rw (le-ltb (phase m t) phases h) (sym (lost (leb (pending m t) 1 && leb (handler m t) (S.slots + 1) && leb (list_length m t) (room S) && entries_right S m t) _))
  where
    lost : (a b : Bool) → (a && false && b) ≡ false
    lost a b = rw (and-false a)

module _ (S : Settings) (m : State) (t : ℕ) (p : Phase) {n u' v' w' a h r : ℕ} {g : Bool} (en : n ≡ list_length m t) (ep : phase_number p ≡ phase m t)
    (eu : u' ≡ u m t) (ev : v' ≡ v m t) (ew : w' ≡ w m t) (ea : a ≡ pending m t) (eh : h ≡ handler m t) (er : r ≡ room S)
    (eg : g ≡ phase_line S n (phase_number p) u' v' w') where
  as_told : thread_right S m t
      ≡ (leb a 1 && leb h (S.slots + 1) && leb n r && all (room S) (λ i. not (in_use n (phase_number p) u' v' i) || not (eqb (entry m t i) 0))
      && ltb (phase_number p) phases && g)
  unfolding thread_right entries_right
  as_told = rw (eg, en, ep, eu, ev, ew, ea, eh, er)

  module _ (q : (leb a 1 && leb h (S.slots + 1) && leb n r && g) ≡ true) where
    -- what the entries' test asks
    pub asks : (n ≤ r) × (phase_number p ≡ 7 → (u' < n) × (v' ≤ u'))
    asks =
        let z = four (leb a 1) (leb h (S.slots + 1)) (leb n r) g q in
        (leb-true _ _ z.2, λ s. freed S n (phase_number p) u' v' w' (sym eg ∙ z.3) s)

    pub passing : thread_right S m t ≡ all (room S) (λ i. not (in_use n (phase_number p) u' v' i) || not (eqb (entry m t i) 0))
    passing = as_told ∙ passed (leb a 1) (leb h (S.slots + 1)) (leb n r) _ (ltb (phase_number p) phases) g (known p) q

  pub failing : (leb a 1 && leb h (S.slots + 1) && leb n r && g) ≡ false → thread_right S m t ≡ false
  failing q = as_told ∙ failed (leb a 1) (leb h (S.slots + 1)) (leb n r) _ (ltb (phase_number p) phases) g q
