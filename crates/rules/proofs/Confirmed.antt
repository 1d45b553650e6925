-- For demand 3, number 1: the slot of a confirmed record holds it until it is written, and a use gives it.
use mathlib.Core.Path.{◌≡◌, refl, sym, ap, ◌∙◌}
use mathlib.Core.Logic.{◌≢◌, inl, inr, ⊎_elim}
use mathlib.Core.Bool.{true}
use mathlib.Core.List.{List}
use Prim.Native.Nat.{ℕ, zero, suc, ◌*◌, ◌≤◌, ◌<◌}
use native.Mathlib.Nat.{eq-or-lt_of_le, le_of_suc-le-suc, not-suc-le-zero}
use native.Mathlib.Omega.{arith}
use lib.ListN.{length}
use lib.Dec.{eqb}
use borrow.Author.Tests.{ne_eqb, lt-leb}
use Rattle.rules.specs.declared.Settings.{Settings}
use Rattle.rules.specs.Settings.{legal, slot}
use Rattle.rules.specs.Phases.{reserved, #check, #use}
use Rattle.rules.specs.State.{State, cell, status, private, held, phase, u, v, w, handler}
use Rattle.rules.specs.Operations.{to_idle, check, use_slot}
use Rattle.rules.specs.declared.Step.{Step}
use Rattle.rules.specs.Replies.{step_of, operands_fit, phase_forbids, not_live, refusals, refusal}
use Rattle.rules.specs.Step.{perform}
use Rattle.rules.specs.Demand3.{step_at, image_at, state_at, reply_at, Confirms, Overwrites, UseGives}
use Rattle.rules.proofs.Laws.{holds, fails, either, same, diff, sep}
use Rattle.rules.proofs.Sound.{Sound}
use Rattle.rules.proofs.Refused.{Accepted}
use Rattle.rules.proofs.Slots.{row_same, row_of}
use Rattle.rules.proofs.Moves.{performs}
use Rattle.rules.proofs.Changes.{next, eqb_self, Written, slot_same, written, marked, slot_turn}
use Rattle.rules.proofs.Invariant.{Invariant}
use Rattle.rules.proofs.Histories.{Reached, refused_step, accepted_step, went, reply_number, reached_at, went_at}

-- slot x holds record p by its mark
pub record Holding (m : State) (x p : ℕ) : Type 0 where
  pub is_marked : held m x ≡ 1
  pub names : private m x ≡ p

-- an accepted check of value 1 on a record: its slot holds it
confirming : {S : Settings} {m : State} (s : Step) → Sound S m → Invariant S m → Accepted S m s → s.op ≡ #check → (perform S m s).value ≡ 1
    → w m s.thread ≢ 0 → (u m s.thread < S.slots) × Holding (next m (perform S m s)) (slot S s.thread (u m s.thread)) (w m s.thread)
unfolding perform check to_idle
confirming {S} {m} s so inv k o x n =
    let at : phase m s.thread ≡ reserved = k.checks o in
    let y : private m (slot S s.thread (u m s.thread)) ≡ w m s.thread = inv.reserving s.thread k.thread at in
    elim (sep (cell m (v m s.thread)) (w m s.thread)) [
      | same e q ↦ (
        ((so.threads s.thread k.thread).line.slot (omega arith) (omega arith)).0,
        rw o (record { is_marked = rw (eqb_self (slot S s.thread (u m s.thread)), q, ne_eqb (w m s.thread) 0 n); names = y }),
      )
      | diff e q ↦ absurd (omega (arith, rw (o, q) at x))
    ]

-- an accepted step that doesn't write the slot leaves it holding
holding_on : {S : Settings} {m : State} {s : Step} → Sound S m → (k : Accepted S m s) → (x p : ℕ)
    → ((i : ℕ) → ¬ (Written S m (next m (perform S m s)) s x i)) → Holding m x p → Holding (next m (perform S m s)) x p
holding_on {s = s} so k x p n h = elim (slot_turn (performs s so k) x) [
  | slot_same e f ↦ record { is_marked = f ∙ h.is_marked; names = e ∙ h.names }
  | marked f ↦ record { is_marked = f.now; names = f.same ∙ h.names }
  | written i f ↦ absurd (n i f)
]

-- a use of a marked slot is refused 4, 5 or 6, or accepted
use_refusal : (S : Settings) (m : State) (t s b c : ℕ) → t < S.threads → held m (slot S t s) ≡ 1
    → refusal S m (step_of t #use s b c) ≢ 4 → refusal S m (step_of t #use s b c) ≢ 5 → refusal S m (step_of t #use s b c) ≢ 6
    → refusal S m (step_of t #use s b c) ≡ 0
unfolding refusal refusals not_live
use_refusal S m t s b c l h = rw (lt-leb S.threads t l, h) (elim (either (operands_fit S (step_of t #use s b c))) [
  | fails e ↦ rw e (λ n. absurd (n refl))
  | holds e ↦ rw e (λ _. elim (either (eqb (handler m t) 0)) [
    | fails f ↦ rw f (λ n. absurd (n refl))
    | holds f ↦ rw f (λ _. elim (either (phase_forbids S m (step_of t #use s b c)))
        [ holds g ↦ rw g (λ n. absurd (n refl)) | fails g ↦ rw g (λ _. refl) ])
  ])
])

-- and gives the record
use_value : (S : Settings) (m : State) (t s b c : ℕ) → (perform S m (step_of t #use s b c)).value ≡ private m (slot S t s)
unfolding perform use_slot
use_value S m t s b c = refl

same_holding : {m m' : State} {x x' p p' : ℕ} → m' ≡ m → x ≡ x' → p ≡ p' → Holding m x p → Holding m' x' p'
same_holding e f g h = rw (e, ← f, ← g) h

module _ (S : Settings) (lg : legal S ≡ true) (ss : List Step) (i t s p : ℕ) (c : Confirms S ss i t s p) where
  abbrev m : ℕ → State
  m j = state_at S ss j

  good : (j : ℕ) → Reached S (image_at S ss j)
  good = reached_at S lg ss

  held_first : (t < S.threads) × (s < S.slots) × Holding (m (suc i)) (slot S t s) p
  held_first = elim (went_at S lg ss i c.check.there) [
    | refused_step n _ ↦ absurd (n c.check.accepted)
    | accepted_step z x e k ↦
        let b : (step_at ss i).thread ≡ t = c.check.by in
        let r : w (m i) (step_at ss i).thread ≡ p = rw b c.compared in
        let q = confirming (step_at ss i) (good i).sound (good i).invariant k c.check.operation (sym x ∙ c.equal) (λ y. c.some (sym r ∙ y)) in
        (rw b at k.thread, rw (b, c.slot) at q.0, same_holding e (rw (b, c.slot)) r q.1)
  ]

  -- a step that writes the slot is one that the statement excludes
  overwrites : (j k : ℕ) → j < length ss → (reply_at S ss j).number ≡ 0 → {m' : State}
      → Written S (m j) m' (step_at ss j) (slot S t s) k → Overwrites S ss j t s
  overwrites j k l z f =
      let e : (step_at ss j).thread ≡ t = sym (row_same (row_of t held_first.1) (rw f.place (row_of (step_at ss j).thread f.fits))) in
      let q : k ≡ s = omega (arith, f.place, ap (λ y. y * S.slots) e) in
      ⊎_elim
      (λ h. inl (record { there = l; accepted = z; by = e; operation = h.0 }, rw (← e) h.1 ∙ q))
      (λ h. inr (record { there = l; accepted = z; by = e; operation = h.0 }, h.1 ∙ q))
      f.how

  pub held_on : (j : ℕ) → i < j → j ≤ length ss → ((k : ℕ) → i < k → k < j → ¬ (Overwrites S ss k t s)) → Holding (m j) (slot S t s) p
  held_on zero l h n = absurd (not-suc-le-zero l)
  held_on (suc j) l h n = ⊎_elim
      (λ (e : i ≡ j). rw (← e) held_first.2)
      (λ b.
      let old : Holding (m j) (slot S t s) p = held_on j b (omega arith) (λ k d f. n k d (omega arith)) in
      elim (went_at S lg ss j h) [
        | refused_step _ e ↦ rw e old
        | accepted_step z _ e k ↦ rw e (holding_on (good j).sound k (slot S t s) p (λ a f. n j b (omega arith) (overwrites j a h z f)) old)
      ])
      (eq-or-lt_of_le (le_of_suc-le-suc l))

  module _ (j : ℕ) (h : Holding (m j) (slot S t s) p) where
    pub holding_status : status (m j) p ≢ 0
    holding_status = ((good j).invariant.holds t (slot S t s) p held_first.0 (row_of t held_first.1) h.is_marked h.names).1

    pub holding_use : UseGives S ss j t s p
    holding_use b d =
        rw (reply_number (good j) (step_of t #use s b d)) (λ n4 n5 n6.
        let z : refusal S (m j) (step_of t #use s b d) ≡ 0 = use_refusal S (m j) t s b d held_first.0 h.is_marked n4 n5 n6 in (
          z,
          elim (went (good j) (step_of t #use s b d)) [
            | refused_step n _ ↦ absurd (n (reply_number (good j) (step_of t #use s b d) ∙ z))
            | accepted_step _ x _ _ ↦ x ∙ use_value S (m j) t s b d ∙ h.names
          ],
        ))
