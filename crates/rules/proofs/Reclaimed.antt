-- For demand 3, numbers 2 and 3: each end of a reclaim has its beginning, the reclaim frees what no slot named, at most T×H
-- records stay, and it takes 3×T + T×H + length advances that move.
use mathlib.Core.Path.{◌≡◌, refl, ◌∙◌}
use mathlib.Core.Logic.{◌≢◌, ◌⊎◌, inl, inr, ⊎_elim}
use mathlib.Core.Bool.{Bool, true}
use mathlib.Core.List.{List}
use Prim.Native.Nat.{ℕ, zero, suc, ◌+◌, ◌≤◌, ◌<◌}
use native.Mathlib.Nat.{eq-or-lt_of_le, le_of_suc-le-suc, not-suc-le-zero}
use native.Mathlib.Omega.{arith}
use lib.ListN.{length}
use Rattle.rules.specs.declared.Settings.{Settings}
use Rattle.rules.specs.Tests.{bit}
use Rattle.rules.specs.Settings.{legal, all_slots}
use Rattle.rules.specs.Phases.{idle, collecting, #retire}
use Rattle.rules.specs.declared.Kind.TheVariants.{Phase}
use Rattle.rules.specs.State.{State, phase, u, list_length, entry}
use Rattle.rules.specs.declared.Step.{Step}
use Rattle.rules.specs.Schedules.{run}
use Rattle.rules.specs.Demand3.{step_at, image_at, state_at, Does, Ends, Reclaim, SlotNames, Frees, FreedBetween, moving, moves}
use Rattle.rules.proofs.Fresh.{fresh_zero}
use Rattle.rules.proofs.Refused.{Accepted}
use Rattle.rules.proofs.Rows.{thread_row}
use Rattle.rules.proofs.Turns.{By, Turn, still, outside, retiring, collecting_on, pinging_on, waiting_on, scanning_on, keeping, freeing_one}
use Rattle.rules.proofs.InvariantKept.{few_stay}
use Rattle.rules.proofs.Reclaims.{Due, FreesNow, due_first, due_step, gone_step, Spent, price, on, over, paid}
use Rattle.rules.proofs.Histories.{Reached, refused_step, accepted_step, going, reached_at, went_at, accepted_at, turn_at}

-- a thread that is in a reclaim after a step was in it before, or the step is its retire that begins it
begins_or : {S : Settings} {s : Step} {x : ℕ} {m m' : State} {a : ℕ} {d : Bool} → Turn S s x m m' a d → collecting ≤ phase m' a
    → (collecting ≤ phase m a) ⊎ (By s a #retire × (phase m' a ≡ collecting))
begins_or (still f) l = inl (omega (arith, f.same_phase))
begins_or (outside f) l = absurd (omega (arith, f.after))
begins_or (retiring p b f) l = inr (b, omega (arith, f.low))
begins_or (collecting_on f) l = inl (omega (arith, f.at))
begins_or (pinging_on f) l = inl (omega (arith, f.at))
begins_or (waiting_on f) l = inl (omega (arith, f.at))
begins_or (scanning_on f) l = inl (omega (arith, f.at))
begins_or (keeping p f _ _) l = inl (omega (arith, f.was_freeing))
begins_or (freeing_one p f _) l = inl (omega (arith, f.was_freeing))

-- one that begins starts at item 0
first_item : {S : Settings} {s : Step} {x : ℕ} {m m' : State} {a : ℕ} {d : Bool} → Turn S s x m m' a d
    → phase m a ≡ idle → phase m' a ≡ collecting → u m' a ≡ 0
first_item (still f) e l = absurd (omega (arith, f.same_phase))
first_item (outside f) e l = absurd (omega (arith, f.after))
first_item (retiring p b f) e l = f.first
first_item (collecting_on f) e l = absurd (omega (arith, f.at))
first_item (pinging_on f) e l = absurd (omega (arith, f.at))
first_item (waiting_on f) e l = absurd (omega (arith, f.at))
first_item (scanning_on f) e l = absurd (omega (arith, f.at))
first_item (keeping p f _ _) e l = absurd (omega (arith, f.was_freeing))
first_item (freeing_one p f _) e l = absurd (omega (arith, f.was_freeing))

module _ (S : Settings) (lg : legal S ≡ true) (ss : List Step) (a : ℕ) where
  abbrev m : ℕ → State
  m k = state_at S ss k

  good : (k : ℕ) → Reached S (image_at S ss k)
  good = reached_at S lg ss

  -- the beginning of the reclaim that thread a is in, in image k
  pub record Beginning (k : ℕ) : Type 0 where
    pub at : ℕ
    earlier : at < k
    retire : Does S ss at a #retire
    begins : phase (m (suc at)) a ≡ collecting
    within : (n : ℕ) → at < n → n ≤ k → collecting ≤ phase (m n) a

  idle_first : phase (m 0) a ≡ 0
  unfolding image_at run
  idle_first = fresh_zero S Phase a 0 refl

  before_at : (k : ℕ) → k < length ss → collecting ≤ phase (m (suc k)) a
      → (collecting ≤ phase (m k) a) ⊎ (Does S ss k a #retire × (phase (m (suc k)) a ≡ collecting))
  before_at k h l = elim (went_at S lg ss k h) [
    | refused_step _ e ↦ inl (rw e at l)
    | accepted_step z _ _ _ ↦ ⊎_elim inl (λ q. inr (record { there = h; accepted = z; by = q.0.0; operation = q.0.1 }, q.1))
        (begins_or (turn_at S lg ss k h a) l)
  ]

  beginning : (k : ℕ) → k ≤ length ss → collecting ≤ phase (m k) a → Beginning k
  beginning zero h l = absurd (omega (arith, idle_first))
  beginning (suc k) h l = go (before_at k h l) (beginning k (omega arith))
    where
      here : (n : ℕ) → n ≤ suc k → k < n → collecting ≤ phase (m n) a
      here n u b = let e : suc k ≡ n = omega arith in rw (← e) l

      go : (collecting ≤ phase (m k) a) ⊎ (Does S ss k a #retire × (phase (m (suc k)) a ≡ collecting))
          → (collecting ≤ phase (m k) a → Beginning k) → Beginning (suc k)
      go (inr d) _ = record { at = k; earlier = omega arith; retire = d.0; begins = d.1; within = λ n b u. here n u b }
      go (inl d) f =
          let r : Beginning k = f d in
          record {
            at = r.at;
            earlier = omega (arith, r.earlier);
            retire = r.retire;
            begins = r.begins;
            within = λ n b u. ⊎_elim (λ (e : n ≡ suc k). rw e l) (λ v. r.within n b (le_of_suc-le-suc v)) (eq-or-lt_of_le u);
          }

  -- a reclaim from step i to step j
  module _ (i j : ℕ) (c : Reclaim S ss a i j) where
    thread : a < S.threads
    thread = rw c.retire.by at (accepted_at S lg ss i c.retire.there c.retire.accepted).thread

    starts : u (m (suc i)) a ≡ 0
    starts =
        let k : Accepted S (m i) (step_at ss i) = accepted_at S lg ss i c.retire.there c.retire.accepted in
        first_item (turn_at S lg ss i c.retire.there a) (rw c.retire.by at (k.rests (rw c.retire.operation))) c.begins

    last_there : j < length ss
    last_there = c.ends.advance.there

    -- the advances that moved since the retire, in image k
    record Bill (k : ℕ) : Type 0 where
      many : ℕ
      counted : moves S ss a k ≡ moves S ss a (suc i) + many
      spent : Spent S (phase (m k) a) (u (m k) a) many
      same_list : list_length (m k) a ≡ list_length (m (suc i)) a

    bill : (k : ℕ) → i < k → k ≤ j → Bill k
    unfolding moves
    bill zero b l = absurd (not-suc-le-zero b)
    bill (suc k) b l = go (eq-or-lt_of_le (le_of_suc-le-suc b)) (λ v. bill k v (omega arith))
      where
        go : (i ≡ k) ⊎ (i < k) → (i < k → Bill k) → Bill (suc k)
        go (inl e) _ = rw (← e) (record {
          many = 0;
          counted = omega arith;
          same_list = refl;
          spent = omega (arith, c.begins, starts);
        })
        go (inr v) f =
            let r : Bill k = f v in
            elim (paid (turn_at S lg ss k (omega (arith, last_there)) a) (c.within k v (omega arith)).0 r.spent) [
              | on e g _ ↦ record {
                many = r.many + bit (moving S ss a k);
                counted = omega (arith, r.counted);
                spent = e;
                same_list = g ∙ r.same_list;
              }
              | over e _ ↦ absurd (omega (arith, c.within (suc k) b l))
            ]

    pub costs : moves S ss a (suc j) ≡ moves S ss a (suc i) + price S (list_length (m (suc i)) a)
    unfolding moves
    costs =
        let r : Bill j = bill j c.order (omega arith) in
        elim (paid (turn_at S lg ss j last_there a) (c.within j c.order (omega arith)).0 r.spent)
        [ on _ _ g ↦ absurd (omega (arith, c.ends.after)) | over _ e ↦ omega (arith, r.counted, r.same_list) ]

    -- a record of the list that no private slot names: due, or freed and gone
    module _ (p : ℕ) (un : (k : ℕ) → i < k → k ≤ j → ¬ (SlotNames S (m k) p)) where
      record Gone (k : ℕ) : Type 0 where
        at : ℕ
        later : i < at
        earlier : at < k
        frees : Frees S ss a p at
        gone : (n : ℕ) → entry (m k) a n ≢ p

      fate : p ≢ 0 → Due S (m (suc i)) a p → (k : ℕ) → i < k → k ≤ suc j → Due S (m k) a p ⊎ Gone k
      fate nz d zero b l = absurd (not-suc-le-zero b)
      fate nz d (suc k) b l = go (eq-or-lt_of_le (le_of_suc-le-suc b)) (λ v. fate nz d k v (omega arith))
        where
          go : (i ≡ k) ⊎ (i < k) → (i < k → Due S (m k) a p ⊎ Gone k) → Due S (m (suc k)) a p ⊎ Gone (suc k)
          go (inl e) _ = inl (rw (← e) d)
          go (inr v) f = elim (went_at S lg ss k (omega (arith, last_there))) [
            | refused_step _ e ↦ ⊎_elim (λ w. inl (rw e w))
                (λ q. inr (record {
                  at = q.at;
                  later = q.later;
                  earlier = omega (arith, q.earlier);
                  frees = q.frees;
                  gone = rw e q.gone;
                })) (f v)
            | accepted_step z x e h ↦
                let g = going (good k) (step_at ss k) h in
                ⊎_elim
                (λ w. ⊎_elim (λ w'. inl (rw e w'))
                (λ (q : FreesNow _ _ _ _ _ _). inr (record {
                  at = k;
                  later = v;
                  earlier = omega arith;
                  gone = rw e q.gone;
                  frees = record {
                    advance = record { there = omega (arith, last_there); accepted = z; by = q.by.0; operation = q.by.1 };
                    value = x ∙ q.value;
                    before = q.before;
                    after = rw e q.after;
                  };
                }))
                (due_step g a p nz (λ y o e. un k v (omega arith) (y, o, e)) w))
                (λ q. inr (record {
                  at = q.at;
                  later = q.later;
                  earlier = omega (arith, q.earlier);
                  frees = q.frees;
                  gone = rw e (gone_step g a p nz (c.within k v (omega arith)).0 q.gone);
                }))
                (f v)
          ]

    pub freed_between : (p : ℕ) → FreedBetween S ss a i j p
    freed_between p q un =
        let nz : entry (m (suc i)) a q.0 ≢ 0 = (thread_row ((good (suc i)).sound.threads a thread)).full (omega (arith, c.begins)) q.0 q.1 in
        elim (fate p un (λ z. nz (q.2 ∙ z)) (due_first a p q.0 c.begins starts q.1 q.2) (suc j) (omega (arith, c.order)) (omega arith)) [
          | inl d ↦ absurd (omega (arith, d.from, c.ends.after))
          | inr g ↦ ((g.at, g.later, omega (arith, g.earlier), g.frees), λ y. g.gone y.0 y.2)
        ]

  -- the beginning of a reclaim that ends, the whole reclaim, and how many stay
  module _ (j : ℕ) (e : Ends S ss a j) where
    ended_by : a < S.threads
    ended_by = rw e.advance.by at (accepted_at S lg ss j e.advance.there e.advance.accepted).thread

    pub start : Beginning j
    start = beginning j (omega (arith, e.advance.there)) (omega (arith, e.before))

    pub whole : Reclaim S ss a start.at j
    whole = record {
      retire = start.retire;
      begins = start.begins;
      order = start.earlier;
      ends = e;
      within = λ k b l. (start.within k b l, omega (arith, ((good k).sound.threads a ended_by).line.known));
    }

    pub stay : list_length (m (suc j)) a ≤ all_slots S
    stay = elim (went_at S lg ss j e.advance.there) [
      | refused_step n _ ↦ absurd (n e.advance.accepted)
      | accepted_step _ _ y h ↦ rw y (few_stay (going (good j) (step_at ss j) h) a e.before (rw y at e.after))
    ]
