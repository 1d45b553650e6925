-- A reclaim, step by step: a record of its list that no private slot names stays due until it is freed, and is gone from
-- then on; and how many advances brought the reclaim to where it is.
use mathlib.Core.Path.{◌≡◌, sym, ◌∙◌}
use mathlib.Core.Logic.{◌≢◌, ◌⊎◌, inl, inr}
use mathlib.Core.Bool.{Bool}
use Prim.Native.Nat.{ℕ, ◌+◌, ◌*◌, ◌/◌, ◌≤◌, ◌<◌}
use native.Mathlib.Nat.{add-zero}
use native.Mathlib.Omega.{arith}
use borrow.Author.Tests.{ne_eqb}
use Rattle.rules.specs.declared.Settings.{Settings}
use Rattle.rules.specs.Tests.{bit}
use Rattle.rules.specs.Settings.{all_slots}
use Rattle.rules.specs.Phases.{idle, collecting, pinging, waiting, scanning, freeing, #advance}
use Rattle.rules.specs.State.{State, status, private, phase, u, v, list_length, entry, Answer}
use Rattle.rules.specs.declared.Step.{Step}
use Rattle.rules.proofs.Laws.{same, diff, sep}
use Rattle.rules.proofs.Slots.{Row, row_fits, row_at}
use Rattle.rules.proofs.Moves.{among, Move}
use Rattle.rules.proofs.Changes.{next, published_turn}
use Rattle.rules.proofs.Turns.{more, last, Taken, goes_on, ends, Listing, By, Turn, still, outside, retiring, collecting_on, pinging_on, waiting_on, scanning_on, keeping, freeing_one, turn}
use Rattle.rules.proofs.Cover.{in_freeing, CoverAt, unclaimed, cover_step}
use Rattle.rules.proofs.Invariant.{Invariant}
use Rattle.rules.proofs.InvariantKept.{Going, stood, moved, new, origin, onward_far, freed_gone}

-- record p of reclaimer a's list, not come to yet, and no word that a reads or has noted names it
pub record Due (S : Settings) (m : State) (a p : ℕ) : Type 0 where
  pub from : collecting ≤ phase m a
  pub place : ℕ
  pub stands : entry m a place ≡ p
  pub listed : place < list_length m a
  pub ahead : phase m a ≡ freeing → u m a ≤ place
  pub unread : (b x : ℕ) → b < S.threads → Row S.slots b x → CoverAt (λ z. z ≢ p) m a b x

-- step s with value x is a's advance that frees p
pub record FreesNow (s : Step) (x : ℕ) (m m' : State) (a p : ℕ) : Type 0 where
  pub by : By s a #advance
  pub value : x ≡ 3
  pub before : status m p ≢ 0
  pub after : status m' p ≡ 0
  pub gone : (i : ℕ) → entry m' a i ≢ p

-- when the reclaim begins, each record of the list is due
pub due_first : {S : Settings} {m : State} (a p i : ℕ) → phase m a ≡ collecting → u m a ≡ 0 → i < list_length m a → entry m a i ≡ p → Due S m a p
due_first a p i e z l h = record {
  from = omega arith;
  place = i;
  stands = h;
  listed = l;
  ahead = λ y. absurd (omega arith);
  unread = λ b x _ _. unclaimed _ a b x (omega arith) (λ _. z);
}

-- an entry beyond the one taken out is left: the freeing goes on
goes : {i n k p' i' k' n' : ℕ} (j : ℕ) → Taken i n k p' i' k' n' → i < j → j < n → (p' ≡ freeing) × (i' ≡ i + 1) × (n' ≡ n)
goes j (goes_on _ e f g h) a b = (e, f, h)
goes j (ends l e f g h) a b = absurd (omega arith)

module _ {S : Settings} {m : State} {s : Step} {r : Answer} (g : Going S m s r) (a p : ℕ) (nz : p ≢ 0) where
  abbrev m' : State
  m' = next m r

  abbrev mv : Move S m s r
  mv = g.move

  abbrev inv : Invariant S m
  inv = g.invariant

  pub due_step : ((x : ℕ) → x < all_slots S → private m x ≢ p) → Due S m a p → Due S m' a p ⊎ FreesNow s r.value m m' a p
  due_step un w = go (turn mv a)
    where
      unread' : (b x : ℕ) → b < S.threads → Row S.slots b x → CoverAt (λ z. z ≢ p) m' a b x
      unread' b x l row =
          cover_step (λ z. z ≢ p) a b x S m m' l row (un x (row_fits l row)) (turn mv a) (published_turn mv row) (inv.copied b x row)
          (w.unread b x l row)

      -- the list stays
      on : Listing m m' a → collecting ≤ phase m' a → (phase m' a ≡ freeing → u m' a ≤ w.place) → Due S m' a p ⊎ FreesNow s r.value m m' a p
      on f l h = inl (record {
        from = l;
        place = w.place;
        stands = f.same_entries w.place ∙ w.stands;
        listed = omega (arith, f.same_length, w.listed);
        ahead = h;
        unread = unread';
      })

      -- another entry is taken out
      past : {k : ℕ} → phase m a ≡ freeing → Taken (u m a) (list_length m a) k (phase m' a) (u m' a) (v m' a) (list_length m' a) → u m a ≢ w.place
          → entry m' a w.place ≡ entry m a w.place → Due S m' a p ⊎ FreesNow s r.value m m' a p
      past e f n h =
          let far : u m a < w.place = omega (arith, w.ahead e) in
          let g = goes w.place f far w.listed in
          inl (record {
            from = omega (arith, g.0);
            place = w.place;
            stands = h ∙ w.stands;
            listed = omega (arith, g.2, w.listed);
            ahead = λ _. omega (arith, g.1);
            unread = unread';
          })

      go : {d : Bool} → Turn S s r.value m m' a d → Due S m' a p ⊎ FreesNow s r.value m m' a p
      go (still f) = on f.list (omega (arith, f.same_phase, w.from)) (rw (f.same_phase, f.same_item) w.ahead)
      go (outside f) = absurd (omega (arith, f.before, w.from))
      go (retiring q _ f) = absurd (omega (arith, f.was_idle, w.from))
      go (collecting_on f) = on f.list (omega (arith, onward_far f.next)) (λ h. absurd (omega (arith, onward_far f.next)))
      go (pinging_on f) = on f.list (omega (arith, onward_far f.next)) (λ h. absurd (omega (arith, onward_far f.next)))
      go (waiting_on f) = on f.list (omega (arith, onward_far f.next)) (λ h. absurd (omega (arith, onward_far f.next)))
      go (scanning_on f) = on f.list (omega (arith, onward_far f.next))
          (λ h. elim f.next [ more _ e _ ↦ absurd (omega arith) | last _ _ e ↦ omega arith ])
      go (keeping q f noted en) = elim (sep (u m a) w.place) [
        | same e _ ↦ absurd (elim noted [
          | among x l y ↦
              let row = row_at g.limits.slots_low l in
              (w.unread (x / S.slots) x row.0 row.1).after_scanning (in_freeing f.was_freeing) (y ∙ sym f.is_item ∙ rw e w.stands)
        ])
        | diff n k ↦ past f.was_freeing f.next n
            (en w.place ∙ rw (ne_eqb (v m a) w.place (omega (arith, f.kept, w.ahead f.was_freeing)), k))
      ]
      go (freeing_one q f o) = elim (sep (u m a) w.place) [
        | same e _ ↦
            let it : entry m a (u m a) ≡ p = rw e w.stands in
            let y : q ≡ p = sym f.is_item ∙ it in
            inr (record {
              by = o.by;
              value = o.value;
              before = omega (arith, inv.lists a (u m a) p it nz);
              after = rw y at o.dead;
              gone = freed_gone g a p it nz o.left a;
            })
        | diff n k ↦ past f.was_freeing f.next n (o.left w.place ∙ rw k)
      ]

  -- what is gone from the list of a reclaim doesn't come back
  pub gone_step : collecting ≤ phase m a → ((i : ℕ) → entry m a i ≢ p) → (i : ℕ) → entry m' a i ≢ p
  gone_step l n i h = elim (origin (turn mv a) i p h nz)
      [ stood e ↦ n i e | moved _ e _ ↦ n (u m a) e | new f ↦ omega (arith, f.was_idle) ]

-- n advances that moved brought a reclaim to phase p and item i
pub record Spent (S : Settings) (p i n : ℕ) : Type 0 where
  pub in_collecting : p ≡ collecting → n ≡ i
  pub in_pinging : p ≡ pinging → n ≡ S.threads + i
  pub in_waiting : p ≡ waiting → n ≡ 2 * S.threads + i
  pub in_scanning : p ≡ scanning → n ≡ 3 * S.threads + i
  pub in_freeing_on : p ≡ freeing → n ≡ 3 * S.threads + all_slots S + i

-- the price of the whole reclaim
abbrev pub price : Settings → ℕ → ℕ
price S l = 3 * S.threads + all_slots S + l

-- a step of a reclaim: one more if it moves, and after the last all are spent
pub data Paid (S : Settings) (m m' : State) (a n : ℕ) : Type 0 where
  on : Spent S (phase m' a) (u m' a) n → list_length m' a ≡ list_length m a → collecting ≤ phase m' a → Paid S m m' a n
  over : phase m' a ≡ idle → n ≡ price S (list_length m a) → Paid S m m' a n

pub paid : {S : Settings} {s : Step} {x : ℕ} {m m' : State} {a : ℕ} {d : Bool} {n : ℕ} → Turn S s x m m' a d → collecting ≤ phase m a
    → Spent S (phase m a) (u m a) n → Paid S m m' a (n + bit d)
paid {n = n} (still f) l e = on (rw (f.same_phase, f.same_item, add-zero n) e) f.list.same_length (omega (arith, f.same_phase))
paid (outside f) l e = absurd (omega (arith, f.before))
paid (retiring p _ f) l e = absurd (omega (arith, f.was_idle))
paid (collecting_on f) l e = let h = e.in_collecting f.at in
    on (elim f.next [ more x y z ↦ omega arith | last x y z ↦ omega arith ]) f.list.same_length (omega (arith, onward_far f.next))
paid (pinging_on f) l e = let h = e.in_pinging f.at in
    on (elim f.next [ more x y z ↦ omega arith | last x y z ↦ omega arith ]) f.list.same_length (omega (arith, onward_far f.next))
paid (waiting_on f) l e = let h = e.in_waiting f.at in
    on (elim f.next [ more x y z ↦ omega arith | last x y z ↦ omega arith ]) f.list.same_length (omega (arith, onward_far f.next))
paid (scanning_on f) l e = let h = e.in_scanning f.at in
    on (elim f.next [ more x y z ↦ omega arith | last x y z ↦ omega arith ]) f.list.same_length (omega (arith, onward_far f.next))
paid (keeping p f _ _) l e = let h = e.in_freeing_on f.was_freeing in
    elim f.next [ goes_on x y z k g ↦ on (omega arith) g (omega arith) | ends x y z k g ↦ over y (omega arith) ]
paid (freeing_one p f _) l e = let h = e.in_freeing_on f.was_freeing in
    elim f.next [ goes_on x y z k g ↦ on (omega arith) g (omega arith) | ends x y z k g ↦ over y (omega arith) ]
