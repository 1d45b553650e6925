-- What an accepted step changes, seen from one slot, what is published of it, one record, one cell: the few things that
-- can happen to it.
use mathlib.Core.Path.{◌≡◌, refl, sym, ◌∙◌}
use mathlib.Core.Logic.{◌≢◌, ◌⊎◌, inl, inr}
use mathlib.Core.Bool.{true, cond}
use Prim.Native.Nat.{ℕ, ◌+◌, ◌*◌, ◌-◌, ◌<◌}
use native.Mathlib.Omega.{arith}
use lib.Dec.{eqb}
use borrow.Author.Tests.{eq-eqb}
use Rattle.rules.specs.declared.Settings.{Settings}
use Rattle.rules.specs.Settings.{all_slots, slot}
use Rattle.rules.specs.Phases.{reserved, freeing, #reserve, #clear}
use Rattle.rules.specs.State.{State, cell, status, private, published, held, count, phase, u, v, w, handler, entry, scanned, Answer}
use Rattle.rules.specs.Operations.{lowest_free, allocate, swap, load, reserve, to_idle, check, use_slot, clear, retire, deliver}
use Rattle.rules.specs.Advance.{onward, collect, ping, scan, freed_on}
use Rattle.rules.specs.declared.Step.{Step}
use Rattle.rules.proofs.Laws.{same, diff, sep, holds, fails, either}
use Rattle.rules.proofs.Writes.{puts}
use Rattle.rules.proofs.Slots.{Row}
use Rattle.rules.proofs.Moves.{item, Move, allocates, swaps, loads, reserves, checks, uses, clears, retires, collects, pings, waits, stays, scans, keeps, frees, delivers, copies, counts}

-- the state after an answer
abbrev pub next : State → Answer → State
next m r = puts m r.writes

pub eqb_self : (i : ℕ) → eqb i i ≡ true
eqb_self i = eq-eqb i i refl

-- slot i of the step's thread is written: by a reserve, or by a clear
pub record Written (S : Settings) (m m' : State) (s : Step) (x i : ℕ) : Type 0 where
  pub place : x ≡ slot S s.thread i
  pub fits : i < S.slots
  pub quiet : handler m' s.thread ≡ 0
  pub unmarked : held m' x ≡ 0
  pub not_reserved : phase m s.thread ≢ reserved
  pub how : ((s.op ≡ #reserve) × (u m s.thread ≡ i)) ⊎ ((s.op ≡ #clear) × (s.a ≡ i))

-- what a step does to slot x
pub data SlotTurn (S : Settings) (m m' : State) (s : Step) (x : ℕ) : Type 0 where
  slot_same : private m' x ≡ private m x → held m' x ≡ held m x → SlotTurn S m m' s x
  written : (i : ℕ) → Written S m m' s x i → SlotTurn S m m' s x
  marked : record {
    place : slot S s.thread (u m s.thread) ≡ x;
    now : held m' x ≡ 1;
    at : phase m s.thread ≡ reserved;
    cell_fits : v m s.thread < S.cells;
    equal : cell m (v m s.thread) ≡ w m s.thread;
    some : w m s.thread ≢ 0;
    same : private m' x ≡ private m x;
    status_same : (p : ℕ) → status m' p ≡ status m p;
  }
      → SlotTurn S m m' s x

-- what a step does to what thread b publishes of slot x: where its handler stands, its count, the published slot
pub data PublishedTurn (S : Settings) (m m' : State) (b x : ℕ) : Type 0 where
  quiet : published m' x ≡ published m x → count m' b ≡ count m b
      → (x + 1 < b * S.slots + handler m' b → x + 1 < b * S.slots + handler m b) → PublishedTurn S m m' b x
  copied : published m' x ≡ private m x → count m' b ≡ count m b → PublishedTurn S m m' b x
  counted : published m' x ≡ published m x → handler m b ≡ S.slots + 1 → handler m' b ≡ 0 → PublishedTurn S m m' b x

-- what a step does to the status of record p
pub data StatusTurn (S : Settings) (m m' : State) (p : ℕ) : Type 0 where
  status_same : status m' p ≡ status m p → StatusTurn S m m' p
  born : status m p ≡ 0 → status m' p ≡ 1 → StatusTurn S m m' p
  retired : status m p ≡ 1 → status m' p ≡ 2 → ((c : ℕ) → c < S.cells → cell m' c ≢ p) → StatusTurn S m m' p
  freed : (a : ℕ) → phase m a ≡ freeing → item m a ≡ p → p ≢ 0 → ((x : ℕ) → x < all_slots S → scanned m a x ≢ p)
      → ((i : ℕ) → entry m' a i ≡ cond (eqb (u m a) i) 0 (entry m a i)) → StatusTurn S m m' p

-- what a step does to cell c
pub data CellTurn (m m' : State) (c : ℕ) : Type 0 where
  cell_same : cell m' c ≡ cell m c → CellTurn m m' c
  stored : ((p : ℕ) → cell m' c ≡ p → p ≢ 0 → status m' p ≡ 1) → CellTurn m m' c

module _ {S : Settings} {m : State} {s : Step} {r : Answer} (mv : Move S m s r) where
  pub slot_turn : (x : ℕ) → SlotTurn S m (next m r) s x
  unfolding allocate swap load reserve to_idle check use_slot clear retire deliver onward collect ping scan freed_on
  slot_turn x = elim mv as (λ r _. SlotTurn S m (next m r) s x) [
    | allocates _ ↦ slot_same refl refl
    | swaps _ ↦ slot_same refl refl
    | loads _ ↦ slot_same refl refl
    | reserves f ↦ elim (sep (slot S s.thread (u m s.thread)) x) [
      | same e q ↦ written (u m s.thread) (record {
        place = sym e;
        fits = f.fits;
        quiet = f.quiet;
        unmarked = rw q;
        not_reserved = omega arith;
        how = inl (f.op, refl);
      })
      | diff e q ↦ slot_same (rw q) (rw q)
    ]
    | checks f ↦ elim (sep (slot S s.thread (u m s.thread)) x) [
      | diff e q ↦ slot_same refl (rw q)
      | same e q ↦ elim (sep (cell m (v m s.thread)) (w m s.thread)) [
        | diff n g ↦ slot_same refl (rw (q, g, e))
        | same y g ↦ elim (sep (w m s.thread) 0) [
          | same z h ↦ slot_same refl (rw (q, g, h, e))
          | diff z h ↦ marked (record {
            place = e;
            now = rw (q, g, h);
            at = f.at;
            cell_fits = f.cell_fits;
            equal = y;
            some = z;
            same = refl;
            status_same = λ p. refl;
          })
        ]
      ]
    ]
    | uses _ ↦ slot_same refl refl
    | clears f ↦ elim (sep (slot S s.thread s.a) x) [
      | same e q ↦ written s.a (record {
        place = sym e;
        fits = f.fits;
        quiet = f.quiet;
        unmarked = rw q;
        not_reserved = omega arith;
        how = inr (f.op, refl);
      })
      | diff e q ↦ slot_same (rw q) (rw q)
    ]
    | retires _ ↦ slot_same refl refl
    | collects _ ↦ slot_same refl refl
    | pings _ ↦ slot_same refl refl
    | waits _ ↦ slot_same refl refl
    | stays _ ↦ slot_same refl refl
    | scans _ ↦ slot_same refl refl
    | keeps _ ↦ slot_same refl refl
    | frees _ ↦ slot_same refl refl
    | delivers _ ↦ slot_same refl refl
    | copies _ ↦ slot_same refl refl
    | counts _ ↦ slot_same refl refl
  ]

  pub published_turn : {b x : ℕ} → Row S.slots b x → PublishedTurn S m (next m r) b x
  unfolding allocate swap load reserve to_idle check use_slot clear retire deliver onward collect ping scan freed_on
  published_turn {b} {x} row = elim mv as (λ r _. PublishedTurn S m (next m r) b x) [
    | allocates _ ↦ quiet refl refl (λ h. h)
    | swaps _ ↦ quiet refl refl (λ h. h)
    | loads _ ↦ quiet refl refl (λ h. h)
    | reserves _ ↦ quiet refl refl (λ h. h)
    | checks _ ↦ quiet refl refl (λ h. h)
    | uses _ ↦ quiet refl refl (λ h. h)
    | clears _ ↦ quiet refl refl (λ h. h)
    | retires _ ↦ quiet refl refl (λ h. h)
    | collects _ ↦ quiet refl refl (λ h. h)
    | pings _ ↦ quiet refl refl (λ h. h)
    | waits _ ↦ quiet refl refl (λ h. h)
    | stays _ ↦ quiet refl refl (λ h. h)
    | scans _ ↦ quiet refl refl (λ h. h)
    | keeps _ ↦ quiet refl refl (λ h. h)
    | frees _ ↦ quiet refl refl (λ h. h)
    | delivers f ↦ quiet refl refl (elim (sep s.thread b) [ same e q ↦ rw q (λ h. absurd (omega (arith, row))) | diff e q ↦ rw q (λ h. h) ])
    | copies f ↦ elim (sep (slot S s.thread (handler m s.thread - 1)) x) [
      | same e q ↦ copied (rw (q, e)) refl
      | diff n q ↦ quiet (rw q) refl
          (elim (sep s.thread b) [ same e g ↦ rw (g, ← e) (λ h. omega (arith, f)) | diff e g ↦ rw g (λ h. h) ])
    ]
    | counts f ↦ elim (sep s.thread b)
        [ same e q ↦ counted refl (rw (← e) f.last) (rw q) | diff e q ↦ quiet refl (rw q) (rw q (λ h. h)) ]
  ]

  pub status_turn : (p : ℕ) → StatusTurn S m (next m r) p
  unfolding allocate swap load reserve to_idle check use_slot clear retire deliver onward collect ping scan freed_on
  status_turn p = elim mv as (λ r _. StatusTurn S m (next m r) p) [
    | allocates f ↦ elim (sep (lowest_free m S.records) p)
        [ same e q ↦ born (rw (← e) f.free) (rw q) | diff e q ↦ status_same (rw q) ]
    | swaps _ ↦ status_same refl
    | loads _ ↦ status_same refl
    | reserves _ ↦ status_same refl
    | checks _ ↦ status_same refl
    | uses _ ↦ status_same refl
    | clears _ ↦ status_same refl
    | retires f ↦ elim (sep s.a p)
        [ same e q ↦ retired (rw (← e) f.live) (rw q) (rw (← e) f.bare) | diff e q ↦ status_same (rw q) ]
    | collects _ ↦ status_same refl
    | pings _ ↦ status_same refl
    | waits _ ↦ status_same refl
    | stays _ ↦ status_same refl
    | scans _ ↦ status_same refl
    | keeps _ ↦ status_same refl
    | frees f ↦ elim (sep (item m s.thread) p) [
      | same e q ↦ freed s.thread f.at e (rw (← e) f.some) (rw (← e) f.unnoted) (λ i. rw (eqb_self s.thread))
      | diff e q ↦ status_same (rw q)
    ]
    | delivers _ ↦ status_same refl
    | copies _ ↦ status_same refl
    | counts _ ↦ status_same refl
  ]

  pub cell_turn : (c : ℕ) → CellTurn m (next m r) c
  unfolding allocate swap load reserve to_idle check use_slot clear retire deliver onward collect ping scan freed_on
  cell_turn c = elim mv as (λ r _. CellTurn m (next m r) c) [
    | allocates _ ↦ cell_same refl
    | swaps f ↦ elim (sep s.a c) [
      | diff n q ↦ cell_same (rw q)
      | same e q ↦ elim (either (eqb (cell m s.a) s.b))
          [ holds y ↦ stored (λ p. rw (q, y) (λ h z. rw (← h) (f.live (λ g. z (sym h ∙ g))))) | fails y ↦ cell_same (rw (q, y, e)) ]
    ]
    | loads _ ↦ cell_same refl
    | reserves _ ↦ cell_same refl
    | checks _ ↦ cell_same refl
    | uses _ ↦ cell_same refl
    | clears _ ↦ cell_same refl
    | retires _ ↦ cell_same refl
    | collects _ ↦ cell_same refl
    | pings _ ↦ cell_same refl
    | waits _ ↦ cell_same refl
    | stays _ ↦ cell_same refl
    | scans _ ↦ cell_same refl
    | keeps _ ↦ cell_same refl
    | frees _ ↦ cell_same refl
    | delivers _ ↦ cell_same refl
    | copies _ ↦ cell_same refl
    | counts _ ↦ cell_same refl
  ]
