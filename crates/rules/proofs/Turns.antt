-- What an accepted step changes, seen from one thread and its reclaim: another's step changes nothing of it, and each of
-- its own is one of the few turns that a reclaim takes.
use mathlib.Core.Path.{◌≡◌, refl, ◌∙◌}
use mathlib.Core.Logic.{◌≢◌}
use mathlib.Core.Bool.{Bool, true, false, cond, not, ◌&&◌}
use Prim.Native.Nat.{ℕ, suc, ◌+◌, ◌/◌, ◌≤◌, ◌<◌}
use native.Mathlib.Omega.{arith}
use lib.Dec.{eqb, leb}
use borrow.Author.Tests.{ne_eqb, leb-false}
use Rattle.rules.specs.declared.Settings.{Settings}
use Rattle.rules.specs.Settings.{all_slots, slot}
use Rattle.rules.specs.Phases.{idle, reserved, collecting, pinging, waiting, scanning, freeing, #retire, #advance}
use Rattle.rules.specs.declared.Kind.{Kind}
use Rattle.rules.specs.declared.Kind.TheVariants.{Phase, U, V, W, Collected, Length, Entry, Scanned}
use Rattle.rules.specs.State.{State, status, private, published, count, phase, u, v, w, collected, list_length, entry, scanned, Answer}
use Rattle.rules.specs.Operations.{allocate, swap, load, reserve, to_idle, check, use_slot, clear, retire, deliver}
use Rattle.rules.specs.Advance.{onward, collect, ping, scan, seen, freed_on}
use Rattle.rules.specs.declared.Step.{Step}
use Rattle.rules.proofs.Laws.{same, diff, sep, holds, fails, either}
use Rattle.rules.proofs.Writes.{tag}
use Rattle.rules.proofs.Moves.{own, rows_own, other_row, Among, item, Move, allocates, swaps, loads, reserves, checks, uses, clears, retires, collects, pings, waits, stays, scans, keeps, frees, delivers, copies, counts}
use Rattle.rules.proofs.Changes.{next, eqb_self}

-- one item of n done, after i others: the next one, or after the last the next phase
pub data Onward (p i n p' i' : ℕ) : Type 0 where
  more : i + 1 < n → p' ≡ p → i' ≡ i + 1 → Onward p i n p' i'
  last : i + 1 ≡ n → p' ≡ suc p → i' ≡ 0 → Onward p i n p' i'

-- one entry of n done, after i others, k kept so far: the next one, or the end of the reclaim
pub data Taken (i n k p' i' k' n' : ℕ) : Type 0 where
  goes_on : i + 1 < n → p' ≡ freeing → i' ≡ i + 1 → k' ≡ k → n' ≡ n → Taken i n k p' i' k' n'
  ends : i + 1 ≡ n → p' ≡ idle → i' ≡ 0 → k' ≡ 0 → n' ≡ k → Taken i n k p' i' k' n'

-- the list of thread a stays
pub record Listing (m m' : State) (a : ℕ) : Type 0 where
  pub same_length : list_length m' a ≡ list_length m a
  pub same_entries : (i : ℕ) → entry m' a i ≡ entry m a i

-- all that a reclaim of thread a reads or writes of its own stays
pub record Still (m m' : State) (a : ℕ) : Type 0 where
  pub list : Listing m m' a
  pub same_phase : phase m' a ≡ phase m a
  pub same_item : u m' a ≡ u m a
  pub same_kept : v m' a ≡ v m a
  pub same_record : w m' a ≡ w m a
  pub same_collected : (b : ℕ) → collected m' a b ≡ collected m a b
  pub same_scanned : (x : ℕ) → scanned m' a x ≡ scanned m a x

-- the lists of thread a before and after it retires record p; a reclaim begins, or not yet
pub record Retires (S : Settings) (m m' : State) (a p : ℕ) : Type 0 where
  pub was_idle : phase m a ≡ idle
  pub some : p ≢ 0
  pub live : status m p ≡ 1
  pub dead : status m' p ≡ 2
  pub longer : list_length m' a ≡ list_length m a + 1
  pub added : (i : ℕ) → entry m' a i ≡ cond (eqb (list_length m a) i) p (entry m a i)
  pub low : phase m' a ≤ collecting
  pub idle_or : phase m' a ≢ collecting → (phase m' a ≡ idle) × (list_length m a + 1 < S.threshold)
  pub first : u m' a ≡ 0
  pub only : (b j : ℕ) → a ≢ b → entry m' b j ≡ entry m b j

-- the entry that reclaimer a is at, p, is taken out
pub record Takes (m m' : State) (a p k : ℕ) : Type 0 where
  pub was_freeing : phase m a ≡ freeing
  pub is_item : entry m a (u m a) ≡ p
  pub some : p ≢ 0
  pub kept : v m a ≤ u m a
  pub next : Taken (u m a) (list_length m a) k (phase m' a) (u m' a) (v m' a) (list_length m' a)
  pub same_collected : (b : ℕ) → collected m' a b ≡ collected m a b
  pub same_scanned : (x : ℕ) → scanned m' a x ≡ scanned m a x

-- a step is thread a's, of operation op
abbrev pub By : Step → (a op : ℕ) → Type 0
By s a op = (s.thread ≡ a) × (s.op ≡ op)

-- what a step s with value x does to the reclaim of thread a; the test says whether it is an advance of a that moves
pub data Turn (S : Settings) (s : Step) (x : ℕ) (m m' : State) (a : ℕ) : Bool → Type 0 where
  still : Still m m' a → Turn S s x m m' a false
  outside : record {
    before : phase m a ≤ reserved;
    after : phase m' a ≤ reserved;
    list : Listing m m' a;
    now : phase m' a ≡ reserved → private m' (slot S a (u m' a)) ≡ w m' a;
  }
      → Turn S s x m m' a false
  retiring : (p : ℕ) → By s a #retire → Retires S m m' a p → Turn S s x m m' a false
  collecting_on : record {
    at : phase m a ≡ collecting;
    next : Onward collecting (u m a) S.threads (phase m' a) (u m' a);
    list : Listing m m' a;
    noted : (b : ℕ) → collected m' a b ≡ cond (eqb (u m a) b) (count m' b) (collected m a b);
    same_scanned : (x : ℕ) → scanned m' a x ≡ scanned m a x;
  }
      → Turn S s x m m' a true
  pinging_on : record {
    at : phase m a ≡ pinging;
    next : Onward pinging (u m a) S.threads (phase m' a) (u m' a);
    list : Listing m m' a;
    same_collected : (b : ℕ) → collected m' a b ≡ collected m a b;
    same_scanned : (x : ℕ) → scanned m' a x ≡ scanned m a x;
  }
      → Turn S s x m m' a true
  waiting_on : record {
    at : phase m a ≡ waiting;
    next : Onward waiting (u m a) S.threads (phase m' a) (u m' a);
    list : Listing m m' a;
    moved : (b : ℕ) → a ≢ b → u m a ≡ b → count m' b ≢ collected m a b;
    same_collected : (b : ℕ) → collected m' a b ≡ collected m a b;
    same_scanned : (x : ℕ) → scanned m' a x ≡ scanned m a x;
  }
      → Turn S s x m m' a true
  scanning_on : record {
    at : phase m a ≡ scanning;
    next : Onward scanning (u m a) (all_slots S) (phase m' a) (u m' a);
    list : Listing m m' a;
    none : v m' a ≡ 0;
    same_collected : (b : ℕ) → collected m' a b ≡ collected m a b;
    noted : (x : ℕ) → scanned m' a x ≡ cond (eqb (u m a) x) (cond (eqb (x / S.slots) a) (private m x) (published m' x)) (scanned m a x);
  }
      → Turn S s x m m' a true
  keeping : (p : ℕ) → Takes m m' a p (v m a + 1) → Among (scanned m a) (all_slots S) p
      → ((i : ℕ) → entry m' a i ≡ cond (eqb (v m a) i) p (cond (eqb (u m a) i) 0 (entry m a i))) → Turn S s x m m' a true
  freeing_one : (p : ℕ) → Takes m m' a p (v m a) → record {
    by : By s a #advance;
    value : x ≡ 3;
    unnoted : (x : ℕ) → x < all_slots S → scanned m a x ≢ p;
    dead : status m' p ≡ 0;
    left : (i : ℕ) → entry m' a i ≡ cond (eqb (u m a) i) 0 (entry m a i);
  }
      → Turn S s x m m' a true

-- whether a step with value x is an advance of thread a that moves
abbrev pub moves_of : Step → ℕ → ℕ → Bool
moves_of s x a = eqb s.thread a && eqb s.op #advance && not (eqb x 0)

onward_is : (p i n : ℕ) → i < n → Onward p i n (cond (eqb (i + 1) n) (suc p) p) (cond (eqb (i + 1) n) 0 (i + 1))
onward_is p i n l = elim (sep (i + 1) n) [ same e q ↦ rw q (last e refl refl) | diff e q ↦ rw q (more (omega arith) refl refl) ]

taken_is : (i n k : ℕ) → i < n
    → Taken i n k (cond (eqb (i + 1) n) idle freeing) (cond (eqb (i + 1) n) 0 (i + 1)) (cond (eqb (i + 1) n) 0 k) (cond (eqb (i + 1) n) k n)
taken_is i n k l = elim (sep (i + 1) n) [ same e q ↦ rw q (ends e refl refl refl refl) | diff e q ↦ rw q (goes_on (omega arith) refl refl refl refl) ]

-- the step's own thread
own_turn : {S : Settings} {m : State} {s : Step} {r : Answer} → Move S m s r
    → Turn S s r.value m (next m r) s.thread (eqb s.op #advance && not (eqb r.value 0))
unfolding allocate swap load reserve to_idle check use_slot clear retire deliver onward collect ping scan seen freed_on
own_turn {S} {m} {s} mv = let q : eqb s.thread s.thread ≡ true = eqb_self s.thread in
    elim mv as (λ r _. Turn S s r.value m (next m r) s.thread (eqb s.op #advance && not (eqb r.value 0))) [
      | allocates f ↦ rw f.op (still (omega arith))
      | swaps f ↦ rw f.op (still (omega arith))
      | loads f ↦ rw f.op (outside (record { before = omega arith; after = rw q (omega arith); list = omega arith; now = rw q (omega arith) }))
      | reserves f ↦ rw f.op (outside (record {
        before = omega arith;
        after = rw q (omega arith);
        list = omega arith;
        now = λ _. rw (eqb_self (slot S s.thread (u m s.thread)));
      }))
      | checks f ↦ rw f.op (outside (record { before = omega arith; after = rw q (omega arith); list = omega arith; now = rw q (omega arith) }))
      | uses f ↦ rw f.op (still (omega arith))
      | clears f ↦ rw f.op (still (omega arith))
      | retires f ↦ rw f.op (retiring s.a (refl, refl) (record {
        was_idle = f.at;
        some = f.some;
        live = f.live;
        dead = rw (eqb_self s.a);
        longer = rw q;
        added = λ i. rw q;
        low = elim (either (leb S.threshold (list_length m s.thread + 1)))
            [ holds e ↦ rw (q, e) (omega arith) | fails e ↦ rw (q, e) (omega arith) ];
        idle_or = elim (either (leb S.threshold (list_length m s.thread + 1)))
            [ holds e ↦ rw (q, e) (λ n. absurd (n refl)) | fails e ↦ rw (q, e) (λ _. (f.at, leb-false _ _ e)) ];
        first = elim (either (leb S.threshold (list_length m s.thread + 1)))
            [ holds e ↦ rw (q, e) | fails e ↦ rw (q, e) f.first ];
        only = λ b j n. rw (ne_eqb s.thread b n);
      }))
      | collects f ↦ rw f.op (collecting_on (record {
        at = f.at;
        next = rw (q, f.at) (onward_is collecting (u m s.thread) S.threads f.inside);
        list = omega arith;
        noted = λ b. elim (sep (u m s.thread) b) [ same e g ↦ rw (q, g, e) | diff e g ↦ rw (q, g) ];
        same_scanned = omega arith;
      }))
      | pings f ↦ rw f.op (pinging_on (record {
        at = f.at;
        next = rw (q, f.at) (onward_is pinging (u m s.thread) S.threads f.inside);
        list = omega arith;
        same_collected = omega arith;
        same_scanned = omega arith;
      }))
      | waits f ↦ rw f.op (waiting_on (record {
        at = f.at;
        next = rw (q, f.at) (onward_is waiting (u m s.thread) S.threads f.inside);
        list = omega arith;
        moved = λ b n e. rw (← e) (f.moved (λ z. n (z ∙ e)));
        same_collected = omega arith;
        same_scanned = omega arith;
      }))
      | stays f ↦ rw f.op (still (omega arith))
      | scans f ↦ rw f.op (scanning_on (record {
        at = f.at;
        next = rw (q, f.at) (onward_is scanning (u m s.thread) (all_slots S) f.inside);
        list = omega arith;
        none = f.none;
        same_collected = omega arith;
        noted = λ x. elim (sep (u m s.thread) x) [ same e g ↦ rw (q, g, e) | diff e g ↦ rw (q, g) ];
      }))
      | keeps f ↦ rw f.op (keeping (item m s.thread) (record {
        was_freeing = f.at;
        is_item = refl;
        some = f.some;
        kept = f.kept;
        same_collected = λ b. refl;
        same_scanned = λ x. refl;
        next = rw (q, f.at) (taken_is (u m s.thread) (list_length m s.thread) (v m s.thread + 1) f.inside);
      })
          f.noted (λ i. rw q))
      | frees f ↦ rw f.op (freeing_one (item m s.thread) (record {
        was_freeing = f.at;
        is_item = refl;
        some = f.some;
        kept = f.kept;
        same_collected = λ b. refl;
        same_scanned = λ x. refl;
        next = rw (q, f.at) (taken_is (u m s.thread) (list_length m s.thread) (v m s.thread) f.inside);
      })
          (record { by = (refl, refl); value = refl; unnoted = f.unnoted; dead = rw (eqb_self (item m s.thread)); left = λ i. rw q }))
      | delivers f ↦ rw f.op (still (omega arith))
      | copies f ↦ rw f.op (still (omega arith))
      | counts f ↦ rw f.op (still (omega arith))
    ]

-- any thread
pub turn : {S : Settings} {m : State} {s : Step} {r : Answer} → Move S m s r → (a : ℕ) → Turn S s r.value m (next m r) a (moves_of s r.value a)
turn {m = m} {s = s} {r = r} mv a = elim (sep s.thread a) [
  | same e g ↦ rw (g, ← e) (own_turn mv)
  | diff n g ↦ rw g (still (record {
    list = record { same_length = other n Length refl 0; same_entries = other n Entry refl };
    same_phase = other n Phase refl 0;
    same_item = other n U refl 0;
    same_kept = other n V refl 0;
    same_record = other n W refl 0;
    same_collected = other n Collected refl;
    same_scanned = other n Scanned refl;
  }))
]
  where
    other : s.thread ≢ a → (k : Kind) → own (tag k) ≡ true → (j : ℕ) → next m r k a j ≡ m k a j
    other n k o j = other_row n k o j r.writes (rows_own mv) m
