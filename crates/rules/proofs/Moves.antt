-- What an accepted step does, a case for each operation or branch of one: its answer, and what its acceptance says.
use mathlib.Core.Path.{◌≡◌, refl, sym, ap, ◌∙◌}
use mathlib.Core.Logic.{◌≢◌, ⊎_elim}
use mathlib.Core.Bool.{Bool, true, false, cond, not, ◌&&◌, ◌||◌}
use mathlib.Core.List.{List, [], ◌∷◌}
use Prim.Native.Nat.{ℕ, zero, suc, ◌+◌, ◌-◌, ◌%◌, ◌≤◌, ◌<◌}
use native.Mathlib.Nat.{eq-or-lt_of_le, le_of_suc-le-suc, not-suc-le-zero}
use native.Mathlib.Omega.{arith}
use lib.Dec.{eqb, leb}
use borrow.Author.Tests.{eqb-true, eqb-false, leb-true, leb-false}
use Rattle.rules.specs.declared.Settings.{Settings}
use Rattle.rules.specs.Tests.{some}
use Rattle.rules.specs.Settings.{modulus, all_slots, slot, room}
use Rattle.rules.specs.Phases.{operations, idle, loaded, reserved, collecting, pinging, waiting, scanning, freeing, #allocate, #swap, #load, #reserve, #check, #use, #clear, #retire, #advance, #deliver, #handle}
use Rattle.rules.specs.declared.Kind.{Kind}
use Rattle.rules.specs.declared.Kind.TheVariants.{Count, Pending}
use Rattle.rules.specs.State.{State, cell, status, private, count, phase, u, v, w, handler, collected, list_length, entry, scanned, status≔, published≔, count≔, handler≔, entry≔, Write, Answer, done}
use Rattle.rules.specs.Operations.{lowest_free, named, allocate, swap, load, reserve, to_idle, check, use_slot, clear, retire, deliver, handle}
use Rattle.rules.specs.Advance.{onward, collect, ping, wait, scan, freed_on, noted, free, advance}
use Rattle.rules.specs.declared.Step.{Step}
use Rattle.rules.specs.Replies.{step_of}
use Rattle.rules.specs.Step.{perform}
use Rattle.rules.proofs.Laws.{same, diff, sep, Either, holds, fails, either, end, ◌▸◌, case_of, tests}
use Rattle.rules.proofs.Writes.{tag, put, puts}
use Rattle.rules.proofs.Sound.{Thread, Sound}
use Rattle.rules.proofs.Refused.{Accepted}
use Rattle.rules.proofs.Rows.{thread_row}

-- a word below place k is y
pub data Among (w : ℕ → ℕ) (k y : ℕ) : Type 0 where
  among : (x : ℕ) → x < k → w x ≡ y → Among w k y

-- the entry that a freeing reclaimer is at
abbrev pub item : State → ℕ → ℕ
item m t = entry m t (u m t)

pub data Move (S : Settings) (m : State) (s : Step) : Answer → Type 0 where
  allocates : record {
    op : s.op ≡ #allocate;
    some : 1 ≤ lowest_free m S.records;
    most : lowest_free m S.records ≤ S.records;
    free : status m (lowest_free m S.records) ≡ 0;
  }
      → Move S m s (allocate S m)
  swaps : record { op : s.op ≡ #swap; cell_fits : s.a < S.cells; most : s.c ≤ S.records; live : s.c ≢ 0 → status m s.c ≡ 1 }
      → Move S m s (swap m s.a s.b s.c)
  loads : record { op : s.op ≡ #load; at : phase m s.thread ≡ idle; fits : s.a < S.slots; cell_fits : s.b < S.cells }
      → Move S m s (load m s.thread s.a s.b)
  reserves : record {
    op : s.op ≡ #reserve;
    at : phase m s.thread ≡ loaded;
    quiet : handler m s.thread ≡ 0;
    fits : u m s.thread < S.slots;
    cell_fits : v m s.thread < S.cells;
    most : w m s.thread ≤ S.records;
  }
      → Move S m s (reserve S m s.thread)
  checks : record {
    op : s.op ≡ #check;
    at : phase m s.thread ≡ reserved;
    fits : u m s.thread < S.slots;
    cell_fits : v m s.thread < S.cells;
  }
      → Move S m s (check S m s.thread)
  uses : record { op : s.op ≡ #use } → Move S m s (use_slot S m s.thread s.a)
  clears : record { op : s.op ≡ #clear; at : phase m s.thread ≡ idle; quiet : handler m s.thread ≡ 0; fits : s.a < S.slots }
      → Move S m s (clear S s.thread s.a)
  retires : record {
    op : s.op ≡ #retire;
    at : phase m s.thread ≡ idle;
    some : s.a ≢ 0;
    most : s.a ≤ S.records;
    shorter : list_length m s.thread < room S;
    live : status m s.a ≡ 1;
    bare : (c : ℕ) → c < S.cells → cell m c ≢ s.a;
    first : u m s.thread ≡ 0;
  }
      → Move S m s (retire S m s.thread s.a)
  collects : record { op : s.op ≡ #advance; at : phase m s.thread ≡ collecting; inside : u m s.thread < S.threads }
      → Move S m s (collect S m s.thread)
  pings : record { op : s.op ≡ #advance; at : phase m s.thread ≡ pinging; inside : u m s.thread < S.threads }
      → Move S m s (ping S m s.thread)
  waits : record {
    op : s.op ≡ #advance;
    at : phase m s.thread ≡ waiting;
    inside : u m s.thread < S.threads;
    moved : s.thread ≢ u m s.thread → count m (u m s.thread) ≢ collected m s.thread (u m s.thread);
  }
      → Move S m s (done 1 (onward s.thread (u m s.thread) S.threads scanning))
  stays : record { op : s.op ≡ #advance } → Move S m s (done 0 [])
  scans : record { op : s.op ≡ #advance; at : phase m s.thread ≡ scanning; inside : u m s.thread < all_slots S; none : v m s.thread ≡ 0 }
      → Move S m s (scan S m s.thread)
  keeps : record {
    op : s.op ≡ #advance;
    at : phase m s.thread ≡ freeing;
    inside : u m s.thread < list_length m s.thread;
    kept : v m s.thread ≤ u m s.thread;
    some : item m s.thread ≢ 0;
    noted : Among (scanned m s.thread) (all_slots S) (item m s.thread);
  }
      → Move S m s (done 2 (entry≔ s.thread (u m s.thread) 0 ∷ entry≔ s.thread (v m s.thread) (item m s.thread)
      ∷ freed_on s.thread (u m s.thread) (list_length m s.thread) (v m s.thread + 1)))
  frees : record {
    op : s.op ≡ #advance;
    at : phase m s.thread ≡ freeing;
    inside : u m s.thread < list_length m s.thread;
    kept : v m s.thread ≤ u m s.thread;
    some : item m s.thread ≢ 0;
    unnoted : (x : ℕ) → x < all_slots S → scanned m s.thread x ≢ item m s.thread;
  }
      → Move S m s (done 3 (entry≔ s.thread (u m s.thread) 0 ∷ status≔ (item m s.thread) 0
      ∷ freed_on s.thread (u m s.thread) (list_length m s.thread) (v m s.thread)))
  delivers : record { op : s.op ≡ #deliver } → Move S m s (deliver s.thread)
  copies : record { op : s.op ≡ #handle; some : 1 ≤ handler m s.thread; most : handler m s.thread ≤ S.slots }
      → Move S m s (done 1 (published≔ (slot S s.thread (handler m s.thread - 1)) (private m (slot S s.thread (handler m s.thread - 1)))
      ∷ handler≔ s.thread (handler m s.thread + 1) ∷ []))
  counts : record { op : s.op ≡ #handle; last : handler m s.thread ≡ S.slots + 1 }
      → Move S m s (done 2 (count≔ s.thread ((count m s.thread + 1) % modulus) ∷ handler≔ s.thread 0 ∷ []))

-- what a search over several words found
module _ (w : ℕ → ℕ) (y : ℕ) where
  found : (n : ℕ) → some n (λ x. eqb (w x) y) ≡ true → Among w n y
  unfolding some
  found zero e = absurd (mathlib.Core.Bool.false≢true e)
  found (suc n) e = go (either (some n (λ x. eqb (w x) y))) (found n)
    where
      go : Either (some n (λ x. eqb (w x) y)) → (some n (λ x. eqb (w x) y) ≡ true → Among w n y) → Among w (suc n) y
      go (holds h) f = elim (f h) [ among x l g ↦ among x (omega arith) g ]
      go (fails h) f = among n (omega arith) (eqb-true _ _ (rw h at e))

  pub missed : (n : ℕ) → some n (λ x. eqb (w x) y) ≡ false → (x : ℕ) → x < n → w x ≢ y
  unfolding some
  missed zero e x l = absurd (not-suc-le-zero l)
  missed (suc n) e x l = go (either (some n (λ x. eqb (w x) y))) (missed n)
    where
      go : Either (some n (λ x. eqb (w x) y)) → (some n (λ x. eqb (w x) y) ≡ false → (x : ℕ) → x < n → w x ≢ y) → w x ≢ y
      go (holds h) f = absurd (mathlib.Core.Bool.true≢false (rw h at e))
      go (fails h) f = ⊎_elim (λ z. rw z (eqb-false _ _ (rw h at e))) (λ z. f h x z) (eq-or-lt_of_le (le_of_suc-le-suc l))

-- the lowest free record is one of those looked at
lowest_most : (m : State) (n : ℕ) → lowest_free m n ≤ n
unfolding lowest_free
lowest_most m zero = omega arith
lowest_most m (suc n) = elim (either (eqb (lowest_free m n) 0)) [
  | fails e ↦ rw e (omega (arith, lowest_most m n))
  | holds e ↦ rw e (elim (either (eqb (status m (suc n)) 0)) [ holds h ↦ rw h (omega arith) | fails h ↦ rw h (omega arith) ])
]

-- and is free
lowest_is_free : (m : State) (n : ℕ) → lowest_free m n ≢ 0 → status m (lowest_free m n) ≡ 0
unfolding lowest_free
lowest_is_free m zero = λ h. absurd (h refl)
lowest_is_free m (suc n) = elim (sep (lowest_free m n) 0) [
  | diff k e ↦ rw e (λ _. lowest_is_free m n k)
  | same k e ↦ rw e (elim (sep (status m (suc n)) 0) [ same f g ↦ rw g (λ _. f) | diff f g ↦ rw g (λ h. absurd (h refl)) ])
]

-- the wait passes
abbrev passing : State → ℕ → Bool
passing m t = eqb (u m t) t || not (eqb (count m (u m t)) (collected m t (u m t)))

module _ (S : Settings) (m : State) (t : ℕ) (z : Thread S m t) where
  -- one of two answers
  of_two : {s : Step} (b : Bool) {x y : Answer} → (b ≡ true → Move S m s x) → (b ≡ false → Move S m s y) → Move S m s (cond b x y)
  of_two true p q = p refl
  of_two false p q = q refl

  -- advance, by phase
  advances : (a b c : ℕ) → collecting ≤ phase m t → Move S m (step_of t #advance a b c) (advance S m t)
  unfolding advance wait free noted
  advances a b c l = case_of {P = λ p. phase m t ≡ p → Move S m (step_of t #advance a b c) (advance S m t)}
      ((λ e. rw e (collects (record { op = refl; at = e; inside = (z.line.thread (omega arith) (omega arith)).0 })))
      ▸ (λ e. rw e (pings (record { op = refl; at = e; inside = (z.line.thread (omega arith) (omega arith)).0 })))
      ▸ (λ e. rw e (of_two (passing m t)
      (λ h. waits (record {
        op = refl;
        at = e;
        inside = (z.line.thread (omega arith) (omega arith)).0;
        moved = λ n. (simp tests at h) (λ y. n (sym y));
      }))
      (λ _. stays (record { op = refl }))))
      ▸ (λ e. rw e (scans (record { op = refl; at = e; inside = (z.line.word e).0; none = (z.line.word e).1 })))
      ▸ (λ e.
      let i = z.line.item e in
      let y : item m t ≢ 0 = (thread_row z).back e (u m t) (omega arith) i.0 in
      rw e (of_two (some (all_slots S) (λ x. eqb (scanned m t x) (item m t)))
      (λ h. keeps (record {
        op = refl;
        at = e;
        inside = i.0;
        kept = i.1;
        some = y;
        noted = found (scanned m t) (item m t) (all_slots S) h;
      }))
      (λ h. frees (record {
        op = refl;
        at = e;
        inside = i.0;
        kept = i.1;
        some = y;
        unnoted = missed (scanned m t) (item m t) (all_slots S) h;
      }))))
      ▸ end) (phase m t) l z.line.known refl

  -- the operations, in their order
  acts : (a b c op : ℕ) → op < operations → Accepted S m (step_of t op a b c) → Move S m (step_of t op a b c) (perform S m (step_of t op a b c))
  unfolding perform handle named
  acts a b c op h = case_of {P = λ op. Accepted S m (step_of t op a b c) → Move S m (step_of t op a b c) (perform S m (step_of t op a b c))}
      ((λ k. allocates (record {
        op = refl;
        some = omega (arith, k.free refl);
        most = lowest_most m S.records;
        free = lowest_is_free m S.records (k.free refl);
      }))
      ▸ (λ k. swaps (record { op = refl; cell_fits = (k.fitted.swaps refl).0; most = (k.fitted.swaps refl).2; live = k.live_new refl }))
      ▸ (λ k. loads (record { op = refl; at = k.rests refl; fits = (k.fitted.loads refl).0; cell_fits = (k.fitted.loads refl).1 }))
      ▸ (λ k.
      let e : phase m t ≡ loaded = k.reserves refl in
      let i = z.line.slot (omega arith) (omega arith) in
      reserves (record { op = refl; at = e; quiet = k.unhandled (omega arith); fits = i.0; cell_fits = i.1; most = i.2 }))
      ▸ (λ k.
      let e : phase m t ≡ reserved = k.checks refl in
      let i = z.line.slot (omega arith) (omega arith) in
      checks (record { op = refl; at = e; fits = i.0; cell_fits = i.1 }))
      ▸ (λ k. uses (record { op = refl }))
      ▸ (λ k. clears (record { op = refl; at = k.rests refl; quiet = k.unhandled (omega arith); fits = k.fitted.clears refl }))
      ▸ (λ k.
      let e : phase m t ≡ idle = k.rests refl in
      retires (record {
        op = refl;
        at = e;
        some = omega (arith, k.fitted.retires refl);
        most = (k.fitted.retires refl).1;
        shorter = omega (arith, k.shorter refl, z.length);
        live = k.live refl;
        first = (z.line.rest e).0;
        bare = missed (cell m) a S.cells (k.unnamed refl);
      }))
      ▸ (λ k. advances a b c (k.advances refl))
      ▸ (λ k. delivers (record { op = refl }))
      ▸ (λ k. of_two (leb (handler m t) S.slots)
      (λ e. copies (record { op = refl; some = omega (arith, k.handling refl); most = leb-true (handler m t) S.slots e }))
      (λ e. counts (record { op = refl; last = omega (arith, leb-false (handler m t) S.slots e, z.handler) })))
      ▸ end) op (omega arith) h

pub performs : {S : Settings} {m : State} (s : Step) → Sound S m → Accepted S m s → Move S m s (perform S m s)
performs {S} {m} s h k = acts S m s.thread (h.threads s.thread k.thread) s.a s.b s.c s.op k.known k

-- an accepted step's number is 0
pub move_done : {S : Settings} {m : State} {s : Step} {r : Answer} → Move S m s r → r.number ≡ 0
unfolding allocate swap load reserve check use_slot clear retire deliver collect ping scan
move_done mv = elim mv as (λ r _. r.number ≡ 0) [
  | allocates _ ↦ refl
  | swaps _ ↦ refl
  | loads _ ↦ refl
  | reserves _ ↦ refl
  | checks _ ↦ refl
  | uses _ ↦ refl
  | clears _ ↦ refl
  | retires _ ↦ refl
  | collects _ ↦ refl
  | pings _ ↦ refl
  | waits _ ↦ refl
  | stays _ ↦ refl
  | scans _ ↦ refl
  | keeps _ ↦ refl
  | frees _ ↦ refl
  | delivers _ ↦ refl
  | copies _ ↦ refl
  | counts _ ↦ refl
]

-- the kinds of which each thread has a row, but pending, by their numbers
abbrev pub own : ℕ → Bool
own n = leb (tag Count) n && not (eqb n (tag Pending))

-- all writes of those kinds are to rows of thread t
abbrev pub Of : Bool → ℕ → ℕ → Type 0
Of true i t = i ≡ t
Of false i t = Unit {0}

abbrev pub AllOf : ℕ → List Write → Type 0
AllOf t [] = Unit {0}
AllOf t (z ∷ zs) = Of (own (tag z.kind)) z.row t × AllOf t zs

-- so the rows of another thread stay
pub other_row : {t a : ℕ} → t ≢ a → (k : Kind) → own (tag k) ≡ true → (j : ℕ) (zs : List Write) → AllOf t zs → (m : State) → puts m zs k a j ≡ m k a j
other_row n k o j [] h m = refl
other_row {t} {a} n k o j (z ∷ zs) h m =
    other_row n k o j zs h.1 (put m z.kind z.row z.place (cond z.on z.word (m z.kind z.row z.place)))
    ∙ elim (either (eqb (tag z.kind) (tag k))) [
      | fails e ↦ rw e
      | holds e ↦ elim (sep z.row a) [
        | diff f q ↦ rw (e, q)
        | same f q ↦ absurd (n (sym (of (own (tag z.kind)) (ap own (eqb-true (tag z.kind) (tag k) e) ∙ o) h.0) ∙ f))
      ]
    ]
  where
    of : (b : Bool) → b ≡ true → Of b z.row t → z.row ≡ t
    of true e x = x
    of false e x = absurd (mathlib.Core.Bool.false≢true e)

pub rows_own : {S : Settings} {m : State} {s : Step} {r : Answer} → Move S m s r → AllOf s.thread r.writes
unfolding allocate swap load reserve to_idle check use_slot clear retire deliver onward collect ping scan freed_on
rows_own {S} {m} {s} mv = elim mv as (λ r _. AllOf s.thread r.writes) [
  | allocates _ ↦ omega arith
  | swaps _ ↦ omega arith
  | loads _ ↦ omega arith
  | reserves _ ↦ omega arith
  | checks _ ↦ omega arith
  | uses _ ↦ omega arith
  | clears _ ↦ omega arith
  | retires _ ↦ omega arith
  | collects _ ↦ omega arith
  | pings _ ↦ omega arith
  | waits _ ↦ omega arith
  | stays _ ↦ omega arith
  | scans _ ↦ omega arith
  | keeps _ ↦ omega arith
  | frees _ ↦ omega arith
  | delivers _ ↦ omega arith
  | copies _ ↦ omega arith
  | counts _ ↦ omega arith
]
