-- The law of the machine: a step leaves an undamaged image undamaged, but the one that marks an empty slot.
use mathlib.Core.Path.{◌≡◌, refl, sym, ◌∙◌, fun_ext}
use mathlib.Core.Logic.{◌≢◌}
use mathlib.Core.Bool.{Bool, true, false, cond, not, ◌&&◌, not-not}
use mathlib.Core.List.{List}
use Prim.Native.Nat.{ℕ, suc, ◌+◌, ◌≤◌, ◌<◌}
use native.Mathlib.Decide.{ℕ_discrete}
use native.Mathlib.Omega.{arith}
use lib.ListN.{length}
use lib.Dec.{eqb, leb}
use borrow.Author.Tests.{eqb-true, eqb-false, eq-eqb, ne_eqb}
use Rattle.rules.specs.declared.Settings.{Settings}
use Rattle.rules.specs.Settings.{slot, all_slots, settings}
use Rattle.rules.specs.Phases.{idle, reserved, collecting, waiting, scanning, freeing, #check}
use Rattle.rules.specs.declared.Kind.{Kind}
use Rattle.rules.specs.declared.Kind.TheVariants.{Cell, Status, Private, Published, Held, Phase, U, V, W, Pending, Handler, Length, Entry, Scanned}
use Rattle.rules.specs.State.{State, cell, private, held, phase, u, v, w, list_length, entry, Write, Answer}
use Rattle.rules.specs.Image.{view, write_all}
use Rattle.rules.specs.Damaged.{right, undamaged, damaged}
use Rattle.rules.specs.Operations.{allocate, swap, load, reserve, to_idle, check, use_slot, clear, retire, deliver}
use Rattle.rules.specs.Advance.{onward, collect, ping, scan, freed_on}
use Rattle.rules.specs.declared.Step.{Step}
use Rattle.rules.specs.Replies.{refusal}
use Rattle.rules.specs.Step.{perform, marks_empty, step}
use Rattle.rules.proofs.Laws.{same, diff, sep, holds, fails, either, and_says, and_fails, tests}
use Rattle.rules.proofs.Limits.{Limits, in_row}
use Rattle.rules.proofs.Writes.{tag, put, puts, AllValid, stored_all, kept_settings, laid_kept}
use Rattle.rules.proofs.Sound.{Line, Thread, Sound, right_says, says_right, undamaged_says}
use Rattle.rules.proofs.Refused.{Accepted, refused_is, accepted_is, accepted_says}
use Rattle.rules.proofs.Rows.{Row, RowAt, thread_row, row_used}
use Rattle.rules.proofs.Moves.{own, rows_own, other_row, Move, allocates, swaps, loads, reserves, checks, uses, clears, retires, collects, pings, waits, stays, scans, keeps, frees, delivers, copies, counts, performs}
use Rattle.rules.proofs.Words.{most, good, small_kept, writes_valid}

-- rows: another line, and the ways on
module _ {S : Settings} {n p u v w : ℕ} {es : ℕ → ℕ} (r : Row S n p u v w es) where
  -- the same list, neither time in phase 7
  lined : {p' u' v' w' : ℕ} → p ≢ freeing → p' ≢ freeing → Line S n p' u' v' w' → Row S n p' u' v' w' es
  lined o o' l = record { full = λ _. r.full o; front = λ e. absurd (o' e); back = λ e. absurd (o' e); line = l }

  -- to the next item of N, or to phase p' with its first item
  onward_row : {p' : ℕ} (N : ℕ) → p ≢ freeing → Row S n p' 0 v w es → (u + 1 ≢ N → Line S n p (u + 1) v w)
      → Row S n (cond (eqb (u + 1) N) p' p) (cond (eqb (u + 1) N) 0 (u + 1)) v w es
  onward_row N o last next = elim (either (eqb (u + 1) N))
      [ holds e ↦ rw e last | fails e ↦ rw e (lined o o (next (eqb-false (u + 1) N e))) ]

  threads_row : {p' : ℕ} → Limits S → collecting ≤ p → p ≤ waiting → p' ≡ suc p
      → Row S n (cond (eqb (u + 1) S.threads) p' p) (cond (eqb (u + 1) S.threads) 0 (u + 1)) v w es
  threads_row l a b e =
      let i = r.line.thread a b in
      let o = r.line.list a in
      let f : 0 < all_slots S = omega (arith, in_row {i = 0} {j = 0} l.threads_low l.slots_low) in
      onward_row S.threads (omega arith) (lined (omega arith) (omega arith) (omega arith)) (λ q. omega arith)

  scan_row : p ≡ scanning
      → Row S n (cond (eqb (u + 1) (all_slots S)) freeing p) (cond (eqb (u + 1) (all_slots S)) 0 (u + 1)) v w es
  scan_row e =
      let i = r.line.word e in
      let o : 1 ≤ n = r.line.list (omega arith) in
      onward_row (all_slots S) (omega arith)
      (record { full = λ q. absurd (q refl); front = λ _ j q. absurd (omega arith); back = λ _ j _. r.full (omega arith) j; line = omega arith })
      (λ q. omega arith)

  -- after item u of the list, k of them kept, with entries es'
  freed_row : (k : ℕ) (es' : ℕ → ℕ) → p ≡ freeing → k ≤ u + 1 → ((i : ℕ) → i < k → es' i ≢ 0) → ((i : ℕ) → u < i → i < n → es' i ≢ 0)
      → Row S (cond (eqb (u + 1) n) k n) (cond (eqb (u + 1) n) idle p) (cond (eqb (u + 1) n) 0 (u + 1)) (cond (eqb (u + 1) n) 0 k) w es'
  freed_row k es' e l a b =
      let i = r.line.item e in
      elim (either (eqb (u + 1) n)) [
        | holds q ↦ rw q (record { full = λ _. a; front = λ z. absurd (omega arith); back = λ z. absurd (omega arith); line = omega arith })
        | fails q ↦
            let o = eqb-false (u + 1) n q in
            rw q (record { full = λ z. absurd (z e); front = λ _. a; back = λ _ j x y. b j (omega arith) y; line = omega arith })
      ]

-- entry j after x was put at i
nonzero : (m : State) (t i x j : ℕ) → (i ≡ j → x ≢ 0) → (i ≢ j → entry m t j ≢ 0) → entry (put m Entry t i x) t j ≢ 0
nonzero m t i x j a b = rw (eq-eqb t t refl) (elim (sep i j) [ same e q ↦ rw q (a e) | diff n q ↦ rw q (b n) ])

-- no mark is set beside a private slot of 0
abbrev Beside : Settings → State → Type 0
Beside S m = (x : ℕ) → x < all_slots S → held m x ≢ 0 → private m x ≢ 0

-- thread t's check marks its slot
abbrev marking : State → ℕ → Bool
marking m t = eqb (cell m (v m t)) (w m t) && not (eqb (w m t) 0)

-- and that slot is 0
abbrev marking_null : Settings → State → ℕ → Bool
marking_null S m t = marking m t && eqb (private m (slot S t (u m t))) 0

module _ (S : Settings) (m : State) (s : Step) (l : Limits S) (h : Sound S m) (b : s.thread < S.threads) (r : RowAt S m s.thread)
    (whole : s.op ≡ #check → marking_null S m s.thread ≡ false) where
  abbrev t : ℕ
  t = s.thread

  -- a mark of 0 is set
  unmarked : (y z : ℕ) → Beside S (put (put m Private y 0 z) Held y 0 0)
  unmarked y z x o = elim (sep y x) [ same _ q ↦ rw q (λ n. absurd (n refl)) | diff _ q ↦ rw q (h.beside x o) ]

  -- the phase and the list of thread t itself, and the marks
  effect : {a : Answer} → Move S m s a → (RowAt S (puts m a.writes) t) × Beside S (puts m a.writes)
  unfolding allocate swap load reserve to_idle check use_slot clear retire deliver onward collect ping scan freed_on
  effect (allocates _) = (r, h.beside)
  effect (swaps _) = (r, h.beside)
  effect (loads f) = (rw (eq-eqb t t refl) (lined r (omega arith) (omega arith) (omega (arith, h.cells s.b f.cell_fits))), h.beside)
  effect (reserves f) = (rw (eq-eqb t t refl) (lined r (omega arith) (omega arith) (omega arith)), unmarked (slot S t (u m t)) (w m t))
  effect (checks f) = (
    rw (eq-eqb t t refl) (lined r (omega arith) (omega arith) (omega arith)),
    λ x o. elim (sep (slot S t (u m t)) x) [
      | diff _ q ↦ rw q (h.beside x o)
      | same i q ↦ rw q (elim (either (marking m t))
          [ holds z ↦ rw (z, ← i) (λ _. eqb-false _ 0 ((and_fails _ _).0 (whole f.op) z)) | fails z ↦ rw (z, i) (h.beside x o) ])
    ],
  )
  effect (uses _) = (r, h.beside)
  effect (clears _) = (r, unmarked (slot S t s.a) 0)
  effect (retires f) =
      let e : phase m t ≡ idle = f.at in
      let longer : Row S (list_length m t + 1) (phase m t) (u m t) (v m t) (w m t) (entry (put m Entry t (list_length m t) s.a) t) = record {
        full = λ _ i o. nonzero m t _ s.a i (λ _. f.some) (λ n. r.full (omega arith) i (omega arith));
        front = λ o. absurd (omega arith);
        back = λ o. absurd (omega arith);
        line = omega (arith, r.line.rest e);
      } in (
        rw (eq-eqb t t refl) (elim (either (leb S.threshold (list_length m t + 1)))
            [ holds q ↦ rw q (lined longer {u' = 0} (omega arith) (omega arith) (omega (arith, l.threads_low, r.line.rest e))) | fails q ↦ rw q longer ]),
        h.beside,
      )
  effect (collects f) = (rw (eq-eqb t t refl) (threads_row r l (omega arith) (omega arith) (omega arith)), h.beside)
  effect (pings f) = (rw (eq-eqb t t refl) (threads_row r l (omega arith) (omega arith) (omega arith)), h.beside)
  effect (waits f) = (rw (eq-eqb t t refl) (threads_row r l (omega arith) (omega arith) (omega arith)), h.beside)
  effect (stays _) = (r, h.beside)
  effect (scans f) = (rw (eq-eqb t t refl) (scan_row r f.at), h.beside)
  effect (keeps f) = let e : phase m t ≡ freeing = f.at in (
    rw (eq-eqb t t refl) (freed_row r (v m t + 1) _ e (omega arith)
        (λ i o. nonzero (put m Entry t (u m t) 0) t (v m t) _ i (λ _. f.some)
        (λ n. nonzero m t (u m t) 0 i (λ q. absurd (omega arith)) (λ _. r.front e i (omega arith))))
        (λ i o o'. nonzero (put m Entry t (u m t) 0) t (v m t) _ i (λ q. absurd (omega arith))
        (λ _. nonzero m t (u m t) 0 i (λ q. absurd (omega arith)) (λ _. r.back e i (omega arith) o')))),
    h.beside,
  )
  effect (frees f) = let e : phase m t ≡ freeing = f.at in (
    rw (eq-eqb t t refl) (freed_row r (v m t) _ e (omega arith)
        (λ i o. nonzero m t (u m t) 0 i (λ q. absurd (omega arith)) (λ _. r.front e i o))
        (λ i o o'. nonzero m t (u m t) 0 i (λ q. absurd (omega arith)) (λ _. r.back e i (omega arith) o'))),
    h.beside,
  )
  effect (delivers _) = (r, h.beside)
  effect (copies _) = (r, h.beside)
  effect (counts _) = (r, h.beside)

  kept : {x : Answer} → Move S m s x → Sound S (puts m x.writes)
  kept {x = ans} d = record {
    cells = λ c o. small Cell c 0 (h.cells c o);
    privates = λ x o. small Private x 0 (h.privates x o);
    publisheds = λ x o. small Published x 0 (h.publisheds x o);
    entries = λ a i o o'. small Entry a i (h.entries a i o o');
    scanneds = λ a x o o'. small Scanned a x (h.scanneds a x o o');
    statuses = λ p o o'. small Status p 0 (h.statuses p o o');
    marks = λ x o. small Held x 0 (h.marks x o);
    beside = (effect d).1;
    threads = λ a o.
        let z : Thread S m a = h.threads a o in
        let r : RowAt S (puts m ans.writes) a = row a o in
        record {
          pending = small Pending a 0 z.pending;
          handler = small Handler a 0 z.handler;
          length = small Length a 0 z.length;
          used = λ i _. row_used r i;
          line = r.line;
        };
  }
    where
      small : (k : Kind) (i j : ℕ) → m k i j ≤ most S k (m k i j) → puts m ans.writes k i j ≤ most S k (puts m ans.writes k i j)
      small = small_kept S ans.writes m (good h s b d)

      row : (a : ℕ) → a < S.threads → RowAt S (puts m ans.writes) a
      row a o = elim (ℕ_discrete a t) [
        | yes e ↦ rw e (effect d).0
        | no n ↦
            let same : (k : Kind) → own (tag k) ≡ true → (j : ℕ) → puts m ans.writes k a j ≡ m k a j = λ k e j. other_row (λ z. n (sym z)) k e j ans.writes (rows_own d) m in
            rw (same Length refl 0, same Phase refl 0, same U refl 0, same V refl 0, same W refl 0, fun_ext (same Entry refl)) (thread_row (h.threads a o))
      ]

module _ (S : Settings) (m : State) (s : Step) (l : Limits S) (h : Sound S m) (e : refusal S m s ≡ 0) where
  -- the test of the exception, for an accepted check
  marks_is : s.op ≡ #check → marking_null S m s.thread ≡ marks_empty S m s
  unfolding marks_empty
  marks_is c = rw (e, c)

  -- the exception: the mark that it sets stands beside a private slot of 0
  marked : marks_empty S m s ≡ true → Sound S (puts m (perform S m s).writes) → ⊥
  unfolding marks_empty perform check to_idle
  marked y k =
      let t : ℕ = s.thread in
      let ((((_, o), i), n), z) = simp tests at y in
      let c : Accepted S m s = accepted_says S m s e in
      let p : phase m t ≡ reserved = c.checks o in
      let x : slot S t (u m t) < all_slots S = in_row c.thread ((h.threads t c.thread).line.slot (omega arith) (omega arith)).0 in
      (rw o at k).beside (slot S t (u m t)) x
      (rw (eq-eqb (slot S t (u m t)) _ refl, eq-eqb (cell m (v m t)) (w m t) i, ne_eqb (w m t) 0 n) (omega arith)) z

  pub right_kept : right S (puts m (perform S m s).writes) ≡ not (marks_empty S m s)
  right_kept =
      let o : s.thread < S.threads = (accepted_says S m s e).thread in
      elim (either (marks_empty S m s)) [
        | fails y ↦ rw y (says_right S (puts m (perform S m s).writes) (kept S m s l h o (thread_row (h.threads s.thread o)) (λ c. marks_is c ∙ y) (performs s h (accepted_says S m s e))))
        | holds y ↦ rw y (elim (either (right S (puts m (perform S m s).writes))) [ fails z ↦ z | holds z ↦ absurd (marked y (right_says S _ z)) ])
      ]

-- writes to an undamaged image leave its settings, its length and its counts: the words decide
pub undamaged_written : (I : List ℕ) (zs : List Write) → undamaged I ≡ true → AllValid (settings I) zs
    → undamaged (write_all (settings I) I zs) ≡ right (settings I) (puts (view (settings I) I) zs)
unfolding undamaged
undamaged_written I zs e g =
    let ((a, b), _) = simp and_says at e in
    rw (
      kept_settings (settings I) zs I g,
      a,
      laid_kept (settings I) zs I g b,
      stored_all (settings I) zs I g (omega (arith, (undamaged_says I e).0.long)),
    )

pub step_keeps : (I : List ℕ) (s : Step) → undamaged I ≡ true → damaged (step I s).image ≡ marks_empty (settings I) (view (settings I) I) s
unfolding step marks_empty
step_keeps I s e = rw e (elim (either (eqb (refusal S m s) 0)) [
  | fails q ↦ rw (refused_is S m s (eqb-false _ 0 q), e, q)
  | holds q ↦
      let r : refusal S m s ≡ 0 = eqb-true _ 0 q in
      rw (accepted_is S m s r, undamaged_written I (perform S m s).writes e (writes_valid S m s h r), right_kept S m s (undamaged_says I e).0.limits h r)
      (not-not (marks_empty S m s))
])
  where
    S : Settings
    S = settings I

    m : State
    m = view (settings I) I

    h : Sound (settings I) (view (settings I) I)
    h = (undamaged_says I e).1
