-- What is known of the state of an undamaged image, by name: what the tests of Damaged say, read as facts.
use mathlib.Core.Path.{◌≡◌, refl}
use mathlib.Core.Logic.{◌≢◌}
use mathlib.Core.Bool.{true, or-false}
use mathlib.Core.List.{List}
use Prim.Native.Nat.{ℕ, ◌+◌, ◌-◌, ◌≤◌, ◌<◌}
use native.Mathlib.Omega.{arith}
use Rattle.rules.specs.declared.Settings.{Settings}
use Rattle.rules.specs.Settings.{all_slots, room, settings}
use Rattle.rules.specs.Phases.{phases, idle, loaded, reserved, collecting, waiting, scanning, freeing}
use Rattle.rules.specs.State.{State, cell, status, private, published, held, phase, u, v, w, pending, handler, list_length, entry, scanned}
use Rattle.rules.specs.Image.{view}
use Rattle.rules.specs.Damaged.{records_right, statuses_right, marks_right, in_use, entries_right, phase_line, thread_right, right, undamaged}
use Rattle.rules.proofs.Laws.{end, ◌▸◌, case_of, and_says, leb_says, eqb_says, tests}
use Rattle.rules.proofs.Shaped.{Shaped, shaped_says}

-- the phase line, by phase; n is the list's length
pub record Line (S : Settings) (n p u v w : ℕ) : Type 0 where
  pub known : p < phases
  pub rest : p ≡ idle → (u ≡ 0) × (v ≡ 0) × (w ≡ 0)
  pub slot : loaded ≤ p → p ≤ reserved → (u < S.slots) × (v < S.cells) × (w ≤ S.records)
  pub thread : collecting ≤ p → p ≤ waiting → (u < S.threads) × (v ≡ 0) × (w ≡ 0)
  pub word : p ≡ scanning → (u < all_slots S) × (v ≡ 0) × (w ≡ 0)
  pub item : p ≡ freeing → (u < n) × (v ≤ u) × (w ≡ 0)
  pub list : collecting ≤ p → 1 ≤ n

pub record Thread (S : Settings) (m : State) (t : ℕ) : Type 0 where
  pub pending : pending m t ≤ 1
  pub handler : handler m t ≤ S.slots + 1
  pub length : list_length m t ≤ room S
  pub used : (i : ℕ) → i < room S → in_use (list_length m t) (phase m t) (u m t) (v m t) i ≡ true → entry m t i ≢ 0
  pub line : Line S (list_length m t) (phase m t) (u m t) (v m t) (w m t)

pub record Sound (S : Settings) (m : State) : Type 0 where
  pub cells : (c : ℕ) → c < S.cells → cell m c ≤ S.records
  pub privates : (x : ℕ) → x < all_slots S → private m x ≤ S.records
  pub publisheds : (x : ℕ) → x < all_slots S → published m x ≤ S.records
  pub entries : (t i : ℕ) → t < S.threads → i < room S → entry m t i ≤ S.records
  pub scanneds : (t x : ℕ) → t < S.threads → x < all_slots S → scanned m t x ≤ S.records
  pub statuses : (p : ℕ) → 1 ≤ p → p ≤ S.records → status m p ≤ 2
  pub marks : (x : ℕ) → x < all_slots S → held m x ≤ 1
  pub beside : (x : ℕ) → x < all_slots S → held m x ≢ 0 → private m x ≢ 0
  pub threads : (t : ℕ) → t < S.threads → Thread S m t

-- of a phase line only one line is left where the phase is a numeral
ruleset one_line = (or-false, and_says, leb_says, eqb_says)

module _ (S : Settings) (n u v w : ℕ) where
  line_says : (p : ℕ) → p < phases → phase_line S n p u v w ≡ true → Line S n p u v w
  unfolding phase_line
  line_says p h = case_of {P = λ p. phase_line S n p u v w ≡ true → Line S n p u v w}
      ((λ e. omega (arith, simp one_line at e)) ▸ (λ e. omega (arith, simp one_line at e)) ▸ (λ e. omega (arith, simp one_line at e))
      ▸ (λ e. omega (arith, simp one_line at e)) ▸ (λ e. omega (arith, simp one_line at e)) ▸ (λ e. omega (arith, simp one_line at e))
      ▸ (λ e. omega (arith, simp one_line at e)) ▸ (λ e. omega (arith, simp one_line at e)) ▸ end) p (omega arith) h

  says_line : (p : ℕ) → Line S n p u v w → phase_line S n p u v w ≡ true
  unfolding phase_line
  says_line p l = case_of {P = λ p. Line S n p u v w → phase_line S n p u v w ≡ true}
      ((λ l. simp one_line (omega (arith, l.rest refl)))
      ▸ (λ l. simp one_line (omega (arith, l.slot (omega arith) (omega arith))))
      ▸ (λ l. simp one_line (omega (arith, l.slot (omega arith) (omega arith))))
      ▸ (λ l. simp one_line (omega (arith, l.list (omega arith), l.thread (omega arith) (omega arith))))
      ▸ (λ l. simp one_line (omega (arith, l.list (omega arith), l.thread (omega arith) (omega arith))))
      ▸ (λ l. simp one_line (omega (arith, l.list (omega arith), l.thread (omega arith) (omega arith))))
      ▸ (λ l. simp one_line (omega (arith, l.list (omega arith), l.word refl)))
      ▸ (λ l. simp one_line (omega (arith, l.list (omega arith), l.item refl)))
      ▸ end) p (omega arith) l.known l

module _ (S : Settings) (m : State) where
  pub right_says : right S m ≡ true → Sound S m
  unfolding right records_right statuses_right marks_right thread_right entries_right
  right_says e =
      let q = simp tests at e in
      let r = q.0.0.0 in
      record {
        cells = r.0.0.0.0;
        privates = r.0.0.0.1;
        publisheds = r.0.0.1;
        entries = λ t i h l. r.0.1 t h i l;
        scanneds = λ t x h l. r.1 t h x l;
        statuses = λ p l h. let o : p ≡ p - 1 + 1 = omega arith in rw o (q.0.0.1 (p - 1) (omega arith));
        marks = q.0.1.0;
        beside = q.0.1.1;
        threads = λ t h.
            let z = q.1 t h in
            record {
              pending = z.0.0.0.0.0;
              handler = z.0.0.0.0.1;
              length = z.0.0.0.1;
              used = z.0.0.1;
              line = line_says S (list_length m t) (u m t) (v m t) (w m t) (phase m t) z.0.1 z.1;
            };
      }

  pub says_right : Sound S m → right S m ≡ true
  unfolding right records_right statuses_right marks_right thread_right entries_right
  says_right s = simp tests (
    (
      (
        ((((s.cells, s.privates), s.publisheds), λ t h i l. s.entries t i h l), λ t h x l. s.scanneds t x h l),
        λ i h. s.statuses (i + 1) (omega arith) (omega arith),
      ),
      (s.marks, s.beside),
    ),
    λ t h.
        let z : Thread S m t = s.threads t h in (
          ((((z.pending, z.handler), z.length), z.used), z.line.known),
          says_line S (list_length m t) (u m t) (v m t) (w m t) (phase m t) z.line,
        ),
  )

pub undamaged_says : (I : List ℕ) → undamaged I ≡ true → Shaped I × Sound (settings I) (view (settings I) I)
unfolding undamaged
undamaged_says I e =
    let q = simp and_says at e in
    (shaped_says I q.0.0 q.0.1, right_says (settings I) (view (settings I) I) q.1)
