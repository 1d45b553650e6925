-- A thread's phase and list as one row of words: what an undamaged image's test of it says, and back.
use mathlib.Core.Path.{◌≡◌}
use mathlib.Core.Logic.{◌≢◌}
use mathlib.Core.Bool.{true, or-true}
use Prim.Native.Nat.{ℕ, ◌≤◌, ◌<◌}
use native.Mathlib.Omega.{arith}
use lib.Dec.{ltb}
use borrow.Author.Tests.{ltb-true, eq-eqb, ne_eqb, le-leb, lt-ltb}
use Rattle.rules.specs.declared.Settings.{Settings}
use Rattle.rules.specs.Phases.{freeing}
use Rattle.rules.specs.State.{State, phase, u, v, w, list_length, entry}
use Rattle.rules.specs.Damaged.{in_use}
use Rattle.rules.proofs.Laws.{same, diff, sep, holds, fails, either, tests}
use Rattle.rules.proofs.Sound.{Line, Thread}

-- a thread's phase and list, by its words: n entries, in phase 7 those below v and from u on
pub record Row (S : Settings) (n p u v w : ℕ) (es : ℕ → ℕ) : Type 0 where
  pub full : p ≢ freeing → (i : ℕ) → i < n → es i ≢ 0
  pub front : p ≡ freeing → (i : ℕ) → i < v → es i ≢ 0
  pub back : p ≡ freeing → (i : ℕ) → u ≤ i → i < n → es i ≢ 0
  pub line : Line S n p u v w

-- thread t's in state m
abbrev pub RowAt : Settings → State → ℕ → Type 0
RowAt S m t = Row S (list_length m t) (phase m t) (u m t) (v m t) (w m t) (entry m t)

-- both ways between a row and the test of what is in use
pub thread_row : {S : Settings} {m : State} {t : ℕ} → Thread S m t → RowAt S m t
unfolding in_use
thread_row {S} {m} {t} z = record {
  full = λ n i h. z.used i (omega arith) (rw (ne_eqb (phase m t) freeing n) (lt-ltb i (list_length m t) h));
  front = λ e i h. z.used i (omega (arith, z.line.item e)) (rw (eq-eqb (phase m t) freeing e, lt-ltb i (v m t) h));
  back = λ e i l h. z.used i (omega arith)
      (rw (eq-eqb (phase m t) freeing e, le-leb (u m t) i l, lt-ltb i (list_length m t) h) (or-true (ltb i (v m t))));
  line = z.line;
}

pub row_used : {S : Settings} {n p u v w : ℕ} {es : ℕ → ℕ} → Row S n p u v w es → (i : ℕ) → in_use n p u v i ≡ true → es i ≢ 0
unfolding in_use
row_used {p = p} {v = v} r i e = elim (sep p freeing) [
  | diff n q ↦ r.full n i (ltb-true _ _ (rw q at e))
  | same o q ↦ elim (either (ltb i v)) [
    | holds h ↦ r.front o i (ltb-true _ _ h)
    | fails h ↦ let z = simp tests at (rw h at (rw q at e)) in r.back o i z.0 z.1
  ]
]
