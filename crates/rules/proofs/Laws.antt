-- Laws of tests, and of tests over several words: what code and theorems cite in place of the definitions' text.
use mathlib.Core.Path.{◌≡◌, refl, sym, ap, ◌∙◌}
use mathlib.Core.Bool.{Bool, true, false, cond, not, ◌&&◌, ◌||◌, true≢false, false≢true}
use mathlib.Core.Logic.{◌≢◌, ◌↔◌, ◌⊎◌, inl, inr, ⊎_elim}
use Prim.Native.Nat.{ℕ, zero, suc, ◌+◌, ◌*◌, ◌≤◌, ◌<◌}
use native.Mathlib.Nat.{eq-or-lt_of_le, le_of_suc-le-suc, not-suc-le-zero, add_assoc, suc-mul}
use native.Mathlib.Numerals.{add-one}
use native.Mathlib.Decide.{ℕ_discrete}
use native.Mathlib.Omega.{arith}
use lib.Dec.{eqb, leb}
use borrow.Author.Tests.{leb-true, leb-false, eqb-true, eqb-false, le-leb, lt-leb, eq-eqb, ne_eqb}
use Rattle.rules.specs.Tests.{all, some}

-- what a conjunction says, test by test
pub both : (a b : Bool) → (a && b) ≡ true → (a ≡ true) × (b ≡ true)
both true true e = (refl, refl)
both true false e = (refl, e)
both false b e = (e, absurd (mathlib.Core.Bool.false≢true e))

pub three : (a b c : Bool) → (a && b && c) ≡ true → (a ≡ true) × (b ≡ true) × (c ≡ true)
three a b c e =
    let p = both (a && b) c e in
    let q = both a b p.0 in
    (q.0, q.1, p.1)

pub four : (a b c d : Bool) → (a && b && c && d) ≡ true → (a ≡ true) × (b ≡ true) × (c ≡ true) × (d ≡ true)
four a b c d e =
    let p = both (a && b && c) d e in
    let q = three a b c p.0 in
    (q.0, q.1, q.2, p.1)

pub five : (a b c d f : Bool) → (a && b && c && d && f) ≡ true → (a ≡ true) × (b ≡ true) × (c ≡ true) × (d ≡ true) × (f ≡ true)
five a b c d f e =
    let p = both (a && b && c && d) f e in
    let q = four a b c d p.0 in
    (q.0, q.1, q.2, q.3, p.1)

pub six : (a b c d f g : Bool) → (a && b && c && d && f && g) ≡ true
    → (a ≡ true) × (b ≡ true) × (c ≡ true) × (d ≡ true) × (f ≡ true) × (g ≡ true)
six a b c d f g e =
    let p = both (a && b && c && d && f) g e in
    let q = five a b c d f p.0 in
    (q.0, q.1, q.2, q.3, q.4, p.1)

pub both_yes : {a b : Bool} → a ≡ true → b ≡ true → (a && b) ≡ true
both_yes p q = rw (p, q)

pub both_no : (a : Bool) {b : Bool} → b ≡ false → (a && b) ≡ false
both_no true e = e
both_no false e = refl

-- two numbers are the same or not, with the test's result
pub data Sep (i j : ℕ) : Type 0 where
  same : i ≡ j → eqb i j ≡ true → Sep i j
  diff : i ≢ j → eqb i j ≡ false → Sep i j

pub sep : (i j : ℕ) → Sep i j
sep i j = go (ℕ_discrete i j)
  where
    go : Dec (i ≡ j) → Sep i j
    go (yes e) = same e (eq-eqb i j e)
    go (no n) = diff n (ne_eqb i j n)

-- a test is true or false
pub data Either (b : Bool) : Type 0 where
  holds : b ≡ true → Either b
  fails : b ≡ false → Either b

pub either : (b : Bool) → Either b
either true = holds refl
either false = fails refl

module _ (f : ℕ → Bool) where
  pub all_at : (n : ℕ) {i : ℕ} → all n f ≡ true → i < n → f i ≡ true
  unfolding all
  all_at zero e h = absurd (not-suc-le-zero h)
  all_at (suc n) e h =
      ⊎_elim (λ s. ap f s ∙ (both (all n f) (f n) e).1) (λ l. all_at n (both (all n f) (f n) e).0 l)
      (eq-or-lt_of_le (le_of_suc-le-suc h))

  pub all_yes : (n : ℕ) → ((i : ℕ) → i < n → f i ≡ true) → all n f ≡ true
  unfolding all
  all_yes zero h = refl
  all_yes (suc n) h = both_yes (all_yes n (λ i l. h i (omega arith))) (h n (omega arith))

  pub all_no : (n : ℕ) {i : ℕ} → i < n → f i ≡ false → all n f ≡ false
  unfolding all
  all_no zero h e = absurd (not-suc-le-zero h)
  all_no (suc n) h e =
      ⊎_elim (λ s. both_no (all n f) (ap f (sym s) ∙ e)) (λ l. rw (all_no n l e)) (eq-or-lt_of_le (le_of_suc-le-suc h))

  -- for a loop: none passed yet, one more
  pub all_none : all 0 f ≡ true
  unfolding all
  all_none = refl

  pub all_more : (i : ℕ) → all (i + 1) f ≡ (all i f && f i)
  unfolding all
  all_more i = rw (add-one i)

  -- two runs, one after the other
  pub all_sum : (n k : ℕ) → all (n + k) f ≡ (all n f && all k (λ j. f (n + j)))
  unfolding all
  all_sum n zero = rw (native.Mathlib.Nat.add-zero n) (sym (mathlib.Core.Bool.and-true (all n f)))
  all_sum n (suc k) = rw (native.Mathlib.Nat.add-suc n k, all_sum n k) (mathlib.Core.Bool.and_assoc (all n f) _ _)

  -- row after row
  pub all_rows : (m n : ℕ) → all (m * n) f ≡ all m (λ i. all n (λ j. f (i * n + j)))
  unfolding all
  all_rows zero n = rw (native.Mathlib.Nat.zero-mul n)
  all_rows (suc m) n = rw (suc-mul m n, all_sum (m * n) n, all_rows m n)

  pub some_none : some 0 f ≡ false
  unfolding some
  some_none = refl

  pub some_more : (i : ℕ) → some (i + 1) f ≡ (some i f || f i)
  unfolding some
  some_more i = rw (add-one i)

-- two runs of tests that agree
pub all_same : {f g : ℕ → Bool} (n : ℕ) → ((i : ℕ) → i < n → f i ≡ g i) → all n f ≡ all n g
unfolding all
all_same zero h = refl
all_same (suc n) h = rw (all_same n (λ i l. h i (omega arith)), h n (omega arith))

pub some_same : {f g : ℕ → Bool} (n : ℕ) → ((i : ℕ) → i < n → f i ≡ g i) → some n f ≡ some n g
unfolding some
some_same zero h = refl
some_same (suc n) h = rw (some_same n (λ i l. h i (omega arith)), h n (omega arith))

-- a case for each number from k on, below n
infixr 5 ◌▸◌
pub data Cases (P : ℕ → Type 0) (n : ℕ) : ℕ → Type 0 where
  end : Cases P n n
  ◌▸◌ : {k : ℕ} → P k → Cases P n (suc k) → Cases P n k

pub case_of : {P : ℕ → Type 0} {n k : ℕ} → Cases P n k → (i : ℕ) → k ≤ i → i < n → P i
case_of end i l h = absurd (omega arith)
case_of {k = k} (c ▸ cs) i l h = elim (ℕ_discrete i k) [ yes e ↦ rw e c | no n ↦ case_of cs i (omega arith) h ]

-- what a test says where it holds, and where it fails, both ways: `simp tests` reads a test as its facts
pub and_says : (a b : Bool) → ((a && b) ≡ true) ↔ ((a ≡ true) × (b ≡ true))
and_says a b = (both a b, λ q. both_yes q.0 q.1)

pub and_fails : (a b : Bool) → ((a && b) ≡ false) ↔ (a ≡ true → b ≡ false)
and_fails true b = (λ e _. e, λ h. h refl)
and_fails false b = (λ _ e. absurd (false≢true e), λ _. refl)

pub or_says : (a b : Bool) → ((a || b) ≡ true) ↔ (a ≡ false → b ≡ true)
or_says true b = (λ _ e. absurd (true≢false e), λ _. refl)
or_says false b = (λ e _. e, λ h. h refl)

pub or_fails : (a b : Bool) → ((a || b) ≡ false) ↔ ((a ≡ false) × (b ≡ false))
or_fails true b = (λ e. absurd (true≢false e), λ q. q.0)
or_fails false b = (λ e. (refl, e), λ q. q.1)

pub not_says : (a : Bool) → (not a ≡ true) ↔ (a ≡ false)
not_says true = (sym, sym)
not_says false = (λ _. refl, λ _. refl)

pub not_fails : (a : Bool) → (not a ≡ false) ↔ (a ≡ true)
not_fails true = (λ _. refl, λ _. refl)
not_fails false = (sym, sym)

pub leb_says : (a b : ℕ) → (leb a b ≡ true) ↔ (a ≤ b)
leb_says a b = (leb-true a b, le-leb a b)

pub leb_fails : (a b : ℕ) → (leb a b ≡ false) ↔ (b < a)
leb_fails a b = (leb-false a b, lt-leb a b)

pub eqb_says : (a b : ℕ) → (eqb a b ≡ true) ↔ (a ≡ b)
eqb_says a b = (eqb-true a b, eq-eqb a b)

pub eqb_fails : (a b : ℕ) → (eqb a b ≡ false) ↔ (a ≢ b)
eqb_fails a b = (eqb-false a b, ne_eqb a b)

pub all_says : (n : ℕ) (f : ℕ → Bool) → (all n f ≡ true) ↔ ((i : ℕ) → i < n → f i ≡ true)
all_says n f = (λ e i h. all_at f n e h, all_yes f n)

pub ruleset tests = (and_says, and_fails, or_says, or_fails, not_says, not_fails, leb_says, leb_fails, eqb_says, eqb_fails, all_says)
