-- A run of tests as a loop makes it, one more a turn; and runs of which only parts can fail.
use mathlib.Core.Path.{◌≡◌, refl, sym, ap, ◌∙◌}
use mathlib.Core.Bool.{Bool, true, false, not, ◌&&◌, ◌||◌, and-true}
use Prim.Native.Nat.{ℕ, zero, suc, ◌+◌, ◌-◌, ◌≤◌, ◌<◌}
use native.Mathlib.Omega.{arith}
use lib.Dec.{leb, ltb}
use borrow.Author.Tests.{leb-true, leb-false, lt-ltb, le-ltb}
use Rattle.rules.specs.Tests.{all}
use Rattle.rules.proofs.Laws.{holds, fails, either, all_none, all_more, all_sum, all_same, all_yes}

-- a loop's verdict where it begins, after one more turn, and where it ends
module _ (f : ℕ → Bool) where
  pub begins : true ≡ all 0 f
  begins = sym (all_none f)

  pub goes_on : (i : ℕ) {ok b : Bool} → ok ≡ all i f → b ≡ f i → (ok && b) ≡ all (i + 1) f
  goes_on i e d = rw (e, d) (sym (all_more f i))

  pub ends : (i n : ℕ) {ok : Bool} → i ≤ n → n ≤ i → ok ≡ all i f → ok ≡ all n f
  ends i n p q e =
      let s : i ≡ n = omega arith in
      e ∙ ap (λ (k : ℕ). all k f) s

-- what isn't beyond b is at most b
pub not_beyond : (x b : ℕ) → not (ltb b x) ≡ leb x b
not_beyond x b = elim (either (leb x b)) [
  | holds e ↦ rw (e, le-ltb b x (leb-true x b e))
  | fails e ↦ rw (e, lt-ltb b x (leb-false x b e))
]

-- neither of two words is beyond b, nor was one before
pub none_beyond : (k : Bool) (x y b : ℕ) → not (k || ltb b x || ltb b y) ≡ (not k && (leb x b && leb y b))
none_beyond true x y b = refl
none_beyond false x y b = rw (← not_beyond x b, ← not_beyond y b) (neither (ltb b x) (ltb b y))
  where
    neither : (p q : Bool) → not (p || q) ≡ (not p && not q)
    neither true q = refl
    neither false q = refl

-- a run of two tests at once, and so a run by its halves side by side
pub all_both : (f g : ℕ → Bool) (n : ℕ) → all n (λ i. f i && g i) ≡ (all n f && all n g)
unfolding all
all_both f g zero = refl
all_both f g (suc n) = rw (all_both f g n) (crossed (all n f) (all n g) (f n) (g n))
  where
    crossed : (a b c d : Bool) → ((a && b) && (c && d)) ≡ ((a && c) && (b && d))
    crossed true true c d = refl
    crossed true false true d = refl
    crossed true false false d = refl
    crossed false b c d = refl

pub all_halves : (f : ℕ → Bool) (h : ℕ) → all h (λ i. f i && f (h + i)) ≡ all (h + h) f
all_halves f h = all_both f (λ i. f (h + i)) h ∙ sym (all_sum f h h)

-- past a no test fails
pub front : {f g : ℕ → Bool} (a n : ℕ) → a ≤ n → ((i : ℕ) → i < a → f i ≡ g i) → ((i : ℕ) → a ≤ i → i < n → f i ≡ true) → all n f ≡ all a g
front {f} {g} a n h same rest =
    let s : n ≡ a + (n - a) = omega arith in
    let x : all (n - a) (λ j. f (a + j)) ≡ true = all_yes (λ j. f (a + j)) (n - a) (λ j l. rest (a + j) (omega arith) (omega arith)) in
    let y : all a f ≡ all a g = all_same a same in
    ap (λ (k : ℕ). all k f) s ∙ all_sum f a (n - a) ∙ rw (x, y) (and-true (all a g))

-- tests can fail below v, and from u to n
pub two_runs : {f g : ℕ → Bool} (v u n r : ℕ) → v ≤ u → u ≤ n → n ≤ r → ((i : ℕ) → i < v → f i ≡ g i) → ((i : ℕ) → v ≤ i → i < u → f i ≡ true) → ((i : ℕ) → u ≤ i → i < n → f i ≡ g i) → ((i : ℕ) → n ≤ i → i < r → f i ≡ true) → all r f ≡ (all v g && all (n - u) (λ j. g (u + j)))
two_runs {f} {g} v u n r vu un nr low gap high rest =
    let s : r ≡ u + (r - u) = omega arith in
    let a : all u f ≡ all v g = front v u vu low gap in
    let b : all (r - u) (λ j. f (u + j)) ≡ all (n - u) (λ j. g (u + j)) =
    front (n - u) (r - u) (omega arith) (λ j l. high (u + j) (omega arith) (omega arith)) (λ j l m. rest (u + j) (omega arith) (omega arith)) in
    ap (λ (k : ℕ). all k f) s ∙ all_sum f u (r - u) ∙ rw (a, b)

-- two tests whose conjunction is a third
pub joined : {a b x y z : Bool} → a ≡ x → b ≡ y → z ≡ (x && y) → (a && b) ≡ z
joined p q e = rw (p, q) (sym e)
