-- n different numbers that all stand among k words: n is at most k.
use mathlib.Core.Path.{◌≡◌, sym, ◌∙◌}
use mathlib.Core.Logic.{◌≢◌}
use mathlib.Core.Bool.{cond}
use Prim.Native.Nat.{ℕ, zero, suc, ◌≤◌, ◌<◌}
use native.Mathlib.Omega.{arith}
use lib.Dec.{eqb}
use borrow.Author.Tests.{eq-eqb}
use Rattle.rules.proofs.Laws.{same, diff, sep}
use Rattle.rules.proofs.Moves.{Among, among}

-- the words without the one at place x, the last one put there
abbrev without : (ℕ → ℕ) → (k x : ℕ) → ℕ → ℕ
without w k x y = cond (eqb x y) (w k) (w y)

still_among : {w : ℕ → ℕ} {k x y : ℕ} → w x ≢ y → x < suc k → Among w (suc k) y → Among (without w k x) k y
still_among {w} {k} {x} n l (among i j e) = elim (sep x i) [
  | same f _ ↦ absurd (n (rw f e))
  | diff f q ↦ elim (sep i k)
      [ same g _ ↦ among x (omega arith) (rw (eq-eqb x x (omega arith)) (rw g at e)) | diff g _ ↦ among i (omega arith) (rw q e) ]
]

abbrev Different : (ℕ → ℕ) → ℕ → Type 0
Different e n = (i j : ℕ) → i < n → j < n → e i ≡ e j → i ≡ j

pub pigeonhole : (k n : ℕ) (e w : ℕ → ℕ) → ((i : ℕ) → i < n → Among w k (e i)) → Different e n → n ≤ k
pigeonhole zero zero e w f d = omega arith
pigeonhole zero (suc n) e w f d = elim (f n (omega arith)) [ among x l _ ↦ absurd (omega arith) ]
pigeonhole (suc k) zero e w f d = omega arith
pigeonhole (suc k) (suc n) e w f d = go (f n (omega arith)) (pigeonhole k n e)
  where
    go : Among w (suc k) (e n) → ((w : ℕ → ℕ) → ((i : ℕ) → i < n → Among w k (e i)) → Different e n → n ≤ k) → suc n ≤ suc k
    go (among x l y) less =
        let h : n ≤ k = less (without w k x)
        (λ i j. still_among (λ z. absurd (omega (arith, d i n (omega arith) (omega arith) (sym z ∙ y)))) l (f i (omega arith)))
        (λ i j p q. d i j (omega arith) (omega arith)) in
        omega arith
