-- A loop over a section's words is a test over the state: where a row holds one kind of word alone, column after column.
use mathlib.Core.Path.{◌≡◌, sym, ap, ◌∙◌}
use mathlib.Core.Bool.{Bool}
use mathlib.Core.List.{List}
use Prim.Native.Nat.{ℕ, ◌+◌, ◌*◌, ◌-◌, ◌<◌}
use native.Mathlib.Nat.{mul-one, add-zero}
use native.Mathlib.Omega.{arith}
use lib.ListN.{get_or}
use Rattle.rules.specs.declared.Settings.{Settings}
use Rattle.rules.specs.Tests.{all}
use Rattle.rules.specs.declared.Kind.{Kind}
use Rattle.rules.specs.Image.{size, start, lay, address, within, view}
use Rattle.rules.proofs.Laws.{all_none, all_more, all_rows, all_same}
use Rattle.rules.proofs.Places.{Valid, read, fitting}

-- a row holds words of the kind alone
pub record Plain (S : Settings) (k : Kind) : Type 0 where
  pub first : (lay S k).offset ≡ 0
  pub whole : (lay S k).span ≡ (lay S k).width

module _ (S : Settings) (I : List ℕ) (k : Kind) (h : Plain S k) where
  -- a word of row n, the i-th of the section
  pub word_at : (n i j : ℕ) → n ≡ (lay S k).from + i → i < (lay S k).rows → j < (lay S k).width
      → view S I k n j ≡ get_or I (start S (lay S k).section + 1 + (i * (lay S k).width + j)) 0
  unfolding address within
  word_at n i j e p q =
      let v : Valid S k n j = record { low = omega (arith, e); high = omega (arith, e); place = omega (arith, h.whole) } in
      let r : n - (lay S k).from ≡ i = omega (arith, e) in
      let o : (lay S k).offset + j ≡ j = omega (arith, h.first) in
      read S I k n j v ∙ rw (r, o)

  pub column : (f : ℕ → Bool) (at : ℕ → ℕ) → ((i : ℕ) → at i ≡ (lay S k).from + i)
      → all (size S (lay S k).section) (λ p. f (get_or I (start S (lay S k).section + 1 + p) 0))
      ≡ all (lay S k).rows (λ i. all (lay S k).width (λ j. f (view S I k (at i) j)))
  column f at e =
      rw (fitting S k).rows
      (all_rows (λ p. f (get_or I (start S (lay S k).section + 1 + p) 0)) (lay S k).rows (lay S k).width
      ∙ all_same (lay S k).rows (λ i p. all_same (lay S k).width (λ j q. ap f (sym (word_at (at i) i j (e i) p q)))))

-- a row of one word
pub only : (f : ℕ → Bool) → all 1 f ≡ f 0
only f = all_more f 0 ∙ rw (all_none f)

module _ (S : Settings) (I : List ℕ) (k : Kind) (h : Plain S k) (w : (lay S k).width ≡ 1) where
  pub one_word_at : (n i : ℕ) → n ≡ (lay S k).from + i → i < (lay S k).rows
      → view S I k n 0 ≡ get_or I (start S (lay S k).section + 1 + i) 0
  one_word_at n i e p =
      let s : i * (lay S k).width + 0 ≡ i = rw w (rw (mul-one i) (add-zero i)) in
      word_at S I k h n i 0 e p (omega (arith, w)) ∙ rw s

  pub narrow : (f : ℕ → Bool) (at : ℕ → ℕ) → ((i : ℕ) → at i ≡ (lay S k).from + i)
      → all (size S (lay S k).section) (λ p. f (get_or I (start S (lay S k).section + 1 + p) 0))
      ≡ all (lay S k).rows (λ i. f (view S I k (at i) 0))
  narrow f at e =
      column S I k h f at e
      ∙ all_same (lay S k).rows (λ i p. rw w (only (λ j. f (view S I k (at i) j))))

-- how many words a section of such rows has
pub rows_are : (S : Settings) (k : Kind) → (lay S k).width ≡ 1 → size S (lay S k).section ≡ (lay S k).rows
rows_are S k w = (fitting S k).rows ∙ rw w (mul-one (lay S k).rows)
