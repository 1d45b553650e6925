-- The lowest free record as a search finds it: none is free, or the first after those that aren't.
use mathlib.Core.Path.{◌≡◌, refl}
use mathlib.Core.Logic.{◌≢◌, ⊎_elim}
use Prim.Native.Nat.{ℕ, zero, suc, ◌+◌, ◌<◌}
use native.Mathlib.Nat.{eq-or-lt_of_le, le_of_suc-le-suc, not-suc-le-zero}
use native.Mathlib.Numerals.{add-one}
use native.Mathlib.Omega.{arith}
use borrow.Author.Tests.{eq-eqb, ne_eqb}
use Rattle.rules.specs.State.{State, status}
use Rattle.rules.specs.Operations.{lowest_free}

-- none of the first n records is free
abbrev pub Taken : State → ℕ → Type 0
Taken m n = (k : ℕ) → k < n → status m (k + 1) ≢ 0

module _ (m : State) where
  pub free_miss : (n : ℕ) → Taken m n → lowest_free m n ≡ 0
  unfolding lowest_free
  free_miss zero h = refl
  free_miss (suc n) h =
      rw (free_miss n (λ k l. h k (omega arith)), ne_eqb (status m (suc n)) 0 (rw add-one at (h n (omega arith))))

  -- and it stays the lowest
  pub free_hit : (i n : ℕ) → i < n → Taken m i → status m (i + 1) ≡ 0 → lowest_free m n ≡ i + 1
  unfolding lowest_free
  free_hit i zero l h e = absurd (not-suc-le-zero l)
  free_hit i (suc n) l h e =
      ⊎_elim
      (λ s. rw (← s, free_miss i h, eq-eqb (status m (suc i)) 0 (rw add-one at e)) (rw (add-one i)))
      (λ q. rw (free_hit i n q h e, ne_eqb (i + 1) 0 (λ z. omega arith)))
      (eq-or-lt_of_le (le_of_suc-le-suc l))
