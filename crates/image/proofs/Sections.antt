-- Sections one after another, each inside an image as long as its settings give; starts and counts as numbers that fit.
use mathlib.Core.Path.{◌≡◌, refl, sym, ap, ◌∙◌}
use mathlib.Core.List.{List}
use Prim.Native.Nat.{ℕ, ◌+◌, ◌*◌, ◌≤◌, ◌<◌}
use native.Mathlib.Numerals.{add-one}
use native.Mathlib.Omega.{arith}
use lib.ListN.{length, get_or, set}
use lib.Seq.{get_or-set_same, get_or-set_other}
use Rattle.rules.specs.declared.Settings.{Settings}
use Rattle.rules.specs.Settings.{settings, room}
use Rattle.rules.specs.Image.{sections, sizes, size, start, words}
use Rattle.rules.proofs.Limits.{Limits, start_next, start_apart, words_most, lists_most}
use Rattle.rules.proofs.Laws.{same, diff, sep}
use Rattle.rules.proofs.Shaped.{Shaped}

module _ (S : Settings) (k : ℕ) where
  pub section_end : start S (k + 1) ≡ start S k + (1 + size S k)
  section_end = rw (add-one k) (start_next S k)

  pub section_inside : k < sections → start S k + (1 + size S k) ≤ words S
  section_inside h = start_apart S k sections h

  pub section_most : Limits S → k < sections → start S k + (1 + size S k) ≤ 8209
  section_most l h = omega (arith, section_inside h, words_most l)

  pub size_is : {ns : List ℕ} → ns ≡ sizes S → get_or ns k 0 ≡ size S k
  unfolding size
  size_is e = ap (λ (l : List ℕ). get_or l k 0) e

  -- where the next section starts, as a number that fits
  pub sum_fits : {ns : List ℕ} {p : ℕ} → Limits S → k < sections → ns ≡ sizes S → p ≡ start S k → p + (1 + get_or ns k 0) ≤ 8209
  sum_fits l h e q = omega (arith, section_most l h, q, size_is e)

pub start_none : (S : Settings) → 0 ≡ start S 0
unfolding start
start_none S = refl

-- the start after section k, where its size is known
pub start_more : (S : Settings) (k : ℕ) {p n : ℕ} → p ≡ start S k → n ≡ size S k → p + (1 + n) ≡ start S (k + 1)
start_more S k e q = rw (e, q) (sym (section_end S k))

-- a product with the list room as the code has it
pub lists_fit : {S : Settings} {l : ℕ} → Limits S → l ≡ room S → S.threads * (l + 1) ≤ 4112
lists_fit h e = rw e (lists_most h)

-- a list that holds f at each place below k holds it below k + 1 once f k is stored at k
pub stored_more : (f : ℕ → ℕ) (l : List ℕ) (k p : ℕ) → k < length l → p ≡ f k → ((j : ℕ) → j < k → get_or l j 0 ≡ f j)
    → (j : ℕ) → j < k + 1 → get_or (set l k p) j 0 ≡ f j
stored_more f l k p h e g j q = elim (sep j k) [
  | same s _ ↦ rw (s, get_or-set_same l k p 0 h) e
  | diff s _ ↦ get_or-set_other l k j p 0 s ∙ g j (omega arith)
]

-- the same at a place n that k has reached
pub stored_at : (f : ℕ → ℕ) (l : List ℕ) {k n : ℕ} → k ≡ n → (p : ℕ) → k < length l → p ≡ f k → ((j : ℕ) → j < k → get_or l j 0 ≡ f j)
    → (j : ℕ) → j < n + 1 → get_or (set l n p) j 0 ≡ f j
stored_at f l {k} {n} s p h e g = rw (← s) (stored_more f l k p h e g)

-- in a shaped image the counts add up within it
module _ {I : List ℕ} (s : Shaped I) {k : ℕ} {p : ℕ} (h : k < sections) (e : p ≡ start (settings I) k) where
  pub count_in : p < length I
  count_in = omega (arith, start_apart (settings I) k sections h, s.long)

  pub count_is : get_or I p 0 ≡ size (settings I) k
  count_is = rw e (s.counts k h)

  pub count_fits : (n : ℕ) → n ≡ get_or I p 0 → p + (1 + n) ≤ 8209
  count_fits n q = omega (arith, start_apart (settings I) k sections h, words_most s.limits, q ∙ count_is)

  pub count_more : (n : ℕ) → n ≡ get_or I p 0 → p + (1 + n) ≡ start (settings I) (k + 1)
  count_more n q = start_more (settings I) k e (q ∙ count_is)
