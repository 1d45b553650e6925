-- What is known of an image whose settings are legal and whose length and counts are what they give.
use mathlib.Core.Path.{◌≡◌, refl, sym, ap, ◌∙◌}
use mathlib.Core.Bool.{Bool, true, false, not, ◌&&◌}
use mathlib.Core.List.{List}
use Prim.Native.Nat.{ℕ, ◌+◌, ◌≤◌, ◌<◌}
use native.Mathlib.Omega.{arith}
use lib.ListN.{length, get_or, get_or-eq_default}
use lib.Dec.{eqb, lit<}
use borrow.Author.Tests.{eqb-true, ne_eqb, eq-eqb}
use Rattle.rules.specs.declared.Settings.{Settings}
use Rattle.rules.specs.Tests.{all}
use Rattle.rules.specs.Settings.{legal, settings}
use Rattle.rules.specs.Image.{sections, size, sizes, start, words, view}
use Rattle.rules.specs.Damaged.{laid, right, undamaged}
use Rattle.rules.proofs.Laws.{both, three, all_at, all_none}
use Rattle.rules.proofs.Limits.{Limits, legal_says, start_apart}

pub record Shaped (I : List ℕ) : Type 0 where
  pub limits : Limits (settings I)
  pub long : words (settings I) ≡ length I
  pub counts : (k : ℕ) → k < sections → get_or I (start (settings I) k) 0 ≡ size (settings I) k

-- the count of section k, compared
abbrev pub count_right : Settings → List ℕ → ℕ → Bool
count_right S I k = eqb (get_or I (start S k) 0) (size S k)

pub laid_says : (S : Settings) (I : List ℕ) → laid S I ≡ true → (words S ≡ length I) × ((k : ℕ) → k < sections → get_or I (start S k) 0 ≡ size S k)
unfolding laid
laid_says S I e =
    let q = both (eqb (length I) (words S)) (all sections (count_right S I)) e in
    (sym (eqb-true _ _ q.0), λ k h. eqb-true _ _ (all_at (count_right S I) sections q.1 h))

pub shaped_says : (I : List ℕ) → legal (settings I) ≡ true → laid (settings I) I ≡ true → Shaped I
shaped_says I a b =
    let q = laid_says (settings I) I b in
    record { limits = legal_says (settings I) a; long = q.0; counts = q.1 }

-- for the code: the ways to the verdict
pub laid_long : (S : Settings) (I : List ℕ) → length I ≡ words S → laid S I ≡ all sections (count_right S I)
unfolding laid
laid_long S I e = rw (eq-eqb (length I) (words S) e)

pub laid_short : (S : Settings) (I : List ℕ) → (length I ≡ words S → ⊥) → laid S I ≡ false
unfolding laid
laid_short S I e = rw (ne_eqb (length I) (words S) e)

pub undamaged_shaped : (I : List ℕ) → legal (settings I) ≡ true → laid (settings I) I ≡ true
    → undamaged I ≡ right (settings I) (view (settings I) I)
unfolding undamaged
undamaged_shaped I a b = rw (a, b)

pub undamaged_illegal : (I : List ℕ) → legal (settings I) ≡ false → undamaged I ≡ false
unfolding undamaged
undamaged_illegal I a = rw a

pub undamaged_unlaid : (I : List ℕ) → legal (settings I) ≡ true → laid (settings I) I ≡ false → undamaged I ≡ false
unfolding undamaged
undamaged_unlaid I a b = rw (a, b)

-- the settings and their count are the first words
pub words_far : (S : Settings) → 7 ≤ words S
unfolding start size sizes
words_far S = omega (arith, start_apart S 0 sections (lit< tt))

-- an image with no room for them
pub undamaged_short : (I : List ℕ) → length I < 7 → undamaged I ≡ false
undamaged_short I h = go (legal (settings I)) refl
  where
    go : (b : Bool) → legal (settings I) ≡ b → undamaged I ≡ false
    go true e = undamaged_unlaid I e (laid_short (settings I) I (λ q. omega (arith, words_far (settings I))))
    go false e = undamaged_illegal I e

-- the settings stand in the image
pub settings_in : {I : List ℕ} → Shaped I → 7 ≤ length I
settings_in {I} s = omega (arith, words_far (settings I), s.long)
