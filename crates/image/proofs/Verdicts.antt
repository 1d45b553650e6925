-- The ways to the verdict of the damage check, as the code comes to them: S are the settings as it has read them.
use mathlib.Core.Path.{◌≡◌, sym, ap, ◌∙◌}
use mathlib.Core.Bool.{Bool, true, false, not}
use mathlib.Core.List.{List}
use Prim.Native.Nat.{ℕ, ◌<◌}
use lib.ListN.{length}
use Rattle.rules.specs.declared.Settings.{Settings}
use Rattle.rules.specs.Settings.{legal, settings}
use Rattle.rules.specs.Image.{view}
use Rattle.rules.specs.Damaged.{laid, right, damaged}
use Rattle.rules.proofs.Shaped.{Shaped, shaped_says, undamaged_shaped, undamaged_illegal, undamaged_unlaid, undamaged_short}

pub short : (I : List ℕ) → length I < 7 → true ≡ damaged I
short I h = ap not (sym (undamaged_short I h))

module _ (I : List ℕ) {S : Settings} {b : Bool} (e : S ≡ settings I) (d : b ≡ legal S) where
  legal_is : b ≡ legal (settings I)
  legal_is = d ∙ ap legal e

  pub illegal : b ≡ false → true ≡ damaged I
  illegal h = ap not (sym (undamaged_illegal I (sym legal_is ∙ h)))

  module _ {q : Bool} (g : q ≡ laid S I) (h : b ≡ true) where
    laid_is : q ≡ laid (settings I) I
    laid_is = g ∙ ap (λ z. laid z I) e

    pub shaped : q ≡ true → Shaped I
    shaped k = shaped_says I (sym legal_is ∙ h) (sym laid_is ∙ k)

    pub unlaid : q ≡ false → true ≡ damaged I
    unlaid k = ap not (sym (undamaged_unlaid I (sym legal_is ∙ h) (sym laid_is ∙ k)))

    pub verdict : q ≡ true → {L : Settings} {r : Bool} → L ≡ settings I → r ≡ right L (view L I) → not r ≡ damaged I
    verdict k l p = ap not (p ∙ ap (λ z. right z (view z I)) l ∙ sym (undamaged_shaped I (sym legal_is ∙ h) (sym laid_is ∙ k)))
