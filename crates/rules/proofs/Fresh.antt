-- What set-up writes: its settings, its length, its counts and its words; and that legal settings give an undamaged image.
use mathlib.Core.Path.{◌≡◌, refl, ◌∙◌, fun_ext}
use mathlib.Core.Bool.{true, false, cond}
use mathlib.Core.List.{◌∷◌}
use mathlib.Core.Logic.{⊎_elim}
use Prim.Native.Nat.{ℕ, zero, suc, ◌+◌, ◌≤◌, ◌<◌}
use native.Mathlib.Nat.{eq-or-lt_of_le, le_of_suc-le-suc, not-suc-le-zero, add-zero}
use native.Mathlib.Omega.{arith}
use lib.ListN.{length, get_or, length-append, length-replicate, get_or-replicate, get_or-append}
use lib.Seq.{get_or-append-add}
use lib.Dec.{eqb, leb, ltb}
use borrow.Author.Tests.{eq-eqb, le-leb, le-ltb}
use Rattle.rules.specs.declared.Settings.{Settings}
use Rattle.rules.specs.Tests.{all}
use Rattle.rules.specs.Settings.{legal, settings_words, settings}
use Rattle.rules.specs.declared.Kind.{Kind}
use Rattle.rules.specs.State.{State}
use Rattle.rules.specs.Image.{sections, sizes, size, start, words, lay, within, address, is_word, view}
use Rattle.rules.specs.Damaged.{laid, records_right, statuses_right, marks_right, in_use, entries_right, phase_line, thread_right, right, undamaged, damaged}
use Rattle.rules.specs.SetUp.{counts_section, fresh_section, fresh_up_to, fresh}
use Rattle.rules.proofs.Laws.{both_yes, all_yes, Either, holds, fails, either}
use Rattle.rules.proofs.Limits.{start_apart}
use Rattle.rules.proofs.Places.{Valid, fitting, is_valid, read, inside_section}

-- the word that fills section k, if it isn't the settings
abbrev filler : Settings → ℕ → ℕ
filler S k = cond (eqb k counts_section) S.start 0

-- the sections one after another: how long each and all are, and what stands where
module _ (S : Settings) where
  section_length : (k : ℕ) → length (fresh_section S k) ≡ size S k
  unfolding fresh_section settings_words size sizes
  section_length zero = refl
  section_length (suc k) = length-replicate (size S (suc k)) (filler S (suc k))

  up_to_length : (n : ℕ) → length (fresh_up_to S n) ≡ start S n
  unfolding fresh_up_to start
  up_to_length zero = refl
  up_to_length (suc n) =
      omega (arith, length-append (fresh_up_to S n) (size S n ∷ fresh_section S n), up_to_length n, section_length n)

  -- section k after its count, among the first n sections
  up_to_at : (n k i : ℕ) → k < n → i ≤ size S k → get_or (fresh_up_to S n) (start S k + i) 0 ≡ get_or (size S k ∷ fresh_section S k) i 0
  unfolding fresh_up_to
  up_to_at zero k i h l = absurd (not-suc-le-zero h)
  up_to_at (suc n) k i h l =
      ⊎_elim
      (λ (e : k ≡ n). rw (e, ← up_to_length n) (get_or-append-add (fresh_up_to S n) (size S n ∷ fresh_section S n) i 0))
      (λ b.
      get_or-append (fresh_up_to S n) (size S n ∷ fresh_section S n) 0 (start S k + i)
      (omega (arith, up_to_length n, start_apart S k n b))
      ∙ up_to_at n k i b l)
      (eq-or-lt_of_le (le_of_suc-le-suc h))

  pub fresh_length : length (fresh S) ≡ words S
  unfolding fresh
  fresh_length = up_to_length sections

  -- the settings are those it was given, by computation
  pub fresh_settings : settings (fresh S) ≡ S
  unfolding settings fresh fresh_up_to fresh_section settings_words
  fresh_settings = refl

  -- the counts are the sections' sizes
  fresh_count : (k : ℕ) → k < sections → get_or (fresh S) (start S k) 0 ≡ size S k
  unfolding fresh
  fresh_count k h = rw add-zero at (up_to_at sections k 0 h (omega arith))

  pub fresh_laid : laid S (fresh S) ≡ true
  unfolding laid
  fresh_laid = both_yes (eq-eqb _ _ fresh_length) (all_yes _ sections (λ k h. eq-eqb _ _ (fresh_count k h)))

  -- the words: each kind stands in a section after the settings, and its section's word fills it
  fresh_word : (k i : ℕ) → 0 < k → k < sections → i < size S k → get_or (fresh S) (start S k + 1 + i) 0 ≡ filler S k
  unfolding fresh fresh_section
  fresh_word zero i z h l = absurd (not-suc-le-zero z)
  fresh_word (suc k) i z h l =
      let e : start S (suc k) + 1 + i ≡ start S (suc k) + suc i = omega arith in
      rw e (up_to_at sections (suc k) (suc i) h l ∙ get_or-replicate (size S (suc k)) i (filler S (suc k)) 0 l)

  pub fresh_view : (k : Kind) (i j : ℕ) → Valid S k i j → view S (fresh S) k i j ≡ cond (eqb (lay S k).section counts_section) S.start 0
  unfolding address
  fresh_view k i j v =
      read S (fresh S) k i j v
      ∙ fresh_word (lay S k).section (within S k i j) (fitting S k).later (fitting S k).section (inside_section S k i j v)

  pub fresh_zero : (k : Kind) (i j : ℕ) → eqb (lay S k).section counts_section ≡ false → view S (fresh S) k i j ≡ 0
  unfolding view
  fresh_zero k i j e = go (either (is_word S k i j))
    where
      go : Either (is_word S k i j) → view S (fresh S) k i j ≡ 0
      go (holds w) = fresh_view k i j (is_valid S k i j w) ∙ rw e
      go (fails w) = rw w

-- tests at 0
leb_zero : (x : ℕ) → leb 0 x ≡ true
leb_zero x = le-leb 0 x (omega arith)

ltb_zero : (i : ℕ) → ltb i 0 ≡ false
ltb_zero i = le-ltb i 0 (omega arith)

all_true : (n : ℕ) → all n (λ i. true) ≡ true
all_true n = all_yes (λ i. true) n (λ i h. refl)

-- a state is right if all its words but the publish counts are 0
abbrev cleared : Settings → State → State
cleared S m k i j = cond (eqb (lay S k).section counts_section) (m k i j) 0

cleared_right : (S : Settings) (m : State) → right S (cleared S m) ≡ true
unfolding right records_right statuses_right marks_right thread_right entries_right in_use phase_line
cleared_right S m = simp (leb_zero, ltb_zero, all_true)

fresh_cleared : (S : Settings) → view S (fresh S) ≡ cleared S (view S (fresh S))
fresh_cleared S = fun_ext (λ k. fun_ext (λ i. fun_ext (λ j. go k i j (either (eqb (lay S k).section counts_section)))))
  where
    go : (k : Kind) (i j : ℕ) → Either (eqb (lay S k).section counts_section) → view S (fresh S) k i j ≡ cleared S (view S (fresh S)) k i j
    go k i j (holds e) = rw e
    go k i j (fails e) = rw e (fresh_zero S k i j e)

pub fresh_undamaged : (S : Settings) → legal S ≡ true → damaged (fresh S) ≡ false
unfolding undamaged
fresh_undamaged S e = rw (fresh_settings S, e, fresh_laid S, fresh_cleared S, cleared_right S (view S (fresh S)))
