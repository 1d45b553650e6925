-- Words written one after another: a run of one word, a section after its count, and section after section.
use mathlib.Core.Path.{◌≡◌, refl, sym, ap, ◌∙◌}
use mathlib.Core.Bool.{true, false, cond}
use mathlib.Core.List.{List, [], ◌∷◌, append_assoc}
use Prim.Native.Nat.{ℕ, zero, suc, ◌+◌, ◌-◌, ◌≤◌, ◌<◌}
use native.Mathlib.Nat.{not-suc-le-zero}
use native.Mathlib.Numerals.{add-one}
use native.Mathlib.Omega.{arith}
use borrow.Rule.Slice.PartMut.{put_mid, same_len_mid}
use Rattle.std.proofs.lemmas.Slice.{take-put_mid}
use lib.ListN.{length, get_or, set, take, drop, replicate, length-set, length-take, length-drop, length-replicate}
use lib.Seq.{take-suc-set, take_all}
use lib.Dec.{eqb}
use borrow.Author.Tests.{eq-eqb, ne_eqb}
use Rattle.rules.specs.declared.Settings.{Settings}
use Rattle.rules.specs.Settings.{legal}
use Rattle.rules.specs.Image.{sections, sizes, size, start, words, outcome}
use Rattle.rules.specs.SetUp.{counts_section, fresh_section, fresh_up_to, fresh, set_up_number, set_up, words_needed}
use Rattle.rules.proofs.Limits.{Limits, start_apart}
use Rattle.image.proofs.Sections.{sum_fits}
use Rattle.image.specs.Filled.{Filled, Begun}

-- a count at p, and then x as often: ys is what the n words after it hold
module _ (I : List ℕ) (p n x : ℕ) (h : p + (1 + n) ≤ length I) where
  abbrev part : List ℕ
  part = take (p + 1 + n - (p + 1)) (drop (p + 1) (set I p n))

  part_long : length part ≡ n
  part_long = simp (length-take, length-drop, length-set) (omega (arith, h))

  pub filled : {ys : List ℕ} → ys ≡ replicate (length (take (p + 1 + n - (p + 1)) (drop (p + 1) (set I p n)))) x → Filled I (put_mid (p + 1) (p + 1 + n - (p + 1)) (set I p n) ys) p n x
  filled {ys} e =
      let d : ys ≡ replicate n x = e ∙ ap (λ (k : ℕ). replicate k x) part_long in
      let l : length ys ≡ n = ap length d ∙ length-replicate n x in
      record {
        long = same_len_mid (p + 1) (p + 1 + n - (p + 1)) (set I p n) ys (l ∙ sym part_long) ∙ length-set I p n;
        words =
            take-put_mid (p + 1) (p + 1 + n - (p + 1)) (set I p n) ys (p + (1 + n)) (omega (arith, l)) (omega (arith, h, length-set I p n))
            ∙ rw (d, add-one p, take-suc-set I p n (omega (arith, h)), append_assoc (take p I) (n ∷ []) (replicate n x));
      }

-- the first section is written
pub begun_first : (S : Settings) (J : List ℕ) → take 7 J ≡ fresh_up_to S 1 → Begun S J 1 7
unfolding start size sizes
begun_first S J h = record { at = refl; is = h }

-- one section more
pub begun_more : (S : Settings) (I J ns : List ℕ) (k : ℕ) {p x : ℕ} → 0 < k → ns ≡ sizes S → x ≡ cond (eqb k counts_section) S.start 0
    → Begun S I k p → Filled I J p (get_or ns k 0) x → Begun S J (k + 1) (p + (1 + get_or ns k 0))
unfolding size fresh_up_to fresh_section start
begun_more S I J ns zero z e q b f = absurd (not-suc-le-zero z)
begun_more S I J ns (suc k) {p} {x} z e q b f =
    let d : get_or ns (suc k) 0 ≡ size S (suc k) = ap (λ l. get_or l (suc k) 0) e in
    record {
      at = rw (add-one (suc k), ← d, ← b.at);
      is = rw (f.words, b.is, add-one (suc k), d, q);
    }

pub begun_room : (S : Settings) (J ns : List ℕ) {k p : ℕ} → ns ≡ sizes S → Begun S J k p → k < sections → length J ≡ words S
    → p + (1 + get_or ns k 0) ≤ length J
unfolding size
begun_room S J ns {k} e b h l = omega (arith, b.at, start_apart S k sections h, ap (λ z. get_or z k 0) e)

pub begun_fits : (S : Settings) (J ns : List ℕ) {k p : ℕ} → Limits S → ns ≡ sizes S → Begun S J k p → k < sections → length J ≡ words S
    → p + (1 + get_or ns k 0) ≤ 8209
begun_fits S J ns m e b h l = sum_fits S _ m h e b.at

pub begun_done : (S : Settings) (J : List ℕ) {k p : ℕ} → Begun S J k p → k ≡ sections → length J ≡ words S → J ≡ fresh S
unfolding fresh
begun_done S J {k} {p} b e l =
    let h : length J ≤ p = omega (arith, b.at, ap (start S) e) in
    sym (take_all p J h) ∙ b.is ∙ ap (fresh_up_to S) e

-- for the code: how many words are needed
pub needed_legal : (S : Settings) → legal S ≡ true → words_needed S ≡ words S
unfolding words_needed
needed_legal S e = rw e

pub needed_illegal : (S : Settings) → legal S ≡ false → words_needed S ≡ 0
unfolding words_needed
needed_illegal S e = rw e

-- the three ways out of set-up
pub set_up_12 : (S : Settings) (I : List ℕ) → legal S ≡ false → outcome 12 0 I ≡ set_up S I
unfolding set_up set_up_number
set_up_12 S I e = rw e

pub set_up_13 : (S : Settings) (I : List ℕ) → legal S ≡ true → (length I ≡ words S → ⊥) → outcome 13 0 I ≡ set_up S I
unfolding set_up set_up_number
set_up_13 S I e l = rw (e, ne_eqb (length I) (words S) l)

pub set_up_0 : (S : Settings) (I : List ℕ) {J : List ℕ} → legal S ≡ true → length I ≡ words S → J ≡ fresh S → outcome 0 0 J ≡ set_up S I
unfolding set_up set_up_number
set_up_0 S I e l j = rw (e, eq-eqb (length I) (words S) l, j)
