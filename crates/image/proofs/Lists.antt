-- Tests over the words that a view lends: a section's, a row's, and the entries of a list that are in use.
use Rattle.std.proofs.Common.{◌≡◌, ℕ, ◌+◌, ◌-◌, ◌≤◌, ◌<◌, Bool, true, false, not, ◌&&◌, ◌||◌, eqb, leb, ltb, List, length, get_or, take, drop, sym, ap, ◌∙◌, arith, length-take, length-drop, get_or-take, get_or-drop, lt-ltb, le-leb, ne_eqb}
use borrow.Author.Tests.{le-ltb, lt-leb}
use Rattle.rules.specs.Tests.{all}
use Rattle.rules.specs.Phases.{freeing}
use Rattle.rules.specs.declared.Kind.{Kind}
use Rattle.rules.specs.Image.{size, start, lay}
use Rattle.rules.specs.Damaged.{in_use}
use Rattle.rules.proofs.Laws.{all_same, all_sum}
use Rattle.rules.proofs.Limits.{room_slots}
use Rattle.image.specs.declared.layout.Layout.{Layout}
use Rattle.image.specs.declared.view.View.{View}
use Rattle.image.specs.Views.{seen, IsSection, IsRow}
use Rattle.image.proofs.Loops.{all_halves, front, two_runs}

-- a list has a first entry
pub room_first : (l : Layout) → 0 < l.room
room_first l = omega (arith, l.room_is, room_slots l.limits)

-- the same number of tests, each of the same value
pub all_told : {n m : ℕ} {f g : ℕ → Bool} {r : Bool} → n ≡ m → ((i : ℕ) → i < n → f i ≡ g i) → r ≡ all n f → r ≡ all m g
all_told {n} {m} {f} {g} e h d = d ∙ all_same n h ∙ ap (λ (k : ℕ). all k g) e

-- a list by its halves side by side, and by what is left behind them
module _ (ws : List ℕ) (h : ℕ) (f : ℕ → Bool) (l : h + h ≤ length ws) where
  abbrev at : ℕ → Bool
  at i = f (get_or ws i 0)

  pub halved : {low rest high last : List ℕ} {a b : Bool} → low ≡ take h ws → rest ≡ drop h ws → high ≡ take h rest → last ≡ drop h rest
      → a ≡ all (length low) (λ i. f (get_or low i 0) && f (get_or high i 0)) → b ≡ all (length last) (λ i. f (get_or last i 0))
      → (a && b) ≡ all (length ws) (λ i. f (get_or ws i 0))
  halved {low} {rest} {high} {last} {a} {b} e0 e1 e2 e3 p0 q0 =
      let p : a ≡ all (length (take h ws)) (λ i. f (get_or (take h ws) i 0) && f (get_or (take h (drop h ws)) i 0)) = rw (e2, e1, e0) at p0 in
      let q : b ≡ all (length (drop h (drop h ws))) (λ i. f (get_or (drop h (drop h ws)) i 0)) = rw (e3, e1) at q0 in
      let n : length (take h ws) ≡ h = simp (length-take) (omega arith) in
      let m : length (drop h (drop h ws)) ≡ length ws - (h + h) = simp (length-drop) (omega arith) in
      let s : length ws ≡ (h + h) + (length ws - (h + h)) = omega arith in
      let x : a ≡ all (h + h) at = all_told n (λ i c. let d : i < h = omega (arith, c, n) in rw (get_or-take, get_or-take, get_or-drop)) p ∙ all_halves at h in
      let y : b ≡ all (length ws - (h + h)) (λ i. at (h + h + i)) = all_told m (λ i c. ap f (rw (get_or-drop, get_or-drop) (ap (λ z. get_or ws z 0) (omega arith)))) q in
      rw (x, y) (sym (all_sum at (h + h) (length ws - (h + h))) ∙ ap (λ (k : ℕ). all k at) (sym s))

module _ {v : View} {k : Kind} {ws : List ℕ} (f : ℕ → Bool) {r : Bool} (e : r ≡ all (length ws) (λ i. f (get_or ws i 0))) where
  pub section_all : IsSection v k ws
      → r ≡ all (size v.layout.settings (lay v.layout.settings k).section) (λ i. f (get_or v.words.now (start v.layout.settings (lay v.layout.settings k).section + 1 + i) 0))
  section_all h = all_told h.long (λ i b. ap f (h.words i b)) e

  pub row_all : {i : ℕ} → IsRow v k i ws → r ≡ all (lay v.layout.settings k).span (λ j. f (seen v k i j))
  row_all h = all_told h.long (λ j b. ap f (h.words j b)) e

-- the words of a row below n, and of those the ones below a and the ones from a on
module _ {v : View} {k : Kind} {i : ℕ} {ws : List ℕ} (h : IsRow v k i ws) (f : ℕ → Bool) (n : ℕ) (m : n ≤ (lay v.layout.settings k).span) where
  long : length (take n ws) ≡ n
  long = simp (length-take) (omega (arith, h.long))

  reads : (j : ℕ) → j < n → get_or (take n ws) j 0 ≡ seen v k i j
  reads j b = rw (get_or-take) (h.words j (omega (arith, h.long)))

  pub all_first : {r : Bool} → r ≡ all (length (take n ws)) (λ j. f (get_or (take n ws) j 0)) → r ≡ all n (λ j. f (seen v k i j))
  all_first = all_told long (λ j b. ap f (reads j (omega (arith, b, long))))

  module _ (a : ℕ) (l : a ≤ n) where
    long_below : length (take a (take n ws)) ≡ a
    long_below = simp (length-take) (omega (arith, h.long))

    pub all_below : {r : Bool} → r ≡ all (length (take a (take n ws))) (λ j. f (get_or (take a (take n ws)) j 0)) → r ≡ all a (λ j. f (seen v k i j))
    all_below = all_told long_below (λ j b. ap f (let q : j < a = omega (arith, b, long_below) in rw (get_or-take) (reads j (omega arith))))

    long_above : length (take (length (take n ws) - a) (drop a (take n ws))) ≡ n - a
    long_above = rw long (simp (length-take, length-drop) (omega (arith, h.long)))

    reads_above : (j : ℕ) → j < n - a → get_or (take (length (take n ws) - a) (drop a (take n ws))) j 0 ≡ seen v k i (a + j)
    reads_above j b = rw (long, get_or-take, get_or-drop) (reads (a + j) (omega arith))

    pub all_above : {r : Bool} → r ≡ all (length (take (length (take n ws) - a) (drop a (take n ws)))) (λ j. f (get_or (take (length (take n ws) - a) (drop a (take n ws))) j 0))
        → r ≡ all (n - a) (λ j. f (seen v k i (a + j)))
    all_above = all_told long_above (λ j b. ap f (reads_above j (omega (arith, b, long_above))))

-- no entry in use is 0, where g i is entry i of r: below v and from u to n while freeing, else below n
module _ (g : ℕ → ℕ) (r n p u v : ℕ) (m : n ≤ r) where
  test : ℕ → Bool
  test i = not (in_use n p u v i) || not (eqb (g i) 0)

  word : ℕ → Bool
  word i = not (eqb (g i) 0)

  used : (i : ℕ) → in_use n p u v i ≡ true → test i ≡ word i
  unfolding test word
  used i d = rw d

  unused : (i : ℕ) → in_use n p u v i ≡ false → test i ≡ true
  unfolding test
  unused i d = rw d

  pub freeing_all : p ≡ freeing → u < n → v ≤ u
      → all r (λ i. not (in_use n p u v i) || not (eqb (g i) 0)) ≡ (all v (λ i. not (eqb (g i) 0)) && all (n - u) (λ i. not (eqb (g (u + i)) 0)))
  unfolding in_use test word
  freeing_all s un vu =
      two_runs {f = test} {g = word} v u n r vu (omega arith) m
      (λ i l. used i (rw (s, lt-ltb i v l)))
      (λ i l k. unused i (rw (s, le-ltb i v l, lt-leb u i k)))
      (λ i l k. used i (rw (s, le-leb u i l, lt-ltb i n k) (mathlib.Core.Bool.or-true (ltb i v))))
      (λ i l k. unused i (rw (s, le-ltb i v (omega arith), le-ltb i n l) (mathlib.Core.Bool.and-false (leb u i))))

  pub other_all : (p ≡ freeing → ⊥) → all r (λ i. not (in_use n p u v i) || not (eqb (g i) 0)) ≡ all n (λ i. not (eqb (g i) 0))
  unfolding in_use test word
  other_all s =
      front {f = test} {g = word} n r m
      (λ i l. used i (rw (ne_eqb p freeing s, lt-ltb i n l)))
      (λ i l k. unused i (rw (ne_eqb p freeing s, le-ltb i n l)))
