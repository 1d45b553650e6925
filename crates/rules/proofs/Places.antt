-- Where words stand: a word that there is stands inside its section and inside the image, and the state reads it there.
use mathlib.Core.Path.{◌≡◌, refl, sym, ap, ◌∙◌}
use mathlib.Core.Bool.{Bool, true, false, cond, ◌&&◌}
use mathlib.Core.List.{List}
use Prim.Native.Nat.{ℕ, zero, suc, ◌+◌, ◌*◌, ◌-◌, ◌≤◌, ◌<◌}
use native.Mathlib.Nat.{mul-one}
use native.Mathlib.Omega.{arith}
use lib.ListN.{get_or}
use lib.Dec.{leb, ltb}
use borrow.Author.Tests.{leb-true, leb-false, ltb-true, ltb-false, le-leb, lt-ltb}
use Rattle.rules.specs.declared.Settings.{Settings}
use Rattle.rules.specs.Settings.{all_slots, room}
use Rattle.rules.specs.declared.Kind.{Kind}
use Rattle.rules.specs.declared.Kind.TheVariants.{Cell, Status, Private, Published, Held, Count, Phase, U, V, W, Pending, Handler, Collected, Length, Entry, Scanned}
use Rattle.rules.specs.Image.{sections, sizes, size, start, words, lay, within, address, is_word, view}
use Rattle.rules.proofs.Laws.{three, Either, holds, fails, either}
use Rattle.rules.proofs.Limits.{in_row, start_apart}

-- there is a word of kind k at place j of row i
pub record Valid (S : Settings) (k : Kind) (i j : ℕ) : Type 0 where
  pub low : (lay S k).from ≤ i
  pub high : i < (lay S k).from + (lay S k).rows
  pub place : j < (lay S k).span

module _ (S : Settings) where
  pub valid_is : (k : Kind) (i j : ℕ) → Valid S k i j → is_word S k i j ≡ true
  unfolding is_word
  valid_is k i j h =
      rw (le-leb (lay S k).from i h.low, lt-ltb i ((lay S k).from + (lay S k).rows) h.high, lt-ltb j (lay S k).span h.place)

  pub is_valid : (k : Kind) (i j : ℕ) → is_word S k i j ≡ true → Valid S k i j
  unfolding is_word
  is_valid k i j e =
      let q = three (leb (lay S k).from i) (ltb i ((lay S k).from + (lay S k).rows)) (ltb j (lay S k).span) e in
      record { low = leb-true _ _ q.0; high = ltb-true _ _ q.1; place = ltb-true _ _ q.2 }

  -- the state reads a word where it stands
  pub read : (I : List ℕ) (k : Kind) (i j : ℕ) → Valid S k i j → view S I k i j ≡ get_or I (address S k i j) 0
  unfolding view
  read I k i j h = rw (valid_is k i j h)

  -- what the table says of each kind: its section comes after the settings, is one of the sections and has the kind's
  -- rows, and a row holds its words
  pub record Fitting (k : Kind) : Type 0 where
    pub later : 0 < (lay S k).section
    pub section : (lay S k).section < sections
    pub rows : size S (lay S k).section ≡ (lay S k).rows * (lay S k).width
    pub row : (lay S k).offset + (lay S k).span ≤ (lay S k).width

  pub fitting : (k : Kind) → Fitting k
  unfolding size sizes
  fitting k = elim k as (λ k. Fitting k) [ Cell ↦ omega arith | Status ↦ omega arith | Private ↦ omega arith | Published ↦ omega arith | Held ↦ omega arith | Count ↦ omega arith | Phase ↦ omega arith | U ↦ omega arith | V ↦ omega arith | W ↦ omega arith | Pending ↦ omega arith | Handler ↦ omega arith | Collected ↦ omega arith | Length ↦ omega arith | Entry ↦ omega arith | Scanned ↦ omega arith ]

  pub inside_section : (k : Kind) (i j : ℕ) → Valid S k i j → within S k i j < size S (lay S k).section
  unfolding within
  inside_section k i j h =
      rw (fitting k).rows
      (in_row {m = (lay S k).rows} {n = (lay S k).width} {i = i - (lay S k).from} {j = (lay S k).offset + j}
      (omega (arith, h.low, h.high)) (omega (arith, h.place, (fitting k).row)))

  pub inside : (k : Kind) (i j : ℕ) → Valid S k i j → address S k i j < words S
  unfolding address
  inside k i j h = omega (arith, inside_section k i j h, start_apart S (lay S k).section sections (fitting k).section)
