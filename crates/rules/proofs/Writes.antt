-- A word written to an image is a word put into its state; and what the writes leave alone in the image.
use mathlib.Core.Path.{◌≡◌, refl, sym, ap, ◌∙◌, fun_ext}
use mathlib.Core.Logic.{◌≢◌}
use mathlib.Core.Bool.{Bool, true, false, cond, ◌&&◌, false≢true}
use mathlib.Core.List.{List, [], ◌∷◌}
use Prim.Native.Nat.{ℕ, suc, ◌+◌, ◌*◌, ◌-◌, ◌/◌, ◌≤◌, ◌<◌, min}
use native.Mathlib.Nat.{div-eq_of_lt-le, suc-mul}
use native.Mathlib.Omega.{arith}
use lib.ListN.{length, get_or, set, length-set}
use lib.Seq.{get_or-set_same, get_or-set_other}
use lib.Dec.{eqb, leb}
use borrow.Author.Tests.{eqb-true, eq-eqb, leb-true, leb-false}
use Rattle.rules.specs.declared.Settings.{Settings}
use Rattle.rules.specs.Settings.{settings_count, settings}
use Rattle.rules.specs.declared.Kind.{Kind}
use Rattle.rules.specs.declared.Kind.TheVariants.{Cell, Status, Private, Published, Held, Count, Phase, U, V, W, Pending, Handler, Collected, Length, Entry, Scanned}
use Rattle.rules.specs.State.{State, Write}
use Rattle.rules.specs.Image.{sizes, size, start, words, lay, within, address, is_word, view, write, write_all}
use Rattle.rules.specs.Damaged.{laid}
use Rattle.rules.proofs.Laws.{both, both_yes, Either, holds, fails, either}
use Rattle.rules.proofs.Limits.{start_apart}
use Rattle.rules.proofs.Places.{Valid, is_valid, valid_is, fitting, inside_section, inside}

-- the kinds by number, in the order of the layout table
abbrev pub tag : Kind → ℕ
tag Cell = 0
tag Status = 1
tag Private = 2
tag Published = 3
tag Held = 4
tag Count = 5
tag Phase = 6
tag U = 7
tag V = 8
tag W = 9
tag Pending = 10
tag Handler = 11
tag Collected = 12
tag Length = 13
tag Entry = 14
tag Scanned = 15

abbrev tagged : ℕ → Kind
tagged n = get_or (Cell ∷ Status ∷ Private ∷ Published ∷ Held ∷ Count ∷ Phase ∷ U ∷ V ∷ W ∷ Pending ∷ Handler ∷ Collected ∷ Length ∷ Entry ∷ Scanned ∷ []) n Cell

untag : (k : Kind) → tagged (tag k) ≡ k
untag k = elim k as (λ k. tagged (tag k) ≡ k) [ Cell ↦ refl | Status ↦ refl | Private ↦ refl | Published ↦ refl | Held ↦ refl | Count ↦ refl | Phase ↦ refl | U ↦ refl | V ↦ refl | W ↦ refl | Pending ↦ refl | Handler ↦ refl | Collected ↦ refl | Length ↦ refl | Entry ↦ refl | Scanned ↦ refl ]

same_tag : (k k' : Kind) → tag k ≡ tag k' → k ≡ k'
same_tag k k' e = sym (untag k) ∙ ap tagged e ∙ untag k'

-- two places are the same, and the test of that
pub record Same (k k' : Kind) (i j i' j' : ℕ) : Type 0 where
  pub kind : k ≡ k'
  pub row : i ≡ i'
  pub place : j ≡ j'

module _ (k k' : Kind) (i j i' j' : ℕ) where
  abbrev pub met : Bool
  met = eqb (tag k) (tag k') && (eqb i i' && eqb j j')

  pub met_same : met ≡ true → Same k k' i j i' j'
  met_same e =
      let p = both (eqb (tag k) (tag k')) (eqb i i' && eqb j j') e in
      let q = both (eqb i i') (eqb j j') p.1 in
      record { kind = same_tag k k' (eqb-true _ _ p.0); row = eqb-true _ _ q.0; place = eqb-true _ _ q.1 }

  same_met : Same k k' i j i' j' → met ≡ true
  same_met s = both_yes (eq-eqb _ _ (ap tag s.kind)) (both_yes (eq-eqb _ _ s.row) (eq-eqb _ _ s.place))

-- the state with one word put in; with the words of writes put in, in order
abbrev pub put : State → Kind → ℕ → ℕ → ℕ → State
put m k i j x k' i' j' = cond (met k k' i j i' j') x (m k' i' j')

abbrev pub puts : State → List Write → State
puts m [] = m
puts m (z ∷ zs) = puts (put m z.kind z.row z.place (cond z.on z.word (m z.kind z.row z.place))) zs

-- the place of each write is one that there is
abbrev pub AllValid : Settings → List Write → Type 0
AllValid S [] = Unit {0}
AllValid S (z ∷ zs) = Valid S z.kind z.row z.place × AllValid S zs

-- to put in the word that stands there changes nothing
put_own : (m : State) (k : Kind) (i j : ℕ) → put m k i j (m k i j) ≡ m
put_own m k i j = fun_ext (λ k'. fun_ext (λ i'. fun_ext (λ j'. own k' i' j')))
  where
    own : (k' : Kind) (i' j' : ℕ) → put m k i j (m k i j) k' i' j' ≡ m k' i' j'
    own k' i' j' = elim (either (met k k' i j i' j')) [
      | fails e ↦ rw e
      | holds e ↦ let s : Same k k' i j i' j' = met_same k k' i j i' j' e in rw (e, s.kind, s.row, s.place)
    ]

-- a number tells the row and the column that it stands for, of rows that are n wide
one_row : {n i j i' j' : ℕ} → j < n → j' < n → i * n + j ≡ i' * n + j' → (i ≡ i') × (j ≡ j')
one_row {n} {i} {j} {i'} {j'} p q e = (rows, omega (arith, ap (λ z. z * n) rows))
  where
    row : (a b : ℕ) → b < n → (a * n + b) / n ≡ a
    row a b l = div-eq_of_lt-le n (omega arith) (omega (arith, suc-mul a n))

    rows : i ≡ i'
    rows = sym (row i j p) ∙ rw (e, row i' j' q)

-- how many kinds stand before section s
abbrev before : ℕ → ℕ
before s = get_or (0 ∷ 0 ∷ 1 ∷ 2 ∷ 3 ∷ 4 ∷ 5 ∷ 6 ∷ 12 ∷ 13 ∷ 15 ∷ 16 ∷ []) s 0

module _ (S : Settings) where
  -- what a kind's section and a place of its rows tell: how wide the rows are, and which kind stands there
  record Told (k : Kind) : Type 0 where
    wide : (lay S k).width ≡ (lay S (tagged (before (lay S k).section))).width
    number : (j : ℕ) → j < (lay S k).span → tag k ≡ min (before (lay S k).section + ((lay S k).offset + j)) (before (suc (lay S k).section) - 1)

  told : (k : Kind) → Told k
  told k = elim k as (λ k. Told k) [ Cell ↦ omega arith | Status ↦ omega arith | Private ↦ omega arith | Published ↦ omega arith | Held ↦ omega arith | Count ↦ omega arith | Phase ↦ omega arith | U ↦ omega arith | V ↦ omega arith | W ↦ omega arith | Pending ↦ omega arith | Handler ↦ omega arith | Collected ↦ omega arith | Length ↦ omega arith | Entry ↦ omega arith | Scanned ↦ omega arith ]

  -- an index is in one section, with its count or with its words
  abbrev In : ℕ → ℕ → Type 0
  In s p = (start S s ≤ p) × (p ≤ start S s + size S s)

  ordered : (s s' : ℕ) {p : ℕ} → In s p → In s' p → s ≤ s'
  ordered s s' a b = elim (either (leb s s')) [
    | holds e ↦ leb-true s s' e
    | fails e ↦ absurd (omega (arith, start_apart S s' s (leb-false s s' e)))
  ]

  one_section : (s s' : ℕ) {p : ℕ} → In s p → In s' p → s ≡ s'
  one_section s s' a b = omega (arith, ordered s s' a b, ordered s' s b a)

  in_section : (k : Kind) (i j : ℕ) → Valid S k i j → In (lay S k).section (address S k i j)
  unfolding address
  in_section k i j h = omega (arith, inside_section S k i j h)

  -- two places with one address are the same
  pub injective : (k k' : Kind) (i j i' j' : ℕ) → Valid S k i j → Valid S k' i' j' → address S k i j ≡ address S k' i' j' → Same k k' i j i' j'
  unfolding address within
  injective k k' i j i' j' h h' e = record {
    kind = same_kind;
    row = omega (arith, same_row.0, ap (λ z. (lay S z).from) same_kind);
    place = omega (arith, same_row.1, ap (λ z. (lay S z).offset) same_kind);
  }
    where
      same_section : (lay S k).section ≡ (lay S k').section
      same_section = one_section _ _ (in_section k i j h) (rw e (in_section k' i' j' h'))

      same_width : (lay S k).width ≡ (lay S k').width
      same_width = (told k).wide ∙ rw (same_section, (told k').wide)

      same_row : (i - (lay S k).from ≡ i' - (lay S k').from) × ((lay S k).offset + j ≡ (lay S k').offset + j')
      same_row =
          one_row {n = (lay S k).width} (omega (arith, (fitting S k).row)) (omega (arith, (fitting S k').row, same_width))
          (omega (arith, ap (start S) same_section, ap (λ z. (i' - (lay S k').from) * z) same_width))

      same_kind : k ≡ k'
      same_kind = same_tag k k' ((told k).number j h.place ∙ rw (same_section, same_row.1, (told k').number j' h'.place))

  -- a word written is put into the state
  pub stored : (I : List ℕ) (k : Kind) (i j x : ℕ) → Valid S k i j → words S ≤ length I → view S (set I (address S k i j) x) ≡ put (view S I) k i j x
  unfolding view
  stored I k i j x h l = fun_ext (λ k'. fun_ext (λ i'. fun_ext (λ j'. at k' i' j')))
    where
      other : (k' : Kind) (i' j' : ℕ) → met k k' i j i' j' ≡ false → Either (is_word S k' i' j') → view S (set I (address S k i j) x) k' i' j' ≡ view S I k' i' j'
      other k' i' j' e (fails q) = rw q
      other k' i' j' e (holds q) =
          rw (
            q,
            get_or-set_other I (address S k i j) (address S k' i' j') x 0
                (λ z. false≢true (sym e ∙ same_met k k' i j i' j' (injective k k' i j i' j' h (is_valid S k' i' j' q) (sym z)))),
          )

      at : (k' : Kind) (i' j' : ℕ) → view S (set I (address S k i j) x) k' i' j' ≡ put (view S I) k i j x k' i' j'
      at k' i' j' = elim (either (met k k' i j i' j')) [
        | fails e ↦ rw e (other k' i' j' e (either (is_word S k' i' j')))
        | holds e ↦
            let s : Same k k' i j i' j' = met_same k k' i j i' j' e in
            rw (e, ← s.kind, ← s.row, ← s.place, valid_is S k i j h) (get_or-set_same I (address S k i j) x 0 (omega (arith, inside S k i j h)))
      ]

  -- writes keep the length
  one_length : (I : List ℕ) (z : Write) → length (write S I z) ≡ length I
  one_length I z = elim (either z.on) [ holds e ↦ rw e (length-set I _ _) | fails e ↦ rw e ]

  pub write_length : (zs : List Write) (I : List ℕ) → length (write_all S I zs) ≡ length I
  write_length [] I = refl
  write_length (z ∷ zs) I = write_length zs (write S I z) ∙ one_length I z

  -- the words of all writes are put into the state
  stored_one : (I : List ℕ) (z : Write) → Valid S z.kind z.row z.place → words S ≤ length I → view S (write S I z) ≡ puts (view S I) (z ∷ [])
  stored_one I z h l = elim (either z.on) [
    | holds e ↦ rw e (stored I z.kind z.row z.place z.word h l)
    | fails e ↦ rw e (sym (put_own (view S I) z.kind z.row z.place))
  ]

  pub stored_all : (zs : List Write) (I : List ℕ) → AllValid S zs → words S ≤ length I → view S (write_all S I zs) ≡ puts (view S I) zs
  stored_all [] I h l = refl
  stored_all (z ∷ zs) I h l =
      stored_all zs (write S I z) h.1 (rw (one_length I z) l) ∙ ap (λ m. puts m zs) (stored_one I z h.0 l)

  -- what is no word's address keeps what stands there
  abbrev Spared : ℕ → Type 0
  Spared p = (k : Kind) (i j : ℕ) → Valid S k i j → p ≢ address S k i j

  kept : (p : ℕ) → Spared p → (zs : List Write) (I : List ℕ) → AllValid S zs → get_or (write_all S I zs) p 0 ≡ get_or I p 0
  kept p n [] I h = refl
  kept p n (z ∷ zs) I h = kept p n zs (write S I z) h.1 ∙ elim (either z.on) [
    | holds e ↦ rw e (get_or-set_other I (address S z.kind z.row z.place) p z.word 0 (n z.kind z.row z.place h.0))
    | fails e ↦ rw e
  ]

  -- no count's index is a word's address, and no setting's is
  spared_count : (s : ℕ) → Spared (start S s)
  unfolding address
  spared_count s k i j h e =
      let t : s ≡ (lay S k).section = one_section s (lay S k).section {p = address S k i j} (omega arith) (in_section k i j h) in
      omega (arith, ap (start S) t)

  spared_setting : (p : ℕ) → p ≤ settings_count → Spared p
  unfolding address start size sizes
  spared_setting p l k i j h e = omega (arith, start_apart S 0 (lay S k).section (fitting S k).later)

  module _ (zs : List Write) (I : List ℕ) (h : AllValid S zs) where
    pub kept_counts : (k : ℕ) → get_or (write_all S I zs) (start S k) 0 ≡ get_or I (start S k) 0
    kept_counts k = kept (start S k) (spared_count k) zs I h

    pub kept_settings : settings (write_all S I zs) ≡ settings I
    unfolding settings
    kept_settings = rw (at 1 refl, at 2 refl, at 3 refl, at 4 refl, at 5 refl, at 6 refl)
      where
        at : (p : ℕ) → leb p settings_count ≡ true → get_or (write_all S I zs) p 0 ≡ get_or I p 0
        at p e = kept p (spared_setting p (leb-true p settings_count e)) zs I h

    pub laid_kept : laid S I ≡ true → laid S (write_all S I zs) ≡ true
    unfolding laid
    laid_kept e = simp (write_length, kept_counts) e
