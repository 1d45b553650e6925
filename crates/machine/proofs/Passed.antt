-- A search for a word that is 0: what it has passed over.
use Rattle.std.proofs.Common.{◌≡◌, ℕ, ◌+◌, ◌-◌, ◌<◌, ◌≤◌, Bool, false, eqb, ltb, ◌≢◌, List, ◌++◌, length, get_or, take, drop, refl, sym, ap, ◌∙◌, arith, ltb-false, ltb-true, length-take, length-drop, length-append, drop-drop, get_or-drop, get_or-take}
use Rattle.std.proofs.lemmas.List.{get_or_append_left}
use Rattle.std.proofs.Math.Seq.{drop-append_seam}
use Rattle.rules.specs.declared.Kind.TheVariants.{Status}
use Rattle.rules.specs.Tests.{some}
use Rattle.rules.specs.Operations.{lowest_free}
use Rattle.rules.proofs.Lowest.{Taken, free_miss, free_hit}
use Rattle.image.specs.declared.view.View.{View}
use Rattle.image.specs.Views.{seen, IsSection}
use Rattle.machine.proofs.Sections.{one_wide, section_reads, section_rows}
use Rattle.rules.proofs.Laws.{holds, fails, either}
use Rattle.rules.proofs.Moves.{missed}

-- none of the first n words is 0
abbrev pub Passed : List ℕ → ℕ → Type 0
Passed I n = (k : ℕ) → k < n → get_or I k 0 ≢ 0

-- a block that comes next, and what is left after it
module _ (I B R : List ℕ) {p n : ℕ} (i : p ≤ length I) (e : drop p I ≡ B ++ R) (d : length B ≡ n) where
  pub block_inside : p + n ≤ length I
  block_inside = omega (arith, ap (length {A = ℕ}) e, length-drop {A = ℕ}, length-append {A = ℕ})

  pub block_rest : R ≡ drop (p + n) I
  block_rest = sym (rw (← drop-drop n p I, e, ← d) (drop-append_seam B R))

  pub block_passed : Passed I p → {hit : Bool} → hit ≡ some (length B) (λ j. eqb (get_or B j 0) 0) → hit ≡ false → Passed I (p + n)
  block_passed g h f k b = elim (either (ltb k p)) [
    | holds l ↦ g k (ltb-true k p l)
    | fails l ↦
        let q : p ≤ k = ltb-false k p l in
        let r : k - p < length B = omega arith in
        λ z. missed (λ j. get_or B j 0) 0 (length B) (sym h ∙ f) (k - p) r (sym (get_or_append_left B R 0 (k - p) r) ∙ ap (λ l. get_or l (k - p) 0) (sym e) ∙ get_or-drop p I (k - p) 0 ∙ ap (λ x. get_or I x 0) (omega arith) ∙ z)
  ]

-- the words from p on, searched for a 0: ws are the statuses, and those before p are passed over
module _ (v : View) {ws : List ℕ} (s : IsSection v Status ws) {p : ℕ} (i : p ≤ length ws) (g : Passed ws p) where
  abbrev rest : List ℕ
  rest = take (length ws - p) (drop p ws)

  records : length ws ≡ v.layout.settings.records
  records = section_rows v Status s (one_wide refl refl refl)

  rest_long : length rest ≡ length ws - p
  rest_long = simp (length-take, length-drop) (omega arith)

  rest_reads : (k : ℕ) → k < length rest → get_or rest k 0 ≡ get_or ws (p + k) 0
  rest_reads k b =
      let q : k < length ws - p = omega (arith, rest_long) in
      rw (get_or-take, get_or-drop)

  -- what is passed over has no free record
  taken : (n : ℕ) → n ≤ length rest → Passed rest n → Taken (seen v) (p + n)
  taken n b h k c = elim (either (ltb k p)) [
    | holds l ↦
        let q : k < p = ltb-true k p l in
        λ z. g k q (section_reads v Status s (one_wide refl refl refl) k (omega arith) (omega arith) ∙ z)
    | fails l ↦
        let q : p ≤ k = ltb-false k p l in
        let r : k - p < n = omega arith in
        λ z. h (k - p) r (rest_reads (k - p) (omega arith) ∙ ap (λ x. get_or ws x 0) (omega arith)
        ∙ section_reads v Status s (one_wide refl refl refl) k (omega (arith, rest_long)) (omega arith) ∙ z)
  ]

  pub none_free : Passed rest (length rest) → lowest_free (seen v) v.layout.settings.records ≡ 0
  none_free h = free_miss (seen v) v.layout.settings.records (λ k b. taken (length rest) (omega arith) h k (omega (arith, rest_long, records)))

  pub first_free : (n : ℕ) → n < length rest → get_or rest n 0 ≡ 0 → Passed rest n → lowest_free (seen v) v.layout.settings.records ≡ p + n + 1
  first_free n b e h =
      free_hit (seen v) (p + n) v.layout.settings.records (omega (arith, rest_long, records)) (taken n (omega arith) h)
      (sym (section_reads v Status s (one_wide refl refl refl) (p + n) (omega (arith, rest_long)) (omega arith)) ∙ sym (rest_reads n b) ∙ e)

  pub free_inside : (n : ℕ) → n < length rest → p + n + 1 ≤ v.layout.settings.records
  free_inside n b = omega (arith, rest_long, records)
