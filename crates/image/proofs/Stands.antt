-- Where the layout's numbers put each word, each section and each row.
use Rattle.std.proofs.Common.{◌≡◌, List, ℕ, ◌+◌, ◌*◌, ◌-◌, ◌≤◌, ◌<◌, length, get_or, take, drop, sym, ap, ◌∙◌, arith, length-take, length-drop, get_or-take, get_or-drop}
use Rattle.rules.specs.declared.Kind.{Kind}
use Rattle.rules.specs.Image.{sections, size, start, words, lay, within, address}
use Rattle.rules.proofs.Limits.{words_most, room_most}
use Rattle.rules.proofs.Places.{Valid, read, inside, fitting}
use Rattle.image.proofs.Sections.{section_end, section_inside}
use Rattle.image.specs.declared.layout.Layout.{Layout}
use Rattle.image.specs.declared.view.View.{View}
use Rattle.image.specs.Stands.{At, Lays}
use Rattle.image.specs.Views.{IsSection, IsRow}

-- n words of an image from p on, up to q
module _ (I : List ℕ) (p q : ℕ) {n : ℕ} (e : q - p ≡ n) (h : p + n ≤ length I) where
  pub part_long : length (take (q - p) (drop p I)) ≡ n
  part_long = simp (length-take, length-drop) (omega (arith, e, h))

  pub part_reads : (i : ℕ) → i < n → get_or (take (q - p) (drop p I)) i 0 ≡ get_or I (p + i) 0
  part_reads i b =
      let b' : i < q - p = omega (arith, e) in
      rw (get_or-take, get_or-drop)

-- the list room, as a number that fits
pub room_fits : (l : Layout) → l.room ≤ 256
room_fits l = omega (arith, l.room_is, room_most l.limits)

module _ (l : Layout) (k : Kind) {s f w o n : ℕ} (e : Lays l.settings k s f w o n) where
  known : s < sections
  known = rw e.section (fitting l.settings k).section

  -- where the section starts, and where the next one does
  begins : get_or l.starts s 0 ≡ start l.settings s
  begins = l.starts_are s (omega (arith, known))

  ends : get_or l.starts (s + 1) 0 ≡ start l.settings (s + 1)
  ends = l.starts_are (s + 1) (omega (arith, known))

  pub section_least : get_or l.starts s 0 + 1 ≤ get_or l.starts (s + 1) 0
  section_least = omega (arith, begins, ends, section_end l.settings s)

  pub section_within : get_or l.starts (s + 1) 0 ≤ words l.settings
  section_within = omega (arith, ends, section_end l.settings s, section_inside l.settings s known)

  pub section_fits : get_or l.starts s 0 + 1 ≤ 8209
  section_fits = omega (arith, section_least, section_within, words_most l.limits)

  -- a word by a line of the table
  module _ (i j : ℕ) (h : Valid l.settings k i j) where
    placed_at : get_or l.starts s 0 + 1 + (i - f) * w + o + j ≡ address l.settings k i j
    unfolding address within
    placed_at = rw (begins, e.section, e.from, e.width, e.offset) (omega arith)

    pub placed : At l k i j (get_or l.starts s 0 + 1 + (i - f) * w + o + j)
    placed = record {
      here = placed_at;
      inside = rw placed_at (inside l.settings k i j h);
      reads = λ I. read l.settings I k i j h ∙ ap (λ z. get_or I z 0) (sym placed_at);
    }

    pub place_fits : get_or l.starts s 0 + 1 + (i - f) * w + o + j ≤ 8209
    place_fits = omega (arith, placed.inside, words_most l.limits)

-- the words of a section, as a part of the image
module _ (v : View) (k : Kind) {s f w o n : ℕ} (e : Lays v.layout.settings k s f w o n) where
  pub section_long : get_or v.layout.starts (s + 1) 0 - (get_or v.layout.starts s 0 + 1) ≡ size v.layout.settings (lay v.layout.settings k).section
  section_long = omega (arith, begins v.layout k e, ends v.layout k e, section_end v.layout.settings s, ap (size v.layout.settings) e.section)

  pub section_part : IsSection v k (take (get_or v.layout.starts (s + 1) 0 - (get_or v.layout.starts s 0 + 1)) (drop (get_or v.layout.starts s 0 + 1) v.words.now))
  section_part =
      let h : get_or v.layout.starts s 0 + 1 + size v.layout.settings (lay v.layout.settings k).section ≤ length v.words.now =
      omega (arith, section_long, section_least v.layout k e, section_within v.layout k e, v.long) in
      record {
        long = part_long v.words.now _ _ section_long h;
        words = λ i b.
            part_reads v.words.now _ _ section_long h i (omega (arith, b, part_long v.words.now _ _ section_long h))
            ∙ ap (λ z. get_or v.words.now (z + 1 + i) 0) (begins v.layout k e ∙ ap (start v.layout.settings) e.section);
      }

-- the words of a kind in a row, as a part of the image
module _ (v : View) (k : Kind) (i : ℕ) (h : Valid v.layout.settings k i 0) {p s f w o n : ℕ} (a : At v.layout k i 0 p) (e : Lays v.layout.settings k s f w o n) where
  follows : (j : ℕ) → address v.layout.settings k i j ≡ p + j
  unfolding address within
  follows j = omega (arith, a.here)

  valid : (j : ℕ) → j < (lay v.layout.settings k).span → Valid v.layout.settings k i j
  valid j b = record { low = h.low; high = h.high; place = b }

  pub row_within : p + (lay v.layout.settings k).span ≤ words v.layout.settings
  row_within =
      let m : ℕ = (lay v.layout.settings k).span in
      let b : m - 1 < m = omega (arith, h.place) in
      omega (arith, h.place, inside v.layout.settings k i (m - 1) (valid (m - 1) b), follows (m - 1))

  pub row_long : p + n - p ≡ (lay v.layout.settings k).span
  row_long = omega (arith, e.span)

  pub row_part : IsRow v k i (take (p + n - p) (drop p v.words.now))
  row_part =
      let g : p + (lay v.layout.settings k).span ≤ length v.words.now = omega (arith, row_within, v.long) in
      record {
        long = part_long v.words.now _ _ row_long g;
        words = λ j b.
            let q : j < (lay v.layout.settings k).span = omega (arith, b, part_long v.words.now _ _ row_long g) in
            part_reads v.words.now _ _ row_long g j q
            ∙ ap (λ z. get_or v.words.now z 0) (sym (follows j))
            ∙ sym (read v.layout.settings v.words.now k i j (valid j q));
      }
