-- The words of a section whose rows are a word each, as the state has them; and a reclaimer's pick of two such sections.
use Rattle.std.proofs.Common.{◌≡◌, List, ℕ, ◌+◌, ◌*◌, ◌/◌, ◌%◌, ◌≤◌, ◌<◌, eqb, length, get_or, take, drop, refl, sym, ap, ◌∙◌, arith, le_refl, mod-lt, suc-mul, div-lt_iff_lt-mul, mul-le-mul, div-add-mod', get_or-drop, get_or-take}
use Rattle.rules.specs.declared.Settings.{Settings}
use Rattle.rules.specs.declared.Kind.{Kind}
use Rattle.rules.specs.declared.Kind.TheVariants.{Private, Published}
use Rattle.rules.specs.Settings.{all_slots}
use Rattle.rules.specs.Image.{Lay, lay, within, address}
use Rattle.rules.specs.Advance.{seen as slot_seen}
use Rattle.rules.proofs.Laws.{holds, fails, either}
use Rattle.rules.proofs.Limits.{Limits, slots_most}
use Rattle.rules.proofs.Places.{read, fitting}
use Rattle.image.specs.declared.view.View.{View}
use Rattle.image.specs.Views.{seen, IsSection}
use Rattle.machine.specs.Rows.{row_of}

-- each row of the kind is one word
pub record OneWide (l : Lay) : Type 0 where
  pub width : l.width ≡ 1
  pub offset : l.offset ≡ 0
  pub span : l.span ≡ 1

pub one_wide : {l : Lay} → l.width ≡ 1 → l.offset ≡ 0 → l.span ≡ 1 → OneWide l
one_wide e f g = record { width = e; offset = f; span = g }

module _ (v : View) (k : Kind) {ws : List ℕ} (s : IsSection v k ws) (o : OneWide (lay v.layout.settings k)) where
  abbrev S : Settings
  S = v.layout.settings

  -- as many as there are rows
  pub section_rows : length ws ≡ (lay S k).rows
  section_rows = s.long ∙ (fitting S k).rows ∙ rw o.width (omega arith)

  -- and each is the word of its row
  pub section_reads : (i : ℕ) {r : ℕ} → i < length ws → r ≡ (lay S k).from + i → get_or ws i 0 ≡ seen v k r 0
  unfolding address within
  section_reads i {r} b e =
      s.words i b
      ∙ ap (λ z. get_or v.words.now z 0) (rw (o.width, o.offset, e) (omega arith))
      ∙ sym (read S v.words.now k r 0 (record { low = omega (arith, e); high = omega (arith, e, section_rows); place = omega (arith, o.span) }))

-- the row that has slot x is among the rows of all threads
pub row_within : {S : Settings} {x : ℕ} → Limits S → x < all_slots S → x / S.slots * S.slots + S.slots ≤ all_slots S
row_within {S} {x} l h =
    let q : x / S.slots < S.threads = (div-lt_iff_lt-mul l.slots_low).1 h in
    omega (arith, suc-mul (x / S.slots) S.slots, mul-le-mul q (le_refl S.slots))

-- word x % k of row x / k, of rows that are k wide
part_at : (ws : List ℕ) (x k : ℕ) → 0 < k → get_or (take k (drop (x / k * k) ws)) (x % k) 0 ≡ get_or ws x 0
part_at ws x k z =
    let q : x % k < k = mod-lt x z in
    rw (get_or-take, get_or-drop, div-add-mod' x k)

-- the private and the published slots of all threads
module _ (v : View) {P Q : List ℕ} (p : IsSection v Private P) (q : IsSection v Published Q) {x : ℕ} (h : x < all_slots v.layout.settings) where
  private_rows : length P ≡ all_slots v.layout.settings
  private_rows = section_rows v Private p (one_wide refl refl refl)

  published_rows : length Q ≡ all_slots v.layout.settings
  published_rows = section_rows v Published q (one_wide refl refl refl)

  -- the row that has slot x is one of both
  pub row_there : (x / v.layout.settings.slots * v.layout.settings.slots + v.layout.settings.slots ≤ length P)
      × (x / v.layout.settings.slots * v.layout.settings.slots + v.layout.settings.slots ≤ length Q)
      × (x / v.layout.settings.slots * v.layout.settings.slots + v.layout.settings.slots ≤ 128)
  row_there =
      let r = row_within v.layout.limits h in
      (omega (arith, r, private_rows), omega (arith, r, published_rows), omega (arith, r, slots_most v.layout.limits))

  -- the word at x % H of the row that is picked for x / H is what the reclaimer sees of slot x
  pub seen_joined : (t : ℕ) {R : List ℕ} → R ≡ row_of P Q t (x / v.layout.settings.slots) v.layout.settings.slots
      → get_or R (x % v.layout.settings.slots) 0 ≡ slot_seen v.layout.settings (seen v) t x
  unfolding slot_seen
  seen_joined t r = elim (either (eqb (x / v.layout.settings.slots) t)) [
    | holds b ↦
        rw (r, b)
        (part_at P x v.layout.settings.slots v.layout.limits.slots_low ∙ section_reads v Private p (one_wide refl refl refl) x (omega (arith, private_rows)) (omega arith))
    | fails b ↦
        rw (r, b)
        (part_at Q x v.layout.settings.slots v.layout.limits.slots_low ∙ section_reads v Published q (one_wide refl refl refl) x (omega (arith, published_rows)) (omega arith))
  ]
