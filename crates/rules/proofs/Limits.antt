-- What legal settings give: bounds of the settings, of their products, of the sections' sizes and of the whole image.
use mathlib.Core.Path.{◌≡◌, refl, sym, ap, ◌∙◌}
use mathlib.Core.Bool.{Bool, true, false, ◌&&◌}
use mathlib.Core.List.{List, [], ◌∷◌}
use Prim.Native.Nat.{ℕ, zero, suc, ◌+◌, ◌*◌, ◌≤◌, ◌<◌}
use native.Mathlib.Nat.{mul-le-mul, suc-mul, le_refl, eq-or-lt_of_le, le_of_suc-le-suc, not-suc-le-zero}
use native.Mathlib.Omega.{arith}
use mathlib.Core.Logic.{⊎_elim}
use lib.ListN.{get_or}
use lib.Dec.{leb, ltb}
use borrow.Author.Tests.{leb-true, ltb-true}
use Rattle.rules.specs.declared.Settings.{Settings}
use Rattle.rules.specs.Tests.{from_to}
use Rattle.rules.specs.Settings.{modulus, legal, all_slots, room}
use Rattle.rules.specs.Image.{sections, sizes, size, start, words}
use Rattle.rules.proofs.Laws.{both, six}

pub record Limits (S : Settings) : Type 0 where
  pub threads_low : 1 ≤ S.threads
  pub threads_high : S.threads ≤ 16
  pub slots_low : 1 ≤ S.slots
  pub slots_high : S.slots ≤ 8
  pub cells_low : 1 ≤ S.cells
  pub cells_high : S.cells ≤ 256
  pub records_low : 1 ≤ S.records
  pub records_high : S.records ≤ 1024
  pub threshold_low : 1 ≤ S.threshold
  pub threshold_high : S.threshold ≤ 256
  pub start_high : S.start < modulus

pub from_to_says : (a b x : ℕ) → from_to a b x ≡ true → (a ≤ x) × (x ≤ b)
from_to_says a b x e =
    let q = both (leb a x) (leb x b) e in
    (leb-true a x q.0, leb-true x b q.1)

pub legal_says : (S : Settings) → legal S ≡ true → Limits S
unfolding legal
legal_says S e =
    let q = six (from_to 1 16 S.threads) (from_to 1 8 S.slots) (from_to 1 256 S.cells) (from_to 1 1024 S.records) (from_to 1 256 S.threshold) (ltb S.start modulus) e in
    let t = from_to_says 1 16 S.threads q.0 in
    let h = from_to_says 1 8 S.slots q.1 in
    let c = from_to_says 1 256 S.cells q.2 in
    let r = from_to_says 1 1024 S.records q.3 in
    let f = from_to_says 1 256 S.threshold q.4 in
    record {
      threads_low = t.0;
      threads_high = t.1;
      slots_low = h.0;
      slots_high = h.1;
      cells_low = c.0;
      cells_high = c.1;
      records_low = r.0;
      records_high = r.1;
      threshold_low = f.0;
      threshold_high = f.1;
      start_high = ltb-true _ _ q.5;
    }

-- column j of row i, of m rows that are n wide
pub in_row : {m n i j : ℕ} → i < m → j < n → i * n + j < m * n
in_row {m} {n} {i} {j} p q =
    let e : suc i * n ≤ m * n = mul-le-mul p (le_refl n) in
    omega (arith, suc-mul i n)

-- the sections one after another
pub start_next : (S : Settings) (k : ℕ) → start S (suc k) ≡ start S k + (1 + size S k)
unfolding start
start_next S k = refl

pub start_apart : (S : Settings) (j k : ℕ) → j < k → start S j + (1 + size S j) ≤ start S k
unfolding start
start_apart S j zero h = absurd (not-suc-le-zero h)
start_apart S j (suc k) h =
    ⊎_elim (λ e. rw e (omega arith)) (λ l. omega (arith, start_apart S j k l)) (eq-or-lt_of_le (le_of_suc-le-suc h))

module _ {S : Settings} (l : Limits S) where
  pub slots_most : all_slots S ≤ 128
  slots_most = mul-le-mul l.threads_high l.slots_high

  pub room_most : room S ≤ 256
  unfolding room
  room_most = omega (arith, slots_most, l.threshold_high)

  pub room_slots : all_slots S < room S
  unfolding room
  room_slots = omega arith

  pub room_threshold : S.threshold ≤ room S
  unfolding room
  room_threshold = omega arith

  pub squares_most : S.threads * S.threads ≤ 256
  squares_most = mul-le-mul l.threads_high l.threads_high

  pub lists_most : S.threads * (room S + 1) ≤ 4112
  lists_most =
      let h : room S + 1 ≤ 257 = omega (arith, room_most) in
      mul-le-mul l.threads_high h

  pub scanned_most : S.threads * all_slots S ≤ 2048
  scanned_most = mul-le-mul l.threads_high slots_most

  -- 01, The image: the largest image has 8,209 words
  pub words_most : words S ≤ 8209
  unfolding start size sizes
  words_most = omega (arith, slots_most, squares_most, lists_most, scanned_most, l.threads_high, l.cells_high, l.records_high)

abbrev pub largest : ℕ → Settings
largest s = record { threads = 16; slots = 8; cells = 256; records = 1024; threshold = 256; start = s }

pub words_largest : (s : ℕ) → words (largest s) ≡ 8209
unfolding start size sizes room
words_largest s = refl
