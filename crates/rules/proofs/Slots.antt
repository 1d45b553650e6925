-- The slots of all threads, counted in one row after another: which thread's a slot is.
use mathlib.Core.Path.{◌≡◌, sym, ◌∙◌}
use Prim.Native.Nat.{ℕ, ◌+◌, ◌*◌, ◌/◌, ◌≤◌, ◌<◌}
use native.Mathlib.Nat.{div-eq_of_lt-le, mul-le-mul_right, div-mul-le_self, lt-div-mul-add, div-lt_iff_lt-mul}
use native.Mathlib.Omega.{arith}

-- slot x of all threads is in the row of thread b, of rows that are H wide
pub record Row (H b x : ℕ) : Type 0 where
  pub from : b * H ≤ x
  pub below : x < b * H + H

-- the row of a slot, by division: there is one only
pub row_one : {H b x : ℕ} → Row H b x → x / H ≡ b
row_one {H} r = div-eq_of_lt-le H r.from (omega arith)

pub row_same : {H b c x : ℕ} → Row H b x → Row H c x → b ≡ c
row_same r s = sym (row_one r) ∙ row_one s

-- slot s of thread t is in t's row
pub row_of : {H : ℕ} (t : ℕ) {s : ℕ} → s < H → Row H t (t * H + s)
row_of t l = record { from = omega arith; below = omega arith }

pub row_fits : {T H b x : ℕ} → b < T → Row H b x → x < T * H
row_fits {H = H} l r = omega (arith, mul-le-mul_right H l)

-- a slot of T threads is in the row of one of them
pub row_at : {T H x : ℕ} → 1 ≤ H → x < T * H → (x / H < T) × Row H (x / H) x
row_at {T} {H} {x} h l = ((div-lt_iff_lt-mul h).1 l, record { from = div-mul-le_self x H; below = lt-div-mul-add h })
