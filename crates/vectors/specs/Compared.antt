-- What is read and compared, on lists.
use Rattle.std.specs.Prelude.{◌≡◌, List, ℕ, ◌*◌, ◌≤◌, ◌<◌, Bool, true, false, Option, length, get_or}
use Rattle.std.specs.Io.KnownBytes.{Consumes}
use Rattle.rules.specs.Program.{word}

-- the first n words of ws are those that the bytes hold
unfoldable pub Words : List ℕ → List ℕ → ℕ → Type 0
Words bs ws n = (i : ℕ) → i < n → get_or ws i 0 ≡ word bs i

-- the words ws are read: where it is known what is left, it begins with the bytes that hold them, and what follows these is left afterwards; else nothing is said
abbrev pub Takes : Option (List ℕ) → Option (List ℕ) → List ℕ → Type 0
Takes old new ws = (bs : List ℕ) × Consumes old new bs × (length bs ≡ length ws * 4) × Words bs ws (length ws)

-- xs and ys are the same below k, where `eq` is the test of two items
unfoldable pub Same : {A : Type 0} → (A → A → Bool) → List A → List A → ℕ → Type 0
Same eq xs ys k = (i : ℕ) (d : _) → i < k → eq (get_or xs i d) (get_or ys i d) ≡ true

-- k is the first place at which xs and ys differ, or where the shorter of them ends
pub record First {A : Type 0} (eq : A → A → Bool) (xs ys : List A) (k : ℕ) : Type 0 where
  pub within : k ≤ length xs
  pub within_too : k ≤ length ys
  pub before : Same eq xs ys k
  pub there : (d : A) → k < length xs → k < length ys → eq (get_or xs k d) (get_or ys k d) ≡ false
