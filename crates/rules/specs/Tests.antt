-- Tests over several words, as the rules use them.
use Rattle.std.specs.Prelude.{Bool, true, false, cond, ◌&&◌, ◌||◌, List, [], ◌∷◌, ℕ, zero, suc, leb, eqb}

-- x is from a to b
abbrev pub from_to : ℕ → ℕ → ℕ → Bool
from_to a b x = leb a x && leb x b

-- the test holds at each number below n
unfoldable pub all : ℕ → (ℕ → Bool) → Bool
all zero f = true
all (suc n) f = all n f && f n

-- the test holds at some number below n
unfoldable pub some : ℕ → (ℕ → Bool) → Bool
some zero f = false
some (suc n) f = some n f || f n

-- 1 where a test holds, else 0
abbrev pub bit : Bool → ℕ
bit b = cond b 1 0

-- two lists of words are the same
unfoldable pub same : List ℕ → List ℕ → Bool
same [] [] = true
same [] (y ∷ ys) = false
same (x ∷ xs) [] = false
same (x ∷ xs) (y ∷ ys) = eqb x y && same xs ys
