-- What set-up has written so far.
use Rattle.std.specs.Prelude.{◌≡◌, List, ◌∷◌, ◌++◌, ℕ, ◌+◌, length, take, replicate}
use Rattle.rules.specs.declared.Settings.{Settings}
use Rattle.rules.specs.Image.{start}
use Rattle.rules.specs.SetUp.{fresh_up_to}

-- J is I with n, and then n times x, from p on; what follows is left open
pub record Filled (I J : List ℕ) (p n x : ℕ) : Type 0 where
  pub long : length J ≡ length I
  pub words : take (p + (1 + n)) J ≡ take p I ++ (n ∷ replicate n x)

-- the first k sections are written, and p is where they end
pub record Begun (S : Settings) (J : List ℕ) (k p : ℕ) : Type 0 where
  pub at : p ≡ start S k
  pub is : take p J ≡ fresh_up_to S k
