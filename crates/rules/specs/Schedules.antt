-- What is reached from a set-up by steps alone, refused ones too.
use Rattle.std.specs.Prelude.{List, [], ◌∷◌, ℕ}
use Rattle.rules.specs.declared.Settings.{Settings}
use Rattle.rules.specs.Image.{Outcome}
use Rattle.rules.specs.SetUp.{fresh}
use Rattle.rules.specs.declared.Step.{Step}
use Rattle.rules.specs.Step.{step}

-- the outcomes of steps, one after another, from an image
unfoldable pub outcomes : List ℕ → List Step → List Outcome
outcomes I [] = []
outcomes I (s ∷ ss) =
    let o : Outcome = step I s in
    o ∷ outcomes o.image ss

-- the image after them
unfoldable pub run : List ℕ → List Step → List ℕ
run I [] = I
run I (s ∷ ss) = run (step I s).image ss

-- the image that steps reach from a fresh set-up
abbrev pub reached : Settings → List Step → List ℕ
reached S ss = run (fresh S) ss
