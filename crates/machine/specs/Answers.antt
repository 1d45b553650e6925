-- What an operation leaves and answers.
use Rattle.std.specs.Prelude.{◌≡◌, ℕ, Result}
use Rattle.rules.specs.declared.Why.{Why}
use Rattle.rules.specs.State.{Answer}
use Rattle.rules.specs.Image.{outcome, after}
use Rattle.rules.specs.Replies.{number_of, value_of}
use Rattle.image.specs.declared.view.Image.{Image}

-- the number, the value and the words are those of the answer, carried out on the image, and nothing else of it is
-- changed: neither its layout, nor where it stands
pub record Answered (i j : Image) (r : Result ℕ Why) (a : Answer) : Type 0 where
  pub same : j.words.ghost_name ≡ i.words.ghost_name
  pub layout : j.layout ≡ i.layout
  pub outcome : outcome (number_of r) (value_of r) j.words.now ≡ after i.layout.settings i.words.now a
