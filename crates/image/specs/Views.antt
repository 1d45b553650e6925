-- What an image with its layout holds, what is lent of it, and what a call leaves of it.
use Rattle.std.specs.Prelude.{◌≡◌, List, ℕ, ◌+◌, ◌<◌, length, get_or}
use Rattle.rules.specs.declared.Kind.{Kind}
use Rattle.rules.specs.State.{State, Write}
use Rattle.rules.specs.Image.{size, start, lay, view, write_all}
use Rattle.image.specs.declared.view.View.{View}
use Rattle.image.specs.declared.view.Image.{Image}

-- the state that a view shows, and the one that an image has
abbrev pub seen : View → State
seen v = view v.layout.settings v.words.now

abbrev pub state : Image → State
state i = view i.layout.settings i.words.now

-- the words of the section that has this kind
pub record IsSection (v : View) (k : Kind) (ws : List ℕ) : Type 0 where
  pub long : length ws ≡ size v.layout.settings (lay v.layout.settings k).section
  pub words : (i : ℕ) → i < length ws → get_or ws i 0 ≡ get_or v.words.now (start v.layout.settings (lay v.layout.settings k).section + 1 + i) 0

-- the words of this kind in row i
pub record IsRow (v : View) (k : Kind) (i : ℕ) (ws : List ℕ) : Type 0 where
  pub long : length ws ≡ (lay v.layout.settings k).span
  pub words : (j : ℕ) → j < length ws → get_or ws j 0 ≡ seen v k i j

-- the words are written, and nothing else of the image is changed: neither its layout, nor where it stands
pub record Wrote (i j : Image) (ws : List Write) : Type 0 where
  pub same : j.words.ghost_name ≡ i.words.ghost_name
  pub layout : j.layout ≡ i.layout
  pub words : j.words.now ≡ write_all i.layout.settings i.words.now ws
