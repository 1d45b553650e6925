-- Where the words stand by a layout.
use Rattle.std.specs.Prelude.{◌≡◌, List, ℕ, ◌<◌, get_or}
use Rattle.rules.specs.declared.Settings.{Settings}
use Rattle.rules.specs.declared.Kind.{Kind}
use Rattle.rules.specs.Image.{words, lay, address, view}
use Rattle.image.specs.declared.layout.Layout.{Layout}

-- a line of the layout table: section, first row, a row's width, where in it the words begin, and how many there are
pub record Lays (S : Settings) (k : Kind) (s f w o n : ℕ) : Type 0 where
  pub section : s ≡ (lay S k).section
  pub from : f ≡ (lay S k).from
  pub width : w ≡ (lay S k).width
  pub offset : o ≡ (lay S k).offset
  pub span : n ≡ (lay S k).span

-- p is where the word of kind k at place j of row i stands
pub record At (l : Layout) (k : Kind) (i j p : ℕ) : Type 0 where
  pub here : p ≡ address l.settings k i j
  pub inside : p < words l.settings
  pub reads : (I : List ℕ) → view l.settings I k i j ≡ get_or I p 0
