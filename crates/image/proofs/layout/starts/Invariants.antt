-- The counts passed are added up, and where each section stands is noted.
use Rattle.std.proofs.Common.{◌≡◌, ℕ, ◌+◌, ◌<◌, ◌≤◌, length, get_or}
use Rattle.rules.specs.Image.{sections, start}
use Rattle.rules.specs.Settings.{settings}
use Rattle.image.proofs.layout.starts.Given as goal

abbrev pub invariant-loop-k : goal.invariant-loop-k
invariant-loop-k l =
    (l.k ≤ sections) × (l.p ≡ start (settings l.words) l.k) × (length l.starts ≡ sections + 1)
    × ((j : ℕ) → j < l.k → get_or l.starts j 0 ≡ start (settings l.words) j)
