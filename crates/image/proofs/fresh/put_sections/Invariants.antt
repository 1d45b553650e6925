-- The sections passed are written.
use Rattle.std.proofs.Common.{◌≡◌, ◌+◌, length}
use Rattle.image.specs.Filled.{Begun}
use Rattle.image.proofs.fresh.put_sections.Given as goal

abbrev pub invariant-loop-i : goal.invariant-loop-i
invariant-loop-i l =
    (length l.words ≡ length l.initial.words) × Begun l.sizes.settings l.words (l.i + 1) l.p
