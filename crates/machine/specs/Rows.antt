-- A row of slots as a reclaimer picks it.
use Rattle.std.specs.Prelude.{ℕ, ◌*◌, cond, List, take, drop, ◌==◌}

-- row t of the private or of the published slots: the reclaimer's own is private
abbrev pub row_of : List ℕ → List ℕ → (reclaimer t slots : ℕ) → List ℕ
row_of private published reclaimer t slots = take slots (drop (t * slots) (cond (t == reclaimer) private published))
