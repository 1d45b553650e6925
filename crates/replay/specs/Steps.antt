-- Where a step stands.
use Rattle.std.specs.Prelude.{List, ℕ, ◌+◌, ◌*◌, ◌≤◌, length}
use Rattle.rules.specs.Program.{before_steps, step_words}

-- step i stands whole in the input
abbrev pub Inside : List ℕ → ℕ → Type 0
Inside I i = (before_steps + i * step_words + step_words) * 4 ≤ length I
