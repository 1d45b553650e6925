-- 01, Replies by number, at its end: the list question.
use Rattle.std.specs.Prelude.{cond, List, ℕ, take, drop, eqb, leb}
use Rattle.rules.specs.declared.Settings.{Settings}
use Rattle.rules.specs.Settings.{settings}
use Rattle.rules.specs.declared.Kind.TheVariants.{Entry}
use Rattle.rules.specs.State.{list_length}
use Rattle.rules.specs.Image.{address, view}
use Rattle.rules.specs.Damaged.{damaged}

-- its number: 0, 1 or 3
unfoldable pub list_number : List ℕ → ℕ → ℕ
list_number I t = cond (damaged I) 1 (cond (leb (settings I).threads t) 3 0)

-- where the part that it hands back begins, and how many words it has: none where it is refused
unfoldable pub list_from : List ℕ → ℕ → ℕ
list_from I t = cond (eqb (list_number I t) 0) (address (settings I) Entry t 0) 0

unfoldable pub list_many : List ℕ → ℕ → ℕ
list_many I t = cond (eqb (list_number I t) 0) (list_length (view (settings I) I) t) 0

abbrev pub list_part : List ℕ → ℕ → List ℕ
list_part I t = take (list_many I t) (drop (list_from I t) I)
