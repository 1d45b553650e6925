-- The limits of operands, operation by operation.
use Rattle.std.specs.Prelude.{ℕ, [], get_or}
use Rattle.rules.specs.declared.Settings.{Settings}
use Rattle.rules.specs.Replies.{limit, operands, not_listed}

-- what operand i of an operation must be below
unfoldable pub operand_limit : Settings → ℕ → ℕ → ℕ
operand_limit S op i = limit S (get_or (get_or operands op []) i not_listed)
