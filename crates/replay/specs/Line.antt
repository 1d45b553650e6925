-- A step's line.
use Rattle.std.specs.Prelude.{List, ◌++◌, ℕ}
use Rattle.rules.specs.Program.{ascii, decimal}

-- a step's line, from its four numbers
unfoldable pub line_of : ℕ → ℕ → ℕ → ℕ → List ℕ
line_of i op number value =
    decimal i ++ (ascii " " ++ (decimal op ++ (ascii " " ++ (decimal number ++ (ascii " " ++ (decimal value ++ ascii "\n"))))))
