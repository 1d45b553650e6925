-- A number's digits as the library prints them, and as the definition has them.
use mathlib.Core.Path.{◌≡◌, sym}
use Prim.Native.Nat.{ℕ, ◌^◌, ◌<◌}
use native.Mathlib.Omega.{arith}
use borrow.Author.Tests.{lt-ltb, le-ltb}
use Rattle.std.specs.Fmt.{decimal as printed}
use Rattle.std.proofs.lemmas.Fmt.{AppendsLastDigit, decimal_from_appends, length-decimal-le}
use Rattle.rules.specs.Program.{digits, decimal}

appends : AppendsLastDigit digits
unfolding digits
appends = record {
  one = λ k n h. rw (lt-ltb n 10 h);
  more = λ k n h. rw (le-ltb n 10 h);
}

pub printed_decimal : (n : ℕ) → n < 2 ^ 32 → printed n ≡ decimal n
printed_decimal n h =
    let f : n < 10 ^ 10 = omega arith in
    let g : n < 2 ^ 64 = omega arith in
    sym (decimal_from_appends digits appends 10 n g (length-decimal-le 10 n (omega arith) f g))
