-- The three tests of the operands as the code has them.
use Rattle.std.proofs.Common.{◌≡◌, ℕ, Bool, not, ◌&&◌, ◌||◌, eqb, ltb}
use Rattle.rules.specs.declared.Settings.{Settings}
use Rattle.rules.specs.declared.Step.{Step}
use Rattle.rules.specs.Phases.{#retire}
use Rattle.rules.specs.Replies.{operands_fit, fits}
use Rattle.rules.proofs.Refused.{operand_wrong}
use Rattle.machine.specs.Operands.{operand_limit}

pub wrong_is : (S : Settings) (s : Step) {op x y z : ℕ} {b : Bool} → op ≡ s.op → b ≡ eqb op #retire
    → x ≡ operand_limit S op 0 → y ≡ operand_limit S op 1 → z ≡ operand_limit S op 2
    → (not (ltb s.a x && ltb s.b y && ltb s.c z) || b && eqb s.a 0) ≡ operand_wrong S s
unfolding operand_limit operands_fit fits
wrong_is S s e h p q r = rw (← e, h, p, q, r)
