-- For demand 3, number 4: a step isn't answered 10 where a list has room whenever its thread may retire.
use mathlib.Core.Path.{◌≡◌, refl}
use mathlib.Core.Logic.{◌≢◌}
use mathlib.Core.Bool.{Bool, true, false, cond, not, ◌&&◌, ◌||◌}
use Prim.Native.Nat.{ℕ, ◌≤◌, ◌<◌}
use native.Mathlib.Omega.{arith}
use lib.Dec.{eqb, leb}
use Rattle.rules.specs.declared.Settings.{Settings}
use Rattle.rules.specs.Settings.{slot, room}
use Rattle.rules.specs.Phases.{operations, reserved, idle, allows, #allocate, #use, #retire}
use Rattle.rules.specs.State.{State, held, phase, handler, list_length}
use Rattle.rules.specs.Operations.{lowest_free, named}
use Rattle.rules.specs.declared.Step.{Step}
use Rattle.rules.specs.Replies.{operands_fit, phase_forbids, not_live, refusals, refusal}
use Rattle.rules.proofs.Refused.{allows_says}
use Rattle.rules.proofs.Laws.{holds, fails, either, tests}

-- the phase that allows a retire
retire_idle : (p : ℕ) → allows #retire p ≡ true → p ≡ idle
retire_idle p e = (simp tests at (allows_says #retire p e)).0.0.0 (omega arith)

-- a row of the table that has another number
skip : (b : Bool) {n k x : ℕ} → n ≢ k → (b ≡ false → x ≢ k) → cond b n x ≢ k
skip true e f = e
skip false e f = f refl

pub not_ten : (S : Settings) (m : State) (s : Step) → (phase m s.thread ≤ reserved → list_length m s.thread < room S) → refusal S m s ≢ 10
unfolding refusal refusals phase_forbids
not_ten S m s h =
    skip (leb operations s.op) (omega arith) (λ _.
    skip (leb S.threads s.thread) (omega arith) (λ _.
    skip (not (operands_fit S s) || eqb s.op #retire && eqb s.a 0) (omega arith) (λ _.
    skip (not (eqb (handler m s.thread) 0) && leb s.op 9) (omega arith) (λ _.
    skip (phase_forbids S m s) (omega arith) (λ six.
    skip (eqb s.op #allocate && eqb (lowest_free m S.records) 0) (omega arith) (λ _.
    skip (not_live S m s) (omega arith) (λ _.
    skip (eqb s.op #retire && named S m s.a) (omega arith) (λ _.
    elim (either (eqb s.op #retire && eqb (list_length m s.thread) (room S))) [
      | fails e ↦ rw e (skip (eqb s.op #use && eqb (held m (slot S s.thread s.a)) 0) (omega arith) (λ _. omega arith))
      | holds e ↦
          let q = simp tests at e in
          let allow : allows s.op (phase m s.thread) ≡ true = (simp tests at six).0.0 in
          absurd (omega (arith, q.1, h (omega (arith, retire_idle (phase m s.thread) (rw q.0 at allow)))))
    ]))))))))
