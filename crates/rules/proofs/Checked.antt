-- A step's answer, row by row of the table of replies: what is left of the table once some rows are past, for each operation.
use mathlib.Core.Path.{◌≡◌, refl, sym, ap, ◌∙◌}
use mathlib.Core.Bool.{Bool, true, false, cond, not, ◌&&◌, ◌||◌}
use mathlib.Core.List.{List, [], ◌∷◌}
use Prim.Native.Nat.{ℕ, ◌+◌, ◌≤◌, ◌<◌}
use lib.ListN.{get_or}
use lib.Dec.{eqb, leb}
use borrow.Author.Tests.{ne_eqb}
use Rattle.rules.specs.declared.Settings.{Settings}
use Rattle.rules.specs.Settings.{slot, room}
use Rattle.rules.specs.Phases.{operations, loaded, reserved, collecting, allows, #allocate, #swap, #load, #reserve, #check, #use, #clear, #retire, #advance, #deliver, #handle}
use Rattle.rules.specs.State.{State, status, held, phase, pending, handler, list_length, Answer, refused}
use Rattle.rules.specs.Operations.{lowest_free, named, allocate, swap, load, reserve, check, use_slot, clear, retire, deliver, handle}
use Rattle.rules.specs.Advance.{advance}
use Rattle.rules.specs.declared.Step.{Step}
use Rattle.rules.specs.Replies.{step_of, operands_fit, Ground, ◌if◌, first_given, phase_forbids, not_live, refusals, refusal}
use Rattle.rules.specs.Step.{perform, answer}
use Rattle.rules.proofs.Laws.{tests}
use Rattle.rules.proofs.Refused.{operand_wrong, Fitted, operands_say, allows_says}

-- an answer behind rows of the table
abbrev pub checked : List Ground → Answer → Answer
checked gs a = cond (eqb (first_given gs) 0) a (refused (first_given gs))

pub answer_checked : (S : Settings) (m : State) (s : Step) → answer S m s ≡ checked (refusals S m s) (perform S m s)
unfolding answer refusal
answer_checked S m s = refl

-- a row that is given, and one that isn't
module _ (gs : List Ground) (a : Answer) where
  pub given : (n : ℕ) (b : Bool) → b ≡ true → eqb n 0 ≡ false → checked ((n if b) ∷ gs) a ≡ refused n
  given n b e z = rw (e, z)

  pub passed : (n : ℕ) (b : Bool) → b ≡ false → checked ((n if b) ∷ gs) a ≡ checked gs a
  passed n b e = rw e

-- the test of row 5
abbrev pub handling : State → Step → Bool
handling m s = not (eqb (handler m s.thread) 0) && leb s.op #deliver

module _ (S : Settings) (m : State) (t op a b c : ℕ) where
  abbrev s : Step
  s = step_of t op a b c

  -- the rows that belong to the operations themselves: 6 for deliver and handle, and 7 to 11
  unfoldable pub late : List Ground
  late =
      (6 if eqb op #deliver && eqb (pending m t) 0 || eqb op #handle && eqb (handler m t) 0)
      ∷ (7 if eqb op #allocate && eqb (lowest_free m S.records) 0)
      ∷ (8 if not_live S m s)
      ∷ (9 if eqb op #retire && named S m a)
      ∷ (10 if eqb op #retire && eqb (list_length m t) (room S))
      ∷ (11 if eqb op #use && eqb (held m (slot S t a)) 0)
      ∷ []

  pub answer_2 : leb operations op ≡ true → answer S m s ≡ refused 2
  unfolding refusals
  answer_2 e = answer_checked S m s ∙ rw e

  module _ (r2 : leb operations op ≡ false) where
    pub answer_3 : leb S.threads t ≡ true → answer S m s ≡ refused 3
    unfolding refusals
    answer_3 e = answer_checked S m s ∙ rw (r2, e)

    module _ (r3 : leb S.threads t ≡ false) where
      pub answer_4 : operand_wrong S s ≡ true → answer S m s ≡ refused 4
      unfolding refusals
      answer_4 e = answer_checked S m s ∙ rw (r2, r3, e)

      module _ (r4 : operand_wrong S s ≡ false) where
        pub answer_5 : handling m s ≡ true → answer S m s ≡ refused 5
        unfolding refusals
        answer_5 e = answer_checked S m s ∙ rw (r2, r3, r4, e)

        module _ (r5 : handling m s ≡ false) where
          pub answer_6 : allows op (phase m t) ≡ false → answer S m s ≡ refused 6
          unfolding refusals phase_forbids
          answer_6 e = answer_checked S m s ∙ rw (r2, r3, r4, r5, e)

          pub answer_late : allows op (phase m t) ≡ true → answer S m s ≡ checked late (perform S m s)
          unfolding refusals phase_forbids late
          answer_late e = answer_checked S m s ∙ rw (r2, r3, r4, r5, e)

-- what is left of the table for each operation
module _ (S : Settings) (m : State) (t a b c : ℕ) where
  abbrev rest : ℕ → Answer
  rest op = checked (late S m t op a b c) (perform S m (step_of t op a b c))

  pub late_allocate : rest #allocate ≡ checked ((7 if eqb (lowest_free m S.records) 0) ∷ []) (allocate S m)
  unfolding late not_live perform
  late_allocate = refl

  pub late_swap : rest #swap ≡ checked ((8 if not (eqb c 0) && not (eqb (status m c) 1) || false) ∷ []) (swap m a b c)
  unfolding late not_live perform
  late_swap = refl

  pub late_load : rest #load ≡ load m t a b
  unfolding late not_live perform
  late_load = refl

  pub late_reserve : rest #reserve ≡ reserve S m t
  unfolding late not_live perform
  late_reserve = refl

  pub late_check : rest #check ≡ check S m t
  unfolding late not_live perform
  late_check = refl

  pub late_use : rest #use ≡ checked ((11 if eqb (held m (slot S t a)) 0) ∷ []) (use_slot S m t a)
  unfolding late not_live perform
  late_use = refl

  pub late_clear : rest #clear ≡ clear S t a
  unfolding late not_live perform
  late_clear = refl

  pub late_retire : rest #retire ≡ checked ((8 if not (eqb (status m a) 1)) ∷ (9 if named S m a) ∷ (10 if eqb (list_length m t) (room S)) ∷ []) (retire S m t a)
  unfolding late not_live perform
  late_retire = refl

  pub late_advance : rest #advance ≡ advance S m t
  unfolding late not_live perform
  late_advance = refl

  pub late_deliver : rest #deliver ≡ checked ((6 if eqb (pending m t) 0 || false) ∷ []) (deliver t)
  unfolding late not_live perform
  late_deliver = refl

  pub late_handle : rest #handle ≡ checked ((6 if eqb (handler m t) 0) ∷ []) (handle S m t)
  unfolding late not_live perform
  late_handle = refl

-- what the rows before those of the operations leave
pub record Entered (S : Settings) (m : State) (s : Step) : Type 0 where
  pub known : s.op < operations
  pub thread : s.thread < S.threads
  pub fitted : Fitted S s
  pub reserves : s.op ≡ #reserve → phase m s.thread ≡ loaded
  pub checks : s.op ≡ #check → phase m s.thread ≡ reserved
  pub advances : s.op ≡ #advance → collecting ≤ phase m s.thread

pub entered : (S : Settings) (m : State) (t op a b c : ℕ) → op < operations → t < S.threads → operand_wrong S (step_of t op a b c) ≡ false
    → allows op (phase m t) ≡ true → Entered S m (step_of t op a b c)
entered S m t op a b c n2 n3 e4 e6 =
    let p = simp tests at (allows_says op (phase m t) e6) in
    record {
      known = n2;
      thread = n3;
      fitted = operands_say S (step_of t op a b c) e4;
      reserves = p.0.0.1;
      checks = p.0.1;
      advances = p.1;
    }
