-- A step's answer as the code comes to it: a row of the table that is given, or the operation's own answer.
use Rattle.std.proofs.Common.{◌≡◌, ℕ, ◌<◌, ◌≤◌, Bool, true, false, not, ◌&&◌, eqb, leb, ltb, ◌≢◌, ◌⊎◌, Result, Err, refl, sym, ◌∙◌, arith, le-leb, le_refl, eq-eqb, lt-ltb}
use mathlib.Core.Bool.{or-true}
use borrow.Author.Tests.{lt-leb}
use Rattle.rules.specs.declared.Settings.{Settings}
use Rattle.rules.specs.declared.Why.{Why}
use Rattle.rules.specs.declared.Operation.{Operation}
use Rattle.rules.specs.declared.Operation.TheVariants.{Allocate, Swap, Load, Reserve, Check, Use, Clear, Retire, Advance, Deliver, Handle}
use Rattle.rules.specs.declared.Phase.{Phase}
use Rattle.rules.specs.declared.Phase.TheVariants.{Idle, Loaded, Reserved, Freeing}
use Rattle.rules.specs.declared.Step.{Step}
use Rattle.rules.specs.Settings.{room}
use Rattle.rules.specs.Phases.{operations, collecting, freeing, allows, #deliver}
use Rattle.rules.specs.State.{State, handler, phase, u, v, list_length, entry, Answer, refused}
use Rattle.rules.specs.Damaged.{in_use}
use Rattle.rules.specs.Replies.{step_of, op_number, phase_number, why_number}
use Rattle.rules.specs.Step.{perform, answer}
use Rattle.rules.proofs.Sound.{Thread}
use Rattle.rules.proofs.Checked.{checked, late, handling, answer_2, answer_3, answer_4, answer_5, answer_6, answer_late, entered}
use Rattle.rules.proofs.Refused.{operand_wrong}
use Rattle.image.specs.declared.layout.Layout.{Layout}
use Rattle.image.specs.declared.view.Image.{Image}
use Rattle.image.specs.Views.{state}
use Rattle.machine.specs.Admitted.{Admitted}
use Rattle.machine.specs.Answers.{Answered}

-- what answers for an answer does for the rule that gives it
pub says : {i j : Image} {r : Result ℕ Why} {a b : Answer} → a ≡ b → Answered i j r b → Answered i j r a
says e h = rw e h

-- a refusal leaves all as it is
pub refuses : {i : Image} {r : Result ℕ Why} {y : Why} {a : Answer} → r ≡ Err y → a ≡ refused (why_number y) → Answered i i r a
refuses e h = rw (e, h) (record { same = refl; layout = refl; outcome = refl })

-- the operation that the step names
pub at_op : {i j : Image} (s : Step) (k : ℕ) {r : Result ℕ Why} {x : Answer} → Admitted i.layout.settings (state i) s → s.op ≡ k
    → checked (late i.layout.settings (state i) s.thread k s.a s.b s.c) (perform i.layout.settings (state i) (step_of s.thread k s.a s.b s.c)) ≡ x
    → Answered i j r x → Answered i j r (answer i.layout.settings (state i) s)
at_op s k d e h g = says d.left (rw (e, h) g)

-- the rows 2 to 6 as the code tests them: o is the operation, h and p are the thread's handler and phase
module _ (S : Settings) (m : State) (s : Step) where
  pub out_2 : operations ≤ s.op → answer S m s ≡ refused 2
  out_2 h = answer_2 S m s.thread s.op s.a s.b s.c (le-leb _ _ h)

  module _ (o : Operation) (e2 : op_number o ≡ s.op) where
    known : s.op < operations
    known = rw (← e2) (elim o as (λ o. op_number o < operations) [ Allocate ↦ omega arith | Swap ↦ omega arith | Load ↦ omega arith | Reserve ↦ omega arith | Check ↦ omega arith | Use ↦ omega arith | Clear ↦ omega arith | Retire ↦ omega arith | Advance ↦ omega arith | Deliver ↦ omega arith | Handle ↦ omega arith ])

    row_2 : leb operations s.op ≡ false
    row_2 = lt-leb operations s.op known

    pub out_3 : S.threads ≤ s.thread → answer S m s ≡ refused 3
    out_3 h = answer_3 S m s.thread s.op s.a s.b s.c row_2 (le-leb _ _ h)

    module _ (h3 : s.thread < S.threads) {w : Bool} (e4 : w ≡ operand_wrong S s) where
      row_3 : leb S.threads s.thread ≡ false
      row_3 = lt-leb S.threads s.thread h3

      pub out_4 : w ≡ true → answer S m s ≡ refused 4
      out_4 h = answer_4 S m s.thread s.op s.a s.b s.c row_2 row_3 (sym e4 ∙ h)

      module _ (h4 : w ≡ false) {h : ℕ} {b : Bool} (e5 : h ≡ handler m s.thread) (d5 : b ≡ leb (op_number o) #deliver) where
        handling_is : (not (eqb h 0) && b) ≡ handling m s
        handling_is = rw (e5, d5, e2)

        pub out_5 : (not (eqb h 0) && b) ≡ true → answer S m s ≡ refused 5
        out_5 g = answer_5 S m s.thread s.op s.a s.b s.c row_2 row_3 (sym e4 ∙ h4) (sym handling_is ∙ g)

        module _ (h5 : (not (eqb h 0) && b) ≡ false) (p : Phase) {y : Bool} (e6 : phase_number p ≡ phase m s.thread) (f6 : y ≡ allows (op_number o) (phase_number p)) where
          allows_is : y ≡ allows s.op (phase m s.thread)
          allows_is = f6 ∙ rw (e2, e6)

          pub out_6 : y ≡ false → answer S m s ≡ refused 6
          out_6 g = answer_6 S m s.thread s.op s.a s.b s.c row_2 row_3 (sym e4 ∙ h4) (sym handling_is ∙ h5) (sym allows_is ∙ g)

          pub admitted : y ≡ true → Admitted S m s
          admitted g = record {
            entered = entered S m s.thread s.op s.a s.b s.c known h3 (sym e4 ∙ h4) (sym allows_is ∙ g);
            left = answer_late S m s.thread s.op s.a s.b s.c row_2 row_3 (sym e4 ∙ h4) (sym handling_is ∙ h5) (sym allows_is ∙ g);
          }

-- no phase from 3 on but freeing is left
pub freeing_left : (p : Phase) {n : ℕ} → phase_number p ≡ n → collecting ≤ n → (p ≡ Freeing) ⊎ (p ≡ Idle) ⊎ (p ≡ Loaded) ⊎ (p ≡ Reserved) → n ≡ freeing
freeing_left p e h o = grind arith

-- there item u is in use: it is on the list, and its entry is a record
pub record Item (l : Layout) (m : State) (t : ℕ) : Type 0 where
  pub inside : u m t < l.room
  pub kept : v m t ≤ u m t
  pub named : 1 ≤ entry m t (u m t)

pub item_there : {l : Layout} {m : State} {t : ℕ} → Thread l.settings m t → phase m t ≡ freeing → Item l m t
unfolding in_use
item_there {l} {m} {t} s e =
    let i = s.line.item e in
    let h : u m t < room l.settings = omega (arith, s.length) in
    let q : entry m t (u m t) ≢ 0 =
    s.used (u m t) h
    (rw (eq-eqb (phase m t) freeing e, le-leb (u m t) (u m t) (le_refl (u m t)), lt-ltb (u m t) (list_length m t) i.0) (or-true (ltb (u m t) (v m t)))) in
    record { inside = omega (arith, l.room_is); kept = i.1; named = omega arith }
