-- What the damage check tells the step and the list question, as the code comes to it: b is its verdict, S the layout's settings.
use Rattle.std.proofs.Common.{◌≡◌, ℕ, ◌+◌, ◌-◌, ◌<◌, ◌≤◌, Bool, true, false, eqb, leb, ◌≢◌, List, length, sym, ◌∙◌, arith, ne_eqb, eqb-true, le-leb, leb-false}
use borrow.Author.Tests.{not-false, lt-leb}
use Rattle.rules.specs.declared.Settings.{Settings}
use Rattle.rules.specs.Settings.{settings, all_slots, room}
use Rattle.rules.specs.declared.Kind.TheVariants.{Entry}
use Rattle.rules.specs.State.{list_length}
use Rattle.rules.specs.Image.{within, address, view, Outcome, outcome, after}
use Rattle.rules.specs.Damaged.{damaged}
use Rattle.rules.specs.declared.Step.{Step}
use Rattle.rules.specs.Step.{answer, step}
use Rattle.rules.specs.ListQuestion.{list_number, list_from, list_many}
use Rattle.rules.proofs.Laws.{holds, fails, either}
use Rattle.rules.proofs.Places.{inside}
use Rattle.rules.proofs.Limits.{room_slots}
use Rattle.rules.proofs.Shaped.{Shaped}
use Rattle.rules.proofs.Sound.{Sound, undamaged_says}
use Rattle.image.specs.declared.layout.Layout.{Layout}
use Rattle.image.specs.Stands.{At}
use Rattle.rules.specs.Replies.{why_number}
use Rattle.rules.specs.declared.Why.{Why}
use Rattle.rules.specs.declared.Why.TheVariants.{Damaged, NoSuchOperation, NoSuchThread, OperandBeyond, HandlerRunning, PhaseForbids, NoneFree, NotLive, CellNames, ListFull, NotHeld}

-- no reason has the number 0
pub why_not_0 : (w : Why) → why_number w ≢ 0
why_not_0 w = elim w as (λ w. why_number w ≢ 0) [ Damaged ↦ omega arith | NoSuchOperation ↦ omega arith | NoSuchThread ↦ omega arith | OperandBeyond ↦ omega arith | HandlerRunning ↦ omega arith | PhaseForbids ↦ omega arith | NoneFree ↦ omega arith | NotLive ↦ omega arith | CellNames ↦ omega arith | ListFull ↦ omega arith | NotHeld ↦ omega arith ]

module _ (I : List ℕ) where
  pub whole_1 : (s : Step) {b : Bool} → b ≡ damaged I → b ≡ true → outcome 1 0 I ≡ step I s
  unfolding step
  whole_1 s e h = rw (sym e ∙ h)

  module _ {b : Bool} (e : b ≡ damaged I) (h : b ≡ false) where
    says : Shaped I × Sound (settings I) (view (settings I) I)
    says = undamaged_says I (not-false _ (sym e ∙ h))

    pub shaped : Shaped I
    shaped = says.0

    module _ {S : Settings} (q : S ≡ settings I) where
      pub sound : Sound S (view S I)
      sound = rw q says.1

      pub whole : (s : Step) {o : Outcome} → o ≡ after S I (answer S (view S I) s) → o ≡ step I s
      unfolding step
      whole s g = rw (sym e ∙ h) (rw q at g)

  -- the list question's number
  module _ (t : ℕ) {b : Bool} (e : b ≡ damaged I) where
    pub number_1 : b ≡ true → 1 ≡ list_number I t
    unfolding list_number
    number_1 h = rw (sym e ∙ h)

    pub number_3 : {S : Settings} → b ≡ false → S ≡ settings I → S.threads ≤ t → 3 ≡ list_number I t
    unfolding list_number
    number_3 h q l = rw (sym e ∙ h, ← q, le-leb _ _ l)

    pub number_0 : {S : Settings} → b ≡ false → S ≡ settings I → t < S.threads → 0 ≡ list_number I t
    unfolding list_number
    number_0 h q l = rw (sym e ∙ h, ← q, lt-leb _ _ l)

  -- what number 0 tells
  pub asked : (t : ℕ) → list_number I t ≡ 0 → (damaged I ≡ false) × (t < (settings I).threads)
  unfolding list_number
  asked t e = elim (either (damaged I)) [
    | holds d ↦ absurd (omega (arith, rw d at e))
    | fails d ↦ (
      d,
      elim (either (leb (settings I).threads t)) [
        | holds l ↦ absurd (omega (arith, rw (d, l) at e))
        | fails l ↦ leb-false _ _ l
      ],
    )
  ]

  module _ (t : ℕ) {n : ℕ} (e : n ≡ list_number I t) where
    module _ (l : Layout) (h : n ≡ 0) (q : l.settings ≡ settings I) where
      pub asked_thread : t < l.settings.threads
      asked_thread = rw q (asked t (sym e ∙ h)).1

      pub from_is : {p : ℕ} → At l Entry t 0 p → p ≡ list_from I t
      unfolding list_from
      from_is a = rw (sym e ∙ h, ← q) a.here

      pub many_is : {k : ℕ} → k ≡ list_length (view l.settings I) t → k ≡ list_many I t
      unfolding list_many
      many_is g = rw (sym e ∙ h, ← q) g

    -- refused: nothing from the start
    pub refused_from : n ≢ 0 → 0 ≡ list_from I t
    unfolding list_from
    refused_from h = rw (ne_eqb (list_number I t) 0 (λ z. h (e ∙ z)))

    pub refused_many : n ≢ 0 → 0 ≡ list_many I t
    unfolding list_many
    refused_many h = rw (ne_eqb (list_number I t) 0 (λ z. h (e ∙ z)))

-- the part that the list question hands back stands inside the image
pub part_inside : (I : List ℕ) (t : ℕ) → list_from I t + list_many I t ≤ length I
unfolding list_from list_many address within
part_inside I t = elim (either (eqb (list_number I t) 0)) [
  | holds h ↦
      let a = asked I t (eqb-true _ _ h) in
      let q = undamaged_says I (not-false _ a.0) in
      let r : all_slots (settings I) < room (settings I) = room_slots q.0.limits in
      rw h (omega (arith, q.0.long, (q.1.threads t a.1).length, inside (settings I) Entry t (room (settings I) - 1) (record { low = omega arith; high = omega (arith, a.1); place = omega arith })))
  | fails h ↦ rw h (omega arith)
]
