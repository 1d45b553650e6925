-- 01, Steps: the step whole. Number 1 first, then 2 to 11, then the operation.
use Rattle.std.specs.Prelude.{Bool, cond, not, ◌&&◌, List, [], ◌∷◌, ℕ, get_or, eqb}
use Rattle.rules.specs.declared.Settings.{Settings}
use Rattle.rules.specs.Settings.{slot, settings}
use Rattle.rules.specs.Phases.{#check}
use Rattle.rules.specs.State.{State, cell, private, u, v, w, Answer, refused}
use Rattle.rules.specs.Image.{view, Outcome, after}
use Rattle.rules.specs.Damaged.{damaged}
use Rattle.rules.specs.Operations.{allocate, swap, load, reserve, check, use_slot, clear, retire, deliver, handle}
use Rattle.rules.specs.Advance.{advance}
use Rattle.rules.specs.declared.Step.{Step}
use Rattle.rules.specs.Replies.{refusal}

-- the operations, one list
unfoldable pub perform : Settings → State → Step → Answer
perform S m s =
    get_or
    (allocate S m
    ∷ swap m s.a s.b s.c
    ∷ load m s.thread s.a s.b
    ∷ reserve S m s.thread
    ∷ check S m s.thread
    ∷ use_slot S m s.thread s.a
    ∷ clear S s.thread s.a
    ∷ retire S m s.thread s.a
    ∷ advance S m s.thread
    ∷ deliver s.thread
    ∷ handle S m s.thread
    ∷ [])
    s.op (refused 2)

-- a step on the state of an undamaged image
unfoldable pub answer : Settings → State → Step → Answer
answer S m s = cond (eqb (refusal S m s) 0) (perform S m s) (refused (refusal S m s))

-- the one accepted step that leaves a damaged image, on images made by hand alone: a check that marks a private slot of 0
unfoldable pub marks_empty : Settings → State → Step → Bool
marks_empty S m s =
    let t : ℕ = s.thread in
    eqb (refusal S m s) 0 && eqb s.op #check && eqb (cell m (v m t)) (w m t) && not (eqb (w m t) 0)
    && eqb (private m (slot S t (u m t))) 0

-- a step on any image
unfoldable pub step : List ℕ → Step → Outcome
step I s =
    after (settings I) I (cond (damaged I) (refused 1) (answer (settings I) (view (settings I) I) s))
