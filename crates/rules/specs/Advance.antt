-- 01, Steps: advance, operation 8, a definition for each of its phases. t is the reclaimer, u its item.
use Rattle.std.specs.Prelude.{Bool, cond, not, ◌||◌, List, [], ◌∷◌, ℕ, ◌+◌, ◌-◌, ◌/◌, get_or, eqb}
use Rattle.rules.specs.declared.Settings.{Settings}
use Rattle.rules.specs.Tests.{some}
use Rattle.rules.specs.Settings.{all_slots}
use Rattle.rules.specs.Phases.{idle, collecting, pinging, waiting, scanning, freeing}
use Rattle.rules.specs.State.{State, private, published, count, phase, u, v, collected, list_length, entry, scanned, Write, when, status≔, phase≔, u≔, v≔, w≔, pending≔, collected≔, list_length≔, entry≔, scanned≔, Answer, done}

-- after item i of n: to the next item, or after the last to phase p, u 0
unfoldable pub onward : (t i n p : ℕ) → List Write
onward t i n p =
    let last : Bool = eqb (i + 1) n in
    u≔ t (cond last 0 (i + 1)) ∷ when last (phase≔ t p) ∷ []

-- phase 3
unfoldable pub collect : Settings → State → ℕ → Answer
collect S m t = done 1 (collected≔ t (u m t) (count m (u m t)) ∷ onward t (u m t) S.threads pinging)

-- phase 4
unfoldable pub ping : Settings → State → ℕ → Answer
ping S m t = done 1 (when (not (eqb (u m t) t)) (pending≔ (u m t) 1) ∷ onward t (u m t) S.threads waiting)

-- phase 5
unfoldable pub wait : Settings → State → ℕ → Answer
wait S m t =
    cond (eqb (u m t) t || not (eqb (count m (u m t)) (collected m t (u m t))))
    (done 1 (onward t (u m t) S.threads scanning))
    (done 0 [])

-- slot x of all threads as reclaimer t reads it: its own row is the private one, another's the published one
unfoldable pub seen : Settings → State → (t x : ℕ) → ℕ
seen S m t x = cond (eqb (x / S.slots) t) (private m x) (published m x)

-- phase 6
unfoldable pub scan : Settings → State → ℕ → Answer
scan S m t = done 1 (scanned≔ t (u m t) (seen S m t (u m t)) ∷ onward t (u m t) (all_slots S) freeing)

-- after entry i of n, k of them kept: to the next entry, or after the last the list has k, and the reclaim ends
unfoldable pub freed_on : (t i n k : ℕ) → List Write
freed_on t i n k =
    let last : Bool = eqb (i + 1) n in
    u≔ t (cond last 0 (i + 1)) ∷ v≔ t (cond last 0 k) ∷ when last (phase≔ t idle) ∷ when last (list_length≔ t k) ∷ []

-- a scanned word of reclaimer t equals p
unfoldable pub noted : Settings → State → (t p : ℕ) → Bool
noted S m t p = some (all_slots S) (λ x. eqb (scanned m t x) p)

-- phase 7
unfoldable pub free : Settings → State → ℕ → Answer
free S m t =
    let p : ℕ = entry m t (u m t) in
    cond (noted S m t p)
    (done 2 (entry≔ t (u m t) 0 ∷ entry≔ t (v m t) p ∷ freed_on t (u m t) (list_length m t) (v m t + 1)))
    (done 3 (entry≔ t (u m t) 0 ∷ status≔ p 0 ∷ freed_on t (u m t) (list_length m t) (v m t)))

-- by phase, from 3 on
unfoldable pub advance : Settings → State → ℕ → Answer
advance S m t =
    get_or (collect S m t ∷ ping S m t ∷ wait S m t ∷ scan S m t ∷ free S m t ∷ []) (phase m t - collecting) (done 0 [])
