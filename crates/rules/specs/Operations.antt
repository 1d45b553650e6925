-- 01, Steps: the operations but advance, a definition each. Every read is of the state before the step.
-- What forbids an operation stands in Replies.
use Rattle.std.specs.Prelude.{Bool, cond, not, ◌&&◌, List, [], ◌∷◌, ℕ, zero, suc, ◌+◌, ◌-◌, ◌%◌, eqb, leb}
use Rattle.rules.specs.declared.Settings.{Settings}
use Rattle.rules.specs.Tests.{bit, some}
use Rattle.rules.specs.Settings.{modulus, slot}
use Rattle.rules.specs.Phases.{idle, loaded, reserved, collecting}
use Rattle.rules.specs.State.{State, cell, status, private, held, count, u, v, w, handler, list_length, Write, when, cell≔, status≔, private≔, published≔, held≔, count≔, phase≔, u≔, v≔, w≔, pending≔, handler≔, list_length≔, entry≔, Answer, done}

-- the lowest free record of the first n, 0 if none is free
unfoldable pub lowest_free : State → ℕ → ℕ
lowest_free m zero = 0
lowest_free m (suc n) =
    let p : ℕ = lowest_free m n in
    cond (eqb p 0) (cond (eqb (status m (suc n)) 0) (suc n) 0) p

-- a cell names record p
unfoldable pub named : Settings → State → ℕ → Bool
named S m p = some S.cells (λ c. eqb (cell m c) p)

-- 0
unfoldable pub allocate : Settings → State → Answer
allocate S m =
    let p : ℕ = lowest_free m S.records in
    done p (status≔ p 1 ∷ [])

-- 1: cell a, expected b, new c
unfoldable pub swap : State → (a b c : ℕ) → Answer
swap m a b c =
    let equal : Bool = eqb (cell m a) b in
    done (bit equal) (when equal (cell≔ a c) ∷ [])

-- 2: slot a, cell b
unfoldable pub load : State → (t a b : ℕ) → Answer
load m t a b = done (cell m b) (phase≔ t loaded ∷ u≔ t a ∷ v≔ t b ∷ w≔ t (cell m b) ∷ [])

-- 3
unfoldable pub reserve : Settings → State → ℕ → Answer
reserve S m t =
    done (w m t) (private≔ (slot S t (u m t)) (w m t) ∷ held≔ (slot S t (u m t)) 0 ∷ phase≔ t reserved ∷ [])

-- back to phase 0, operands 0
unfoldable pub to_idle : ℕ → List Write
to_idle t = phase≔ t idle ∷ u≔ t 0 ∷ v≔ t 0 ∷ w≔ t 0 ∷ []

-- 4
unfoldable pub check : Settings → State → ℕ → Answer
check S m t =
    let equal : Bool = eqb (cell m (v m t)) (w m t) in
    done (bit equal) (when (equal && not (eqb (w m t) 0)) (held≔ (slot S t (u m t)) 1) ∷ to_idle t)

-- 5: slot a
unfoldable pub use_slot : Settings → State → (t a : ℕ) → Answer
use_slot S m t a = done (private m (slot S t a)) []

-- 6: slot a
unfoldable pub clear : Settings → (t a : ℕ) → Answer
clear S t a = done 0 (private≔ (slot S t a) 0 ∷ held≔ (slot S t a) 0 ∷ [])

-- 7: record a
unfoldable pub retire : Settings → State → (t a : ℕ) → Answer
retire S m t a =
    let n : ℕ = list_length m t in
    let begins : Bool = leb S.threshold (n + 1) in
    done (n + 1)
    (status≔ a 2 ∷ entry≔ t n a ∷ list_length≔ t (n + 1) ∷ when begins (phase≔ t collecting) ∷ when begins (u≔ t 0) ∷ [])

-- 9
unfoldable pub deliver : ℕ → Answer
deliver t = done 1 (pending≔ t 0 ∷ handler≔ t 1 ∷ [])

-- 10: at handler k a copy of slot k − 1, and past the last slot the count
unfoldable pub handle : Settings → State → ℕ → Answer
handle S m t =
    let k : ℕ = handler m t in
    cond (leb k S.slots)
    (done 1 (published≔ (slot S t (k - 1)) (private m (slot S t (k - 1))) ∷ handler≔ t (k + 1) ∷ []))
    (done 2 (count≔ t ((count m t + 1) % modulus) ∷ handler≔ t 0 ∷ []))
