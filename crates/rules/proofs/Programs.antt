-- Laws of the schedule program: digits, lines and sums; and how long its output can be.
use mathlib.Core.Path.{◌≡◌, refl, ap}
use mathlib.Core.Bool.{Bool, true, false, cond, not, ◌&&◌}
use mathlib.Core.List.{List, [], ◌∷◌, ◌++◌}
use Prim.Native.Nat.{ℕ, zero, suc, ◌+◌, ◌*◌, ◌-◌, ◌/◌, ◌%◌, ◌^◌, ◌≤◌, ◌<◌}
use native.Mathlib.Nat.{pow-suc, div-lt_iff_lt-mul}
use native.Mathlib.Numerals.{add-one}
use native.Mathlib.Omega.{arith}
use lib.ListN.{length, length-append}
use lib.Dec.{eqb, leb, ltb}
use borrow.Author.Tests.{lt-ltb, le-ltb, leb-true, eqb-true}
use Rattle.rules.specs.declared.Settings.{Settings}
use Rattle.rules.specs.Tests.{bit}
use Rattle.rules.specs.Settings.{settings_count, legal}
use Rattle.rules.specs.Image.{Outcome}
use Rattle.rules.specs.SetUp.{fresh}
use Rattle.rules.specs.Phases.{#advance}
use Rattle.rules.specs.declared.Step.{Step}
use Rattle.rules.specs.Step.{step}
use Rattle.rules.specs.Schedules.{outcomes}
use Rattle.rules.specs.Program.{most_steps, step_words, before_steps, word, given_settings, given_count, given_step, given_steps, steps_from, is_schedule, ascii, digits, decimal, line, lines, accepted, freed, refusals_among, total, report, output, longest}
use Rattle.rules.proofs.Laws.{five, Either, holds, fails, either}

-- digits: as many as are asked for at most, one at least
pub digits_most : (d n : ℕ) → length (digits d n) ≤ d
unfolding digits
digits_most zero n = omega arith
digits_most (suc d) n = go (digits_most d (n / 10)) (either (ltb n 10))
  where
    go : length (digits d (n / 10)) ≤ d → Either (ltb n 10) → length (cond (ltb n 10) ((48 + n) ∷ []) (digits d (n / 10) ++ ((48 + n % 10) ∷ []))) ≤ suc d
    go h (holds e) = rw e (omega arith)
    go h (fails e) = rw (e, length-append (digits d (n / 10)) ((48 + n % 10) ∷ [])) (omega arith)

pub digits_some : (d n : ℕ) → 1 ≤ length (digits (suc d) n)
unfolding digits
digits_some d n = go (either (ltb n 10))
  where
    go : Either (ltb n 10) → 1 ≤ length (cond (ltb n 10) ((48 + n) ∷ []) (digits d (n / 10) ++ ((48 + n % 10) ∷ [])))
    go (holds e) = rw e (omega arith)
    go (fails e) = rw (e, length-append (digits d (n / 10)) ((48 + n % 10) ∷ [])) (omega arith)

-- where all digits are there, one more may be asked for
digits_enough : (d n : ℕ) → n < 10 ^ suc d → digits (suc d) n ≡ digits (suc (suc d)) n
unfolding digits
digits_enough zero n h = rw (lt-ltb n 10 h)
digits_enough (suc d) n h =
    let z : 0 < 10 = omega arith in
    let k : n / 10 < 10 ^ suc d = (div-lt_iff_lt-mul z).1 (rw pow-suc at h) in
    ap (λ l. cond (ltb n 10) ((48 + n) ∷ []) (l ++ ((48 + n % 10) ∷ []))) (digits_enough d (n / 10) k)

-- a word's digits: one, or those of its tenth and the last
pub decimal_one : (n : ℕ) → n < 10 → decimal n ≡ (48 + n) ∷ []
unfolding digits
decimal_one n h = rw (lt-ltb n 10 h)

pub decimal_more : (n : ℕ) → 10 ≤ n → n < 2 ^ 32 → decimal n ≡ decimal (n / 10) ++ ((48 + n % 10) ∷ [])
unfolding digits
decimal_more n h l =
    let z : 0 < 10 = omega arith in
    let k : n / 10 < 10 ^ 9 = (div-lt_iff_lt-mul z).1 (omega arith) in
    rw (le-ltb n 10 h) (ap (λ (l : List ℕ). l ++ ((48 + n % 10) ∷ [])) (digits_enough 8 (n / 10) k))

-- the lengths of a line, of lines, and of the total
decimal_most : (n : ℕ) → length (decimal n) ≤ 10
decimal_most n = digits_most 10 n

pub line_most : (i : ℕ) (s : Step) (o : Outcome) → length (line i s o) ≤ 44
unfolding line ascii
line_most i s o =
    simp length-append
    (omega (arith, decimal_most i, decimal_most s.op, decimal_most o.number, decimal_most o.value))

pub lines_most : (i : ℕ) (ss : List Step) (os : List Outcome) → length (lines i ss os) ≤ length ss * 44
unfolding lines
lines_most i [] os = omega arith
lines_most i (s ∷ ss) [] = omega arith
lines_most i (s ∷ ss) (o ∷ os) =
    simp length-append (omega (arith, line_most i s o, lines_most (suc i) ss os))

pub total_most : (a r f : ℕ) → length (total a r f) ≤ 56
unfolding total ascii
total_most a r f = simp length-append (omega (arith, decimal_most a, decimal_most r, decimal_most f))

-- as many steps as are asked for, and no more of them accepted, refused or freeing
pub steps_long : (I : List ℕ) (i n : ℕ) → length (steps_from I i n) ≡ n
unfolding steps_from
steps_long I i zero = refl
steps_long I i (suc n) = ap suc (steps_long I (suc i) n)

bit_most : (b : Bool) → bit b ≤ 1
bit_most true = omega arith
bit_most false = omega arith

pub accepted_most : (J : List ℕ) (ss : List Step) → accepted (outcomes J ss) ≤ length ss
unfolding outcomes accepted
accepted_most J [] = omega arith
accepted_most J (s ∷ ss) = omega (arith, bit_most (eqb (step J s).number 0), accepted_most (step J s).image ss)

pub refusals_most : (J : List ℕ) (ss : List Step) → refusals_among (outcomes J ss) ≤ length ss
unfolding outcomes refusals_among
refusals_most J [] = omega arith
refusals_most J (s ∷ ss) = omega (arith, bit_most (not (eqb (step J s).number 0)), refusals_most (step J s).image ss)

pub freed_most : (J : List ℕ) (ss : List Step) → freed ss (outcomes J ss) ≤ length ss
unfolding outcomes freed
freed_most J [] = omega arith
freed_most J (s ∷ ss) =
    omega (arith, bit_most (eqb s.op #advance && eqb (step J s).number 0 && eqb (step J s).value 3), freed_most (step J s).image ss)

-- what a schedule says of itself
pub record Says (I : List ℕ) : Type 0 where
  pub few : given_count I ≤ most_steps
  pub long : length I ≡ (before_steps + given_count I * step_words) * 4
  pub limits : legal (given_settings I) ≡ true

pub schedule_says : (I : List ℕ) → is_schedule I ≡ true → Says I
unfolding is_schedule
schedule_says I e =
    let q = five (leb (before_steps * 4) (length I)) (eqb (word I 0) settings_count) (leb (given_count I) most_steps) (eqb (length I) ((before_steps + given_count I * step_words) * 4)) (legal (given_settings I)) e in
    record { few = leb-true _ _ q.2; long = eqb-true _ _ q.3; limits = q.4 }

-- no output is longer than the longest
report_most : (S : Settings) (ss : List Step) → length ss ≤ most_steps → length (report S ss) ≤ longest
unfolding report ascii
report_most S ss h =
    let os : List Outcome = outcomes (fresh S) ss in
    simp length-append
    (omega (arith, lines_most 0 ss os, total_most (accepted os) (refusals_among os) (freed ss os)))

bad_most : length (ascii "bad input\n") ≤ longest
unfolding ascii
bad_most = omega arith

pub output_most : (I : List ℕ) → length (output I) ≤ longest
unfolding output
output_most I = go (either (is_schedule I))
  where
    go : Either (is_schedule I) → length (cond (is_schedule I) (report (given_settings I) (given_steps I)) (ascii "bad input\n")) ≤ longest
    go (holds e) = rw e (report_most (given_settings I) (given_steps I) (omega (arith, (schedule_says I e).few, steps_long I 0 (given_count I))))
    go (fails e) = rw e bad_most

-- a run step by step: the steps from one on, and what the next one adds to lines and sums
pub steps_next : (I : List ℕ) (i n : ℕ) → i < n → steps_from I i (n - i) ≡ given_step I i ∷ steps_from I (i + 1) (n - (i + 1))
unfolding steps_from
steps_next I i n h =
    let e : n - i ≡ suc (n - (i + 1)) = omega arith in
    rw (e, add-one i)

pub steps_none : (I : List ℕ) (i n : ℕ) → n ≤ i → steps_from I i (n - i) ≡ []
unfolding steps_from
steps_none I i n h =
    let e : n - i ≡ 0 = omega arith in
    rw e

module _ (J : List ℕ) (s : Step) (ss : List Step) where
  -- the image after the first step
  abbrev next : List ℕ
  next = (step J s).image

  pub lines_next : (i : ℕ) → lines i (s ∷ ss) (outcomes J (s ∷ ss)) ≡ line i s (step J s) ++ lines (i + 1) ss (outcomes next ss)
  unfolding outcomes lines
  lines_next i = rw (add-one i)

  pub accepted_next : accepted (outcomes J (s ∷ ss)) ≡ bit (eqb (step J s).number 0) + accepted (outcomes next ss)
  unfolding outcomes accepted
  accepted_next = refl

  pub refusals_next : refusals_among (outcomes J (s ∷ ss)) ≡ bit (not (eqb (step J s).number 0)) + refusals_among (outcomes next ss)
  unfolding outcomes refusals_among
  refusals_next = refl

  pub freed_next : freed (s ∷ ss) (outcomes J (s ∷ ss)) ≡ bit (eqb s.op #advance && eqb (step J s).number 0 && eqb (step J s).value 3) + freed ss (outcomes next ss)
  unfolding outcomes freed
  freed_next = refl

-- no steps
module _ (J : List ℕ) where
  pub lines_none : (i : ℕ) → lines i [] (outcomes J []) ≡ []
  unfolding lines
  lines_none i = refl

  pub accepted_none : accepted (outcomes J []) ≡ 0
  unfolding outcomes accepted
  accepted_none = refl

  pub refusals_none : refusals_among (outcomes J []) ≡ 0
  unfolding outcomes refusals_among
  refusals_none = refl

  pub freed_none : freed [] (outcomes J []) ≡ 0
  unfolding freed
  freed_none = refl
