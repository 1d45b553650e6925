-- A run step by step: what one step does, what holds after each, and the whole report.
use mathlib.Core.Path.{◌≡◌, refl, sym, ap, ◌∙◌}
use mathlib.Core.List.{List, [], ◌∷◌, ◌++◌, append_assoc, append-nil}
use Prim.Native.Nat.{ℕ, ◌+◌, ◌*◌, ◌-◌, ◌≤◌, ◌<◌}
use native.Mathlib.Nat.{sub-zero}
use native.Mathlib.Omega.{arith}
use lib.ListN.{length, take, replicate, length-append}
use lib.Seq.{length-take-le}
use borrow.Author.Tests.{eq-eqb}
use Rattle.std.specs.Prelude.{Result, IsOk, Ok, Err}
use Rattle.rules.specs.declared.Settings.{Settings}
use Rattle.rules.specs.declared.Why.{Why}
use Rattle.rules.specs.declared.NoSetUp.{NoSetUp}
use Rattle.rules.specs.Image.{words, outcome}
use Rattle.rules.specs.SetUp.{fresh, set_up_number, set_up, words_needed}
use Rattle.rules.specs.declared.Step.{Step}
use Rattle.rules.specs.declared.NoSetUp.TheVariants.{SettingBeyond, WrongLength}
use Rattle.rules.specs.Replies.{number_of, value_of, set_up_number_of}
use Rattle.rules.specs.Step.{step}
use Rattle.rules.specs.Schedules.{outcomes}
use Rattle.rules.specs.Program.{ascii, most_steps, given_settings, given_count, given_step, given_steps, steps_from, line, lines, accepted, refusals_among, freed, total, report, longest}
use Rattle.rules.proofs.Limits.{legal_says, words_most}
use Rattle.rules.proofs.Programs.{Says, line_most, lines_most, steps_long, accepted_most, refusals_most, freed_most, steps_next, steps_none, lines_next, accepted_next, refusals_next, freed_next, lines_none, accepted_none, refusals_none, freed_none}
use Rattle.replay.specs.declared.report.Report.{Report}
use Rattle.replay.specs.Line.{line_of}
use Rattle.replay.specs.Tally.{Low, counted_in, header, nothing, Turned, Ran}

-- a set-up that gives number 0 is done
accepted_ok : {A : Type 0} (r : Result A NoSetUp) → set_up_number_of r ≡ 0 → IsOk r
accepted_ok (Ok x) e = refl
accepted_ok (Err SettingBeyond) e = absurd (omega (arith, e))
accepted_ok (Err WrongLength) e = absurd (omega (arith, e))

-- a step, its reply, its line and its count make a turn
pub turned : {s : Step} {J J' : List ℕ} {r r' : Report} {n v : ℕ} (i : ℕ) (y : Result ℕ Why) → outcome (number_of y) (value_of y) J' ≡ step J s → n ≡ number_of y → v ≡ value_of y
    → r'.text.now.bytes ≡ r.text.now.bytes ++ line_of i s.op n v → r'.tally ≡ counted_in r.tally s.op n v → Turned i s J J' r r'
unfolding line line_of
turned {s} {J} {n = n} {v = v} i y e a b h k =
    let p : n ≡ (step J s).number = a ∙ ap (λ o. o.number) e in
    let q : v ≡ (step J s).value = b ∙ ap (λ o. o.value) e in
    record {
      image = ap (λ o. o.image) e;
      text = rw (← p, ← q) h;
      sums = rw (← p, ← q) k;
    }

-- the lines of steps from step i on
abbrev rest : ℕ → List ℕ → List Step → List ℕ
rest i J ss = lines i ss (outcomes J ss)

-- after i of n steps: what is still to be written and counted makes up what all n steps give from J₀ on
pub record Going (I J₀ : List ℕ) (n : ℕ) (J : List ℕ) (r : Report) (i : ℕ) : Type 0 where
  pub upto : i ≤ n
  pub room : length r.text.now.bytes ≤ 19 + i * 44
  pub text : r.text.now.bytes ++ rest i J (steps_from I i (n - i)) ≡ header ++ rest 0 J₀ (steps_from I 0 n)
  pub accepted : r.tally.accepted + accepted (outcomes J (steps_from I i (n - i))) ≡ accepted (outcomes J₀ (steps_from I 0 n))
  pub refused : r.tally.refused + refusals_among (outcomes J (steps_from I i (n - i))) ≡ refusals_among (outcomes J₀ (steps_from I 0 n))
  pub freed : r.tally.freed + freed (steps_from I i (n - i)) (outcomes J (steps_from I i (n - i))) ≡ freed (steps_from I 0 n) (outcomes J₀ (steps_from I 0 n))

pub going_none : (I J : List ℕ) (n : ℕ) {r : Report} {i : ℕ} → r.text.now.bytes ≡ header → r.tally ≡ nothing → i ≡ 0 → Going I J n J r i
unfolding ascii
going_none I J n {r} {i} t z o =
    let e : n - 0 ≡ n = sub-zero n in
    rw o
    (record {
      upto = omega arith;
      room = omega (arith, ap length t);
      text = rw (e, t);
      accepted = rw (e, z) (omega arith);
      refused = rw (e, z) (omega arith);
      freed = rw (e, z) (omega arith);
    })

module _ {I J₀ : List ℕ} {n : ℕ} {J : List ℕ} {r : Report} {i : ℕ} (g : Going I J₀ n J r i) where
  pub going_low : n ≤ most_steps → Low r.tally
  going_low h = record {
    accepted = omega (arith, g.accepted, accepted_most J₀ (steps_from I 0 n), steps_long I 0 n);
    refused = omega (arith, g.refused, refusals_most J₀ (steps_from I 0 n), steps_long I 0 n);
    freed = omega (arith, g.freed, freed_most J₀ (steps_from I 0 n), steps_long I 0 n);
  }

  -- one step more
  pub going_more : {J' : List ℕ} {r' : Report} {i' : ℕ} → i < n → Turned i (given_step I i) J J' r r' → i' ≡ i + 1 → Going I J₀ n J' r' i'
  unfolding counted_in
  going_more {J'} {r'} {i'} h u o =
      let s : Step = given_step I i in
      let ss : List Step = steps_from I (i + 1) (n - (i + 1)) in
      let K : List ℕ = (step J (given_step I i)).image in
      let e : steps_from I i (n - i) ≡ given_step I i ∷ steps_from I (i + 1) (n - (i + 1)) = steps_next I i n h in
      let w = lines_next J s ss i in
      rw o
      (record {
        upto = omega arith;
        room = omega (arith, g.room, ap length u.text, length-append r.text.now.bytes (line i s (step J s)), line_most i s (step J s));
        text = rw (u.image, u.text) (append_assoc r.text.now.bytes (line i s (step J s)) (rest (i + 1) K ss) ∙ rw (e, w) at g.text);
        accepted = rw u.image (omega (arith, ap (λ z. z.accepted) u.sums, rw (e, accepted_next J s ss) at g.accepted));
        refused = rw u.image (omega (arith, ap (λ z. z.refused) u.sums, rw (e, refusals_next J s ss) at g.refused));
        freed = rw u.image (omega (arith, ap (λ z. z.freed) u.sums, rw (e, freed_next J s ss) at g.freed));
      })

  pub going_ran : n ≤ i → Ran (steps_from I 0 n) J₀ r
  going_ran h =
      let e : steps_from I i (n - i) ≡ [] = steps_none I i n h in
      record {
        text = sym (append-nil r.text.now.bytes) ∙ rw (e, lines_none J i) at g.text;
        accepted = omega (arith, rw (e, accepted_none J) at g.accepted);
        refused = omega (arith, rw (e, refusals_none J) at g.refused);
        freed = omega (arith, rw (e, freed_none J) at g.freed);
      }

-- the settings as they were read
module _ {I : List ℕ} {S : Settings} (e : S ≡ given_settings I) (g : Says I) where
  pub needs : {n : ℕ} → n ≡ words_needed S → n ≡ words (given_settings I)
  unfolding words_needed
  needs h = h ∙ ap words_needed e ∙ rw g.limits

  done : (J : List ℕ) → length J ≡ words (given_settings I) → set_up S J ≡ outcome 0 0 (fresh (given_settings I))
  unfolding set_up set_up_number
  done J l = rw (e, g.limits, eq-eqb (length J) (words (given_settings I)) l)

  module _ (J : List ℕ) (l : length J ≡ words (given_settings I)) {A : Type 0} (r : Result A NoSetUp) {J' : List ℕ} (h : outcome (set_up_number_of r) 0 J' ≡ set_up S J) where
    pub sets_up : J' ≡ fresh (given_settings I)
    sets_up = ap (λ o. o.image) (h ∙ done J l)

    pub is_set_up : IsOk r
    is_set_up = accepted_ok r (ap (λ o. o.number) (h ∙ done J l))

-- an image needs no more words than the largest
pub words_fit : {I : List ℕ} {n : ℕ} → Says I → n ≡ words (given_settings I) → n ≤ 8209
words_fit {I} g e = omega (arith, e, words_most (legal_says (given_settings I) g.limits))

pub part_long : {I : List ℕ} {n : ℕ} → Says I → n ≡ words (given_settings I) → length {A = ℕ} (take n (replicate 8209 0)) ≡ n
part_long {n = n} g e = length-take-le n (replicate 8209 0) (words_fit g e)

-- header, lines and total
module _ {I J : List ℕ} {r : Report} (g : Says I) (h : Ran (given_steps I) J r) where
  pub total_room : length r.text.now.bytes + 56 ≤ longest
  unfolding ascii
  total_room =
      let k = lines_most 0 (given_steps I) (outcomes J (given_steps I)) in
      omega (arith, ap length h.text, length-append header (rest 0 J (given_steps I)), steps_long I 0 (given_count I), g.few)

  pub reported : {t : List ℕ} → J ≡ fresh (given_settings I) → t ≡ r.text.now.bytes ++ total r.tally.accepted r.tally.refused r.tally.freed → t ≡ report (given_settings I) (given_steps I)
  unfolding report
  reported j z = z ∙ rw (h.text, h.accepted, h.refused, h.freed, j) (append_assoc header _ _)
