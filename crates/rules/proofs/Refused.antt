-- What the numbers 2 to 11 leave: an accepted step's facts by name; and that a refused step has value 0 and changes no word.
use mathlib.Core.Path.{◌≡◌, refl}
use mathlib.Core.Logic.{◌≢◌}
use mathlib.Core.Bool.{Bool, true, false, cond, not, ◌&&◌, ◌||◌}
use mathlib.Core.List.{List, [], ◌∷◌}
use Prim.Native.Nat.{ℕ, zero, suc, ◌≤◌, ◌<◌}
use native.Mathlib.Decide.{ℕ_discrete}
use native.Mathlib.Omega.{arith}
use lib.ListN.{get_or}
use lib.Dec.{eqb, leb}
use borrow.Author.Tests.{ne_eqb}
use Rattle.rules.specs.declared.Settings.{Settings}
use Rattle.rules.specs.Tests.{from_to}
use Rattle.rules.specs.Settings.{slot, room, settings}
use Rattle.rules.specs.Phases.{operations, idle, loaded, reserved, collecting, allowed, allows, #allocate, #swap, #load, #reserve, #check, #use, #clear, #retire, #advance, #deliver, #handle}
use Rattle.rules.specs.State.{State, status, held, phase, pending, handler, list_length, Write, Answer, done, refused}
use Rattle.rules.specs.Image.{view}
use Rattle.rules.specs.Damaged.{damaged}
use Rattle.rules.specs.Operations.{lowest_free, named, allocate, swap, load, reserve, check, use_slot, clear, retire, deliver, handle}
use Rattle.rules.specs.Advance.{collect, ping, wait, scan, free, advance}
use Rattle.rules.specs.declared.Step.{Step}
use Rattle.rules.specs.Replies.{operands, fits, operands_fit, Ground, first_given, phase_forbids, not_live, refusals, refusal}
use Rattle.rules.specs.Step.{perform, answer, step}
use Rattle.rules.proofs.Laws.{both, holds, fails, either, tests}

-- no row of a table is given; every row has a number
abbrev Passed : List Ground → Type 0
Passed [] = Unit {0}
Passed (g ∷ gs) = (g.given ≡ false) × Passed gs

abbrev numbered : List Ground → Bool
numbered [] = true
numbered (g ∷ gs) = not (eqb g.number 0) && numbered gs

passed : (gs : List Ground) → numbered gs ≡ true → first_given gs ≡ 0 → Passed gs
passed [] n e = tt
passed (g ∷ gs) n e =
    let q = both (not (eqb g.number 0)) (numbered gs) n in
    elim (either g.given) [ holds h ↦ absurd (simp tests at q.0 (rw h at e)) | fails h ↦ (h, passed gs q.1 (rw h at e)) ]

-- a test of every word of a list, with its number
abbrev every {ℓ} : {A : Type ℓ} → (ℕ → A → Bool) → List A → Bool
every f [] = true
every f (x ∷ xs) = f 0 x && every (λ i. f (suc i)) xs

every_at {ℓ} : {A : Type ℓ} (f : ℕ → A → Bool) (xs : List A) (d : A) → ((i : ℕ) → f i d ≡ true) → every f xs ≡ true → (i : ℕ) → f i (get_or xs i d) ≡ true
every_at f [] d z e i = z i
every_at f (x ∷ xs) d z e zero = (both (f 0 x) _ e).0
every_at f (x ∷ xs) d z e (suc i) = every_at (λ j. f (suc j)) xs d (λ j. z (suc j)) (both (f 0 x) _ e).1 i

-- the operations that phase 0 alone allows
abbrev pub resting : ℕ → Bool
resting op = leb op #load || from_to #use #retire op

-- the table of phases says of operation op and phase p
abbrev pub phase_said : ℕ → ℕ → Bool
phase_said op p =
    (not (resting op) || eqb p idle) && (not (eqb op #reserve) || eqb p loaded) && (not (eqb op #check) || eqb p reserved)
    && (not (eqb op #advance) || leb collecting p)

pub allows_says : (op p : ℕ) → allows op p ≡ true → phase_said op p ≡ true
unfolding allows allowed
allows_says op p e =
    let row : every (λ i b. not b || phase_said op i) (get_or allowed op []) ≡ true
    = every_at (λ o bs. every (λ i b. not b || phase_said o i) bs) allowed [] (λ _. refl) refl op in
    rw e at (every_at (λ i b. not b || phase_said op i) (get_or allowed op []) false (λ _. refl) row p)

-- the test of row 4, and what it leaves of the operands
abbrev pub operand_wrong : Settings → Step → Bool
operand_wrong S s = not (operands_fit S s) || eqb s.op #retire && eqb s.a 0

pub record Fitted (S : Settings) (s : Step) : Type 0 where
  pub swaps : s.op ≡ #swap → (s.a < S.cells) × (s.b ≤ S.records) × (s.c ≤ S.records)
  pub loads : s.op ≡ #load → (s.a < S.slots) × (s.b < S.cells)
  pub uses : s.op ≡ #use → s.a < S.slots
  pub clears : s.op ≡ #clear → s.a < S.slots
  pub retires : s.op ≡ #retire → (1 ≤ s.a) × (s.a ≤ S.records)

pub operands_say : (S : Settings) (s : Step) → operand_wrong S s ≡ false → Fitted S s
unfolding operands_fit fits operands
operands_say S s e =
    let n = simp tests at e in
    record {
      swaps = λ o. let q = rw o at n.0 in omega arith;
      loads = λ o. let q = rw o at n.0 in omega arith;
      uses = λ o. let q = rw o at n.0 in omega arith;
      clears = λ o. let q = rw o at n.0 in omega arith;
      retires = λ o. let q = rw o at n.0 in omega (arith, n.1 o);
    }

-- what is known of step s, accepted in state m
pub record Accepted (S : Settings) (m : State) (s : Step) : Type 0 where
  -- 2, 3
  pub known : s.op < operations
  pub thread : s.thread < S.threads
  -- 4
  pub fitted : Fitted S s
  -- 5
  pub unhandled : s.op ≤ #deliver → handler m s.thread ≡ 0
  -- 6
  pub allowed : allows s.op (phase m s.thread) ≡ true
  pub rests : resting s.op ≡ true → phase m s.thread ≡ idle
  pub reserves : s.op ≡ #reserve → phase m s.thread ≡ loaded
  pub checks : s.op ≡ #check → phase m s.thread ≡ reserved
  pub advances : s.op ≡ #advance → collecting ≤ phase m s.thread
  pub pinged : s.op ≡ #deliver → pending m s.thread ≢ 0
  pub handling : s.op ≡ #handle → handler m s.thread ≢ 0
  -- 7
  pub free : s.op ≡ #allocate → lowest_free m S.records ≢ 0
  -- 8
  pub live_new : s.op ≡ #swap → s.c ≢ 0 → status m s.c ≡ 1
  pub live : s.op ≡ #retire → status m s.a ≡ 1
  -- 9, 10, 11
  pub unnamed : s.op ≡ #retire → named S m s.a ≡ false
  pub shorter : s.op ≡ #retire → list_length m s.thread ≢ room S
  pub marked : s.op ≡ #use → held m (slot S s.thread s.a) ≢ 0

module _ (S : Settings) (m : State) (s : Step) where
  pub refused_is : (refusal S m s ≡ 0 → ⊥) → answer S m s ≡ refused (refusal S m s)
  unfolding answer
  refused_is n = rw (ne_eqb (refusal S m s) 0 n)

  pub accepted_is : refusal S m s ≡ 0 → answer S m s ≡ perform S m s
  unfolding answer
  accepted_is e = rw e

  pub accepted_says : refusal S m s ≡ 0 → Accepted S m s
  unfolding refusal refusals phase_forbids not_live
  accepted_says e =
      let (e2, (e3, (e4, _))) = passed (refusals S m s) refl e in
      let (n2, (n3, (n4, (n5, (n6, (n7, (n8, (n9, (n10, (n11, _)))))))))) = simp tests at (passed (refusals S m s) refl e) in
      let p = simp tests at (allows_says s.op (phase m s.thread) n6.0.0) in
      record {
        known = n2;
        thread = n3;
        fitted = operands_say S s e4;
        unhandled = λ l. elim (ℕ_discrete (handler m s.thread) 0) [ yes h ↦ h | no h ↦ absurd (omega (arith, n5 h)) ];
        allowed = n6.0.0;
        rests = λ r. p.0.0.0 (simp tests at r);
        reserves = p.0.0.1;
        checks = p.0.1;
        advances = p.1;
        pinged = n6.0.1;
        handling = n6.1;
        free = n7;
        live_new = n8.0;
        live = n8.1;
        unnamed = n9;
        shorter = n10;
        marked = n11;
      }

-- an answer that isn't done has value 0 and writes nothing
record Quiet (a : Answer) : Type 0 where
  quiet : (a.number ≡ 0 → ⊥) → (a.value ≡ 0) × (a.writes ≡ [])

quiet_done : (x : ℕ) (ws : List Write) → Quiet (done x ws)
quiet_done x ws = record { quiet = λ n. absurd (n refl) }

quiet_refused : (n : ℕ) → Quiet (refused n)
quiet_refused n = record { quiet = λ _. (refl, refl) }

quiet_cond : (b : Bool) (x y : Answer) → Quiet x → Quiet y → Quiet (cond b x y)
quiet_cond true x y p q = p
quiet_cond false x y p q = q

quiet_some : (x : Answer) (xs : List Answer) (i : ℕ) (d : Answer) → Quiet x → ((j : ℕ) → Quiet (get_or xs j d)) → Quiet (get_or (x ∷ xs) i d)
quiet_some x xs zero d p q = p
quiet_some x xs (suc i) d p q = q i

ruleset quiets = (quiet_done, quiet_refused, quiet_cond, quiet_some)

quiet_advance : (S : Settings) (m : State) (t : ℕ) → Quiet (advance S m t)
unfolding advance collect ping wait scan free
quiet_advance S m t = search quiets depth 30

quiet_perform : (S : Settings) (m : State) (s : Step) → Quiet (perform S m s)
unfolding perform allocate swap load reserve check use_slot clear retire deliver handle
quiet_perform S m s = search (quiets, quiet_advance) depth 60

quiet_answer : (S : Settings) (m : State) (s : Step) → Quiet (answer S m s)
unfolding answer
quiet_answer S m s = search (quiets, quiet_perform)

-- a refused step, the number 1 too
pub step_refused : (I : List ℕ) (s : Step) → ((step I s).number ≡ 0 → ⊥) → ((step I s).value ≡ 0) × ((step I s).image ≡ I)
unfolding step
step_refused I s n =
    let q = (quiet_cond (damaged I) _ _ (quiet_refused 1) (quiet_answer (settings I) (view (settings I) I) s)).quiet n in
    (q.0, rw q.1)
