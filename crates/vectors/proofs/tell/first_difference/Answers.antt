-- The search goes over the pairs of the two runs, of which there are as many as the shorter has.
use Rattle.std.proofs.Common.{◌≡◌, ℕ, ◌<◌, ◌≤◌, List, Bool, true, false, Option, None, Some, length, get_or, min, arith, rules}
use Rattle.std.specs.Option.{MatchOption, unwrap_or}
use Rattle.std.specs.List.{AllWithin, HoldsAt, zip}
use Rattle.std.proofs.lemmas.Iterator.{IsFirst-from_position, YieldsList-from_slice, YieldsList-from_zip}
use Rattle.std.proofs.lemmas.Slice.Zip.{length-zip, get_or-zip}
use borrow.Author.Tests.{tests}
use Rattle.vectors.specs.Compared.{Same, First}
use Rattle.vectors.proofs.tell.first_difference.Goals as goal

-- what the test says of a pair
abbrev says : {A : Type 0} → (A → A → Bool) → Bool → A × A → Type 0
says eq b p = eq p.0 p.1 ≡ b

module _ {A : Type 0} (eq : A → A → Bool) (xs ys : List A) where
  at : (b : Bool) (i : ℕ) (d : A) → i < length xs → i < length ys → says eq b (get_or (zip xs ys) i (d, d)) → eq (get_or xs i d) (get_or ys i d) ≡ b
  at b i d h j e = rw (get_or-zip xs ys i (d, d) h j) at e

  below : (k : ℕ) → k ≤ length xs → k ≤ length ys → AllWithin (says eq true) (zip xs ys) 0 k → Same eq xs ys k
  unfolding Same
  below k h j s = λ i d l. at true i d (omega arith) (omega arith) (s i (d, d) (omega arith) l)

  -- no pair differs, or one is the first that does
  first : (r : Option ℕ) → MatchOption r (AllWithin (says eq true) (zip xs ys) 0 (length (zip xs ys))) (λ i. (i < length (zip xs ys)) × HoldsAt (says eq false) (zip xs ys) i × AllWithin (says eq true) (zip xs ys) 0 i) → First eq xs ys (unwrap_or r (min (length xs) (length ys)))
  first None h = let e = length-zip xs ys in
      record { within = omega arith; within_too = omega arith; before = below _ (omega arith) (omega arith) (rw (← e) h); there = λ d p q. absurd (omega arith) }
  first (Some i) h = let e = length-zip xs ys in let l = h.0 in
      record { within = omega arith; within_too = omega arith; before = below i (omega arith) (omega arith) h.2; there = λ d p q. at false i d p q (h.1 (d, d)) }

pub returns : goal.returns
returns g c =
    let h = IsFirst-from_position c.position.new.self _ c.position.result (says g.T.PartialEq.eq false) (says g.T.PartialEq.eq true) c.position.ensures.ran (YieldsList-from_zip (YieldsList-from_slice c.args.a.now cc) (YieldsList-from_slice c.args.b.now cc)) (λ x q k. search (rules, tests)) (λ x q k. search (rules, tests)) in
    rw (c.unwrap_or.ensures, c.min.ensures) (first g.T.PartialEq.eq c.args.a.now c.args.b.now c.position.result h)
