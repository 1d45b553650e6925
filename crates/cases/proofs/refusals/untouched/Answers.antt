-- Either each word passes the test, or one fails it.
use Rattle.std.proofs.Common.{◌≡◌, ℕ, ◌<◌, List, Bool, true, false, length, get_or, eqb, sym, arith, rules}
use Rattle.std.specs.Bool.{MatchBool}
use Rattle.std.specs.List.{AllWithin, HoldsAt}
use Rattle.std.proofs.lemmas.Iterator.{cases_from_all, YieldsList-from_slice}
use borrow.Author.Tests.{tests}
use Rattle.rules.specs.Tests.{all}
use Rattle.rules.proofs.Laws.{all_yes, all_no}
use Rattle.cases.proofs.refusals.untouched.Goals as goal

decided : (f : ℕ → Bool) (xs : List ℕ) (b : Bool) → MatchBool b (AllWithin (λ x. f x ≡ true) xs 0 (length xs)) ((k : ℕ) × (k < length xs) × HoldsAt (λ x. f x ≡ false) xs k) → b ≡ all (length xs) (λ i. f (get_or xs i 0))
decided f xs true h = sym (all_yes _ (length xs) (λ i l. h i 0 (omega arith) l))
decided f xs false h = sym (all_no _ (length xs) h.1 (h.2 0))

pub returns : goal.returns
returns c = decided (λ x. eqb x 7) c.args.words.now _ (cases_from_all _ _ _ (λ x. eqb x 7 ≡ true) (λ x. eqb x 7 ≡ false) c.all.ensures.ran (YieldsList-from_slice c.args.words.now cc) (λ x q k. search (rules, tests)) (λ x q k. search (rules, tests)))
