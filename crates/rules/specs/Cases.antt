-- 01, Both sides of each edge: the cases marked (P), as one table. That they all pass is proved in proofs/CasesPass.antt.
use Rattle.std.specs.Prelude.{Bool, true, false, cond, not, ◌&&◌, ◌||◌, List, [], ◌∷◌, ℕ, eqb}
use Rattle.rules.specs.declared.Settings.{Settings}
use Rattle.rules.specs.Tests.{same}
use Rattle.rules.specs.Settings.{settings_of}
use Rattle.rules.specs.declared.Kind.{Kind}
use Rattle.rules.specs.declared.Kind.TheVariants.{Cell, Status, Private, Count, Pending, Collected, Length, Entry}
use Rattle.rules.specs.Image.{view, Outcome}
use Rattle.rules.specs.SetUp.{fresh}
use Rattle.rules.specs.Phases.{#allocate, #swap, #load, #reserve, #check, #use, #retire, #advance, #deliver, #handle}
use Rattle.rules.specs.declared.Step.{Step}
use Rattle.rules.specs.Replies.{step_of}
use Rattle.rules.specs.Step.{step}

-- a step with the reply that is expected
pub record Line : Type 0 where
  pub asked : Step
  pub number : ℕ
  pub value : ℕ

-- thread t does operation op with a, b and c: done, with value x; or refused, with number n
abbrev does : (t op a b c x : ℕ) → Line
does t op a b c x = record { asked = step_of t op a b c; number = 0; value = x }

abbrev refuses : (t op a b c n : ℕ) → Line
refuses t op a b c n = record { asked = step_of t op a b c; number = n; value = 0 }

abbrev advances : (t x : ℕ) → Line
advances t x = does t #advance 0 0 0 x

-- a word of the image that is expected
pub record Claim : Type 0 where
  pub kind : Kind
  pub row : ℕ
  pub place : ℕ
  pub word : ℕ

abbrev is : Kind → (i j x : ℕ) → Claim
is k i j x = record { kind = k; row = i; place = j; word = x }

-- a case: its settings, its steps with their replies, the words expected after every step, those expected at the end,
-- and whether the last step is expected to change no word
pub record Case : Type 0 where
  pub settings : Settings
  pub lines : List Line
  pub always : List Claim
  pub finally : List Claim
  pub quiet : Bool

unfoldable pub claims_hold : Settings → List ℕ → List Claim → Bool
claims_hold S I [] = true
claims_hold S I (c ∷ cs) = eqb (view S I c.kind c.row c.place) c.word && claims_hold S I cs

-- from image I on: every reply as expected, what is expected after every step, and of the last step and its image
unfoldable pub follows : Case → List ℕ → List Line → Bool
follows c I [] = claims_hold c.settings I c.finally
follows c I (l ∷ ls) =
    let o : Outcome = step I l.asked in
    eqb o.number l.number && eqb o.value l.value && claims_hold c.settings o.image c.always
    && (not (ends ls && c.quiet) || same o.image I) && follows c o.image ls
  where
    ends : List Line → Bool
    ends [] = true
    ends (x ∷ xs) = false

unfoldable pub passes : Case → Bool
passes c = follows c (fresh c.settings) c.lines

-- T=1, H=1, F=1: allocate, retire 1: five advances free it, and pending stays 0
freed : Case
freed = record {
  settings = settings_of 1 1 1 1 1 0;
  lines = does 0 #allocate 0 0 0 1 ∷ does 0 #retire 1 0 0 1 ∷ advances 0 1 ∷ advances 0 1 ∷ advances 0 1 ∷ advances 0 1 ∷ advances 0 3 ∷ [];
  always = is Pending 0 0 0 ∷ [];
  finally = is Status 1 0 0 ∷ is Length 0 0 0 ∷ [];
  quiet = false;
}

-- T=1, H=1, F=1: thread 0 confirms record 1, empties the cell, retires 1: kept
kept : Case
kept = record {
  settings = settings_of 1 1 1 1 1 0;
  lines =
      does 0 #allocate 0 0 0 1 ∷ does 0 #swap 0 0 1 1 ∷ does 0 #load 0 0 0 1 ∷ does 0 #reserve 0 0 0 1 ∷ does 0 #check 0 0 0 1
      ∷ does 0 #swap 0 1 0 1 ∷ does 0 #retire 1 0 0 1 ∷ advances 0 1 ∷ advances 0 1 ∷ advances 0 1 ∷ advances 0 1 ∷ advances 0 2 ∷ [];
  always = [];
  finally = is Status 1 0 2 ∷ is Length 0 0 1 ∷ is Entry 0 0 1 ∷ [];
  quiet = false;
}

-- count 4,294,967,295 collected, now 0: the wait passes
wrapped : Case
wrapped = record {
  settings = settings_of 2 1 1 1 1 4294967295;
  lines =
      does 0 #allocate 0 0 0 1 ∷ does 0 #retire 1 0 0 1 ∷ advances 0 1 ∷ advances 0 1 ∷ advances 0 1 ∷ advances 0 1
      ∷ does 1 #deliver 0 0 0 1 ∷ does 1 #handle 0 0 0 1 ∷ does 1 #handle 0 0 0 2 ∷ advances 0 1 ∷ advances 0 1 ∷ [];
  always = [];
  finally = is Collected 0 1 4294967295 ∷ is Count 1 0 0 ∷ [];
  quiet = false;
}

-- count 7 collected, still 7: value 0, image unchanged
stuck : Case
stuck = record {
  settings = settings_of 2 1 1 1 1 7;
  lines =
      does 0 #allocate 0 0 0 1 ∷ does 0 #retire 1 0 0 1 ∷ advances 0 1 ∷ advances 0 1 ∷ advances 0 1 ∷ advances 0 1
      ∷ advances 0 1 ∷ advances 0 0 ∷ [];
  always = [];
  finally = is Collected 0 1 7 ∷ is Count 1 0 7 ∷ [];
  quiet = true;
}

-- R=1: the second allocate is refused 7; after a free it gives 1
reused : Case
reused = record {
  settings = settings_of 1 1 1 1 1 0;
  lines =
      does 0 #allocate 0 0 0 1 ∷ refuses 0 #allocate 0 0 0 7 ∷ does 0 #retire 1 0 0 1 ∷ advances 0 1 ∷ advances 0 1
      ∷ advances 0 1 ∷ advances 0 1 ∷ advances 0 3 ∷ does 0 #allocate 0 0 0 1 ∷ [];
  always = [];
  finally = [];
  quiet = false;
}

-- F=2: retire of a record that a cell names: 9; with the cell emptied it is taken, and the same retire again: 8
named_first : Case
named_first = record {
  settings = settings_of 1 1 1 1 2 0;
  lines =
      does 0 #allocate 0 0 0 1 ∷ does 0 #swap 0 0 1 1 ∷ refuses 0 #retire 1 0 0 9 ∷ does 0 #swap 0 1 0 1
      ∷ does 0 #retire 1 0 0 1 ∷ refuses 0 #retire 1 0 0 8 ∷ [];
  always = [];
  finally = [];
  quiet = true;
}

-- its parenthesis: with F=1 the second retire meets 6, as the thread is in its reclaim
named_then_busy : Case
named_then_busy = record {
  settings = settings_of 1 1 1 1 1 0;
  lines =
      does 0 #allocate 0 0 0 1 ∷ does 0 #swap 0 0 1 1 ∷ refuses 0 #retire 1 0 0 9 ∷ does 0 #swap 0 1 0 1
      ∷ does 0 #retire 1 0 0 1 ∷ refuses 0 #retire 1 0 0 6 ∷ [];
  always = [];
  finally = [];
  quiet = true;
}

-- load into slot H refused 4, into slot H−1 taken
last_slot : Case
last_slot = record {
  settings = settings_of 1 3 1 1 1 0;
  lines = refuses 0 #load 3 0 0 4 ∷ does 0 #load 2 0 0 0 ∷ [];
  always = [];
  finally = [];
  quiet = false;
}

-- a ping while the handler runs: pending 1 afterwards, deliver refused 5. Threads 0 and 2 reclaim, thread 1 handles
pinged_twice : Case
pinged_twice = record {
  settings = settings_of 3 1 1 2 1 0;
  lines =
      does 0 #allocate 0 0 0 1 ∷ does 0 #allocate 0 0 0 2 ∷ does 0 #retire 1 0 0 1 ∷ does 2 #retire 2 0 0 1
      ∷ advances 0 1 ∷ advances 0 1 ∷ advances 0 1 ∷ advances 0 1 ∷ advances 0 1 ∷ does 1 #deliver 0 0 0 1
      ∷ advances 2 1 ∷ advances 2 1 ∷ advances 2 1 ∷ advances 2 1 ∷ advances 2 1 ∷ refuses 1 #deliver 0 0 0 5
      ∷ does 1 #handle 0 0 0 1 ∷ does 1 #handle 0 0 0 2 ∷ [];
  always = [];
  finally = is Pending 1 0 1 ∷ [];
  quiet = false;
}

-- a swap whose new record is retired and whose expected differs: 8
dead_swap : Case
dead_swap = record {
  settings = settings_of 1 1 1 1 2 0;
  lines = does 0 #allocate 0 0 0 1 ∷ does 0 #retire 1 0 0 1 ∷ refuses 0 #swap 0 1 1 8 ∷ [];
  always = is Cell 0 0 0 ∷ [];
  finally = is Status 1 0 2 ∷ [];
  quiet = true;
}

-- a cell emptied between load and check: check 0, use refused 11; the slot stays as reserved
emptied : Case
emptied = record {
  settings = settings_of 2 1 1 1 1 0;
  lines =
      does 0 #allocate 0 0 0 1 ∷ does 0 #swap 0 0 1 1 ∷ does 1 #load 0 0 0 1 ∷ does 0 #swap 0 1 0 1 ∷ does 1 #reserve 0 0 0 1
      ∷ does 1 #check 0 0 0 0 ∷ refuses 1 #use 0 0 0 11 ∷ [];
  always = [];
  finally = is Private 1 0 1 ∷ [];
  quiet = true;
}

-- the table
unfoldable pub table : List Case
unfolding freed kept wrapped stuck reused named_first named_then_busy last_slot pinged_twice dead_swap emptied
table =
    freed ∷ kept ∷ wrapped ∷ stuck ∷ reused ∷ named_first ∷ named_then_busy ∷ last_slot ∷ pinged_twice ∷ dead_swap ∷ emptied ∷ []

unfoldable pub all_pass : List Case → Bool
all_pass [] = true
all_pass (c ∷ cs) = passes c && all_pass cs
