-- 01, The schedule program: what its input means, and what it writes for it. Input and output are lists of bytes.
use Prim.Native.Char.{Char, code}
use Prim.Native.String.{String, [] as no_more, ◌∷◌ as ◌and◌}
use Rattle.std.specs.Prelude.{Bool, cond, not, ◌&&◌, List, [], ◌∷◌, ◌++◌, ℕ, zero, suc, ◌+◌, ◌*◌, ◌/◌, ◌%◌, length, get_or, drop, eqb, leb, ltb}
use Rattle.rules.specs.declared.Settings.{Settings}
use Rattle.rules.specs.Tests.{bit}
use Rattle.rules.specs.Settings.{settings_count, settings_of, legal}
use Rattle.rules.specs.Image.{Outcome}
use Rattle.rules.specs.SetUp.{fresh}
use Rattle.rules.specs.Phases.{#advance}
use Rattle.rules.specs.declared.Step.{Step}
use Rattle.rules.specs.Replies.{step_of}
use Rattle.rules.specs.Schedules.{outcomes}

-- the most steps that a schedule has, and the words of a step
abbrev pub most_steps : ℕ
most_steps = 1000

abbrev pub step_words : ℕ
step_words = 5

-- word i of the input, from four bytes, the lowest first
unfoldable pub word : List ℕ → ℕ → ℕ
word bs i = get_or bs (i * 4) 0 + get_or bs (i * 4 + 1) 0 * 256 + get_or bs (i * 4 + 2) 0 * 65536 + get_or bs (i * 4 + 3) 0 * 16777216

-- the settings, how many steps there are, and step i: the count of the settings is word 0, that of the steps follows them
abbrev pub before_steps : ℕ
before_steps = 2 + settings_count

unfoldable pub given_settings : List ℕ → Settings
given_settings bs = settings_of (word bs 1) (word bs 2) (word bs 3) (word bs 4) (word bs 5) (word bs 6)

unfoldable pub given_count : List ℕ → ℕ
given_count bs = word bs (1 + settings_count)

unfoldable pub given_step : List ℕ → ℕ → Step
given_step bs i =
    let w : ℕ = before_steps + i * step_words in
    step_of (word bs w) (word bs (w + 1)) (word bs (w + 2)) (word bs (w + 3)) (word bs (w + 4))

-- the steps from step i on, n of them
unfoldable pub steps_from : List ℕ → ℕ → ℕ → List Step
steps_from bs i zero = []
steps_from bs i (suc n) = given_step bs i ∷ steps_from bs (suc i) n

abbrev pub given_steps : List ℕ → List Step
given_steps bs = steps_from bs 0 (given_count bs)

-- the input is a schedule: both counts are right, it ends where they say, and the settings are legal
unfoldable pub is_schedule : List ℕ → Bool
is_schedule bs =
    leb (before_steps * 4) (length bs) && eqb (word bs 0) settings_count && leb (given_count bs) most_steps
    && eqb (length bs) ((before_steps + given_count bs * step_words) * 4) && legal (given_settings bs)

-- a text's bytes
unfoldable pub ascii : String → List ℕ
ascii no_more = []
ascii (c and cs) = code c ∷ ascii cs

-- a number's digits: at most d of them, and a word has at most ten
unfoldable pub digits : ℕ → ℕ → List ℕ
digits zero n = []
digits (suc d) n = cond (ltb n 10) ((48 + n) ∷ []) (digits d (n / 10) ++ ((48 + n % 10) ∷ []))

abbrev pub decimal : ℕ → List ℕ
decimal n = digits 10 n

-- the line of step i, and the lines of steps from i on with what they gave
unfoldable pub line : ℕ → Step → Outcome → List ℕ
line i s o =
    decimal i ++ (ascii " " ++ (decimal s.op ++ (ascii " " ++ (decimal o.number ++ (ascii " " ++ (decimal o.value ++ ascii "\n"))))))

unfoldable pub lines : ℕ → List Step → List Outcome → List ℕ
lines i [] os = []
lines i (s ∷ ss) [] = []
lines i (s ∷ ss) (o ∷ os) = line i s o ++ lines (suc i) ss os

-- how many were accepted; how many advances freed a record
unfoldable pub accepted : List Outcome → ℕ
accepted [] = 0
accepted (o ∷ os) = bit (eqb o.number 0) + accepted os

unfoldable pub freed : List Step → List Outcome → ℕ
freed [] os = 0
freed (s ∷ ss) [] = 0
freed (s ∷ ss) (o ∷ os) = bit (eqb s.op #advance && eqb o.number 0 && eqb o.value 3) + freed ss os

unfoldable pub refusals_among : List Outcome → ℕ
refusals_among [] = 0
refusals_among (o ∷ os) = bit (not (eqb o.number 0)) + refusals_among os

unfoldable pub total : (accepted refused freed : ℕ) → List ℕ
total a r f =
    ascii "accepted " ++ (decimal a ++ (ascii " refused " ++ (decimal r ++ (ascii " freed " ++ (decimal f ++ ascii "\n")))))

-- what is written for a schedule: the header, a line a step, the total
unfoldable pub report : Settings → List Step → List ℕ
report S ss =
    let os : List Outcome = outcomes (fresh S) ss in
    ascii "step op code value\n" ++ (lines 0 ss os ++ total (accepted os) (refusals_among os) (freed ss os))

-- what is written for any input
unfoldable pub output : List ℕ → List ℕ
output bs = cond (is_schedule bs) (report (given_settings bs) (given_steps bs)) (ascii "bad input\n")

-- no output is longer than this: the header, at most 1,000 lines of four numbers of at most ten digits, the total
abbrev pub longest : ℕ
longest = 44075

-- a text at the start of a buffer: the bytes behind it stay; where it has no room nothing is written
unfoldable pub shown : List ℕ → List ℕ → List ℕ
shown text buffer = cond (leb (length text) (length buffer)) (text ++ drop (length text) buffer) buffer
