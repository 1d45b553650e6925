-- 01, Replies by number: 2 to 11, tested in its order. And what the code's enums and results say in these terms.
use Rattle.std.specs.Prelude.{◌≡◌, Bool, cond, not, ◌&&◌, ◌||◌, List, [], ◌∷◌, ℕ, ◌+◌, ◌≤◌, get_or, eqb, leb, ltb, Result, Ok, Err, MatchResult}
use Rattle.rules.specs.declared.Settings.{Settings}
use Rattle.rules.specs.declared.Step.{Step}
use Rattle.rules.specs.declared.Operation.{Operation}
use Rattle.rules.specs.declared.Operation.TheVariants.{Allocate, Swap, Load, Reserve, Check, Use, Clear, Retire, Advance, Deliver, Handle}
use Rattle.rules.specs.declared.Phase.{Phase}
use Rattle.rules.specs.declared.Phase.TheVariants.{Idle, Loaded, Reserved, Collecting, Pinging, Waiting, Scanning, Freeing}
use Rattle.rules.specs.declared.Why.{Why}
use Rattle.rules.specs.declared.Why.TheVariants.{Damaged, NoSuchOperation, NoSuchThread, OperandBeyond, HandlerRunning, PhaseForbids, NoneFree, NotLive, CellNames, ListFull, NotHeld}
use Rattle.rules.specs.declared.Part.{Part}
use Rattle.rules.specs.declared.NoSetUp.{NoSetUp}
use Rattle.rules.specs.declared.NoSetUp.TheVariants.{SettingBeyond, WrongLength}
use Rattle.rules.specs.Settings.{slot, room}
use Rattle.rules.specs.Phases.{operations, phases, idle, loaded, reserved, collecting, pinging, waiting, scanning, freeing, allows, #allocate, #swap, #load, #reserve, #check, #use, #clear, #retire, #advance, #deliver, #handle}
use Rattle.rules.specs.State.{State, status, held, phase, pending, handler, list_length}
use Rattle.rules.specs.Operations.{lowest_free, named}

-- a step: five words, in their order
abbrev pub step_of : (thread op a b c : ℕ) → Step
step_of t op a b c = record { thread = t; op = op; a = a; b = b; c = c }

-- what an operand is, and what it must be below: one that isn't listed is 0
pub data Operand : Type 0 where
  not_listed a_slot a_cell a_record : Operand

abbrev pub limit : Settings → Operand → ℕ
limit S not_listed = 1
limit S a_slot = S.slots
limit S a_cell = S.cells
limit S a_record = S.records + 1

-- the operands of each operation, in their order
unfoldable pub operands : List (List Operand)
operands =
    []
    ∷ (a_cell ∷ a_record ∷ a_record ∷ [])
    ∷ (a_slot ∷ a_cell ∷ [])
    ∷ []
    ∷ []
    ∷ (a_slot ∷ [])
    ∷ (a_slot ∷ [])
    ∷ (a_record ∷ [])
    ∷ []
    ∷ []
    ∷ []
    ∷ []

-- operand i of the operation may be x
unfoldable pub fits : Settings → (op i x : ℕ) → Bool
fits S op i x = ltb x (limit S (get_or (get_or operands op []) i not_listed))

unfoldable pub operands_fit : Settings → Step → Bool
operands_fit S s = fits S s.op 0 s.a && fits S s.op 1 s.b && fits S s.op 2 s.c

-- a row of the table: a number, and when it is given
pub record Ground : Type 0 where
  pub number : ℕ
  pub given : Bool

infix 20 ◌if◌
abbrev pub ◌if◌ : ℕ → Bool → Ground
n if b = record { number = n; given = b }

-- the first number that is given, 0 if none is
abbrev pub first_given : List Ground → ℕ
first_given [] = 0
first_given (g ∷ gs) = cond g.given g.number (first_given gs)

module _ (S : Settings) (m : State) (s : Step) where
  abbrev is : ℕ → Bool
  is op = eqb s.op op

  unfoldable pub phase_forbids : Bool
  phase_forbids =
      not (allows s.op (phase m s.thread)) || is #deliver && eqb (pending m s.thread) 0
      || is #handle && eqb (handler m s.thread) 0

  unfoldable pub not_live : Bool
  not_live =
      is #swap && (not (eqb s.c 0) && not (eqb (status m s.c) 1)) || is #retire && not (eqb (status m s.a) 1)

  -- the table, 2 to 11
  unfoldable pub refusals : List Ground
  refusals =
      (2 if leb operations s.op)
      ∷ (3 if leb S.threads s.thread)
      ∷ (4 if not (operands_fit S s) || is #retire && eqb s.a 0)
      ∷ (5 if not (eqb (handler m s.thread) 0) && leb s.op #deliver)
      ∷ (6 if phase_forbids)
      ∷ (7 if is #allocate && eqb (lowest_free m S.records) 0)
      ∷ (8 if not_live)
      ∷ (9 if is #retire && named S m s.a)
      ∷ (10 if is #retire && eqb (list_length m s.thread) (room S))
      ∷ (11 if is #use && eqb (held m (slot S s.thread s.a)) 0)
      ∷ []

  unfoldable pub refusal : ℕ
  refusal = first_given refusals

-- the operations and the phases as the code has them
abbrev pub op_number : Operation → ℕ
op_number Allocate = #allocate
op_number Swap = #swap
op_number Load = #load
op_number Reserve = #reserve
op_number Check = #check
op_number Use = #use
op_number Clear = #clear
op_number Retire = #retire
op_number Advance = #advance
op_number Deliver = #deliver
op_number Handle = #handle

abbrev pub phase_number : Phase → ℕ
phase_number Idle = idle
phase_number Loaded = loaded
phase_number Reserved = reserved
phase_number Collecting = collecting
phase_number Pinging = pinging
phase_number Waiting = waiting
phase_number Scanning = scanning
phase_number Freeing = freeing

-- why a step is refused: a number for each of its cases
abbrev pub why_number : Why → ℕ
why_number Damaged = 1
why_number NoSuchOperation = 2
why_number NoSuchThread = 3
why_number OperandBeyond = 4
why_number HandlerRunning = 5
why_number PhaseForbids = 6
why_number NoneFree = 7
why_number NotLive = 8
why_number CellNames = 9
why_number ListFull = 10
why_number NotHeld = 11

-- a number names an operation, or none
abbrev pub NamesOperation : ℕ → Result Operation Why → Type 0
NamesOperation n r = MatchResult r (λ o. op_number o ≡ n) (λ why. (why ≡ NoSuchOperation) × (operations ≤ n))

-- a word names a phase, or an image that has it there is damaged
abbrev pub NamesPhase : ℕ → Result Phase Why → Type 0
NamesPhase n r = MatchResult r (λ p. phase_number p ≡ n) (λ why. (why ≡ Damaged) × (phases ≤ n))

-- the answer of a step or of a question: a number, and a step's value
abbrev pub number_of : {A : Type 0} → Result A Why → ℕ
number_of (Ok x) = 0
number_of (Err why) = why_number why

abbrev pub value_of : Result ℕ Why → ℕ
value_of (Ok x) = x
value_of (Err why) = 0

-- the part that the list question hands back: nothing from the start where it is refused
abbrev pub from_of : Result Part Why → ℕ
from_of (Ok part) = part.from
from_of (Err why) = 0

abbrev pub length_of : Result Part Why → ℕ
length_of (Ok part) = part.length
length_of (Err why) = 0

-- why a set-up is refused, and its answer
abbrev pub no_set_up_number : NoSetUp → ℕ
no_set_up_number SettingBeyond = 12
no_set_up_number WrongLength = 13

abbrev pub set_up_number_of : {A : Type 0} → Result A NoSetUp → ℕ
set_up_number_of (Ok x) = 0
set_up_number_of (Err why) = no_set_up_number why
