-- 01, Phases, and Steps: the phases and the operations by name, and which phases allow each operation.
use Rattle.std.specs.Prelude.{Bool, true, false, List, [], ◌∷◌, ℕ, get_or}

-- how many operations there are, and how many phases
abbrev pub operations : ℕ
operations = 11

abbrev pub phases : ℕ
phases = 8

abbrev pub idle : ℕ
idle = 0

abbrev pub loaded : ℕ
loaded = 1

abbrev pub reserved : ℕ
reserved = 2

abbrev pub collecting : ℕ
collecting = 3

abbrev pub pinging : ℕ
pinging = 4

abbrev pub waiting : ℕ
waiting = 5

abbrev pub scanning : ℕ
scanning = 6

abbrev pub freeing : ℕ
freeing = 7

abbrev pub #allocate : ℕ
#allocate = 0

abbrev pub #swap : ℕ
#swap = 1

abbrev pub #load : ℕ
#load = 2

abbrev pub #reserve : ℕ
#reserve = 3

abbrev pub #check : ℕ
#check = 4

abbrev pub #use : ℕ
#use = 5

abbrev pub #clear : ℕ
#clear = 6

abbrev pub #retire : ℕ
#retire = 7

abbrev pub #advance : ℕ
#advance = 8

abbrev pub #deliver : ℕ
#deliver = 9

abbrev pub #handle : ℕ
#handle = 10

-- allowed, forbidden
abbrev ● : Bool
● = true

abbrev ○ : Bool
○ = false

-- a row an operation, a column a phase
unfoldable pub allowed : List (List Bool)
allowed =
    -- 0    1   2   3   4   5   6   7
    (● ∷ ○ ∷ ○ ∷ ○ ∷ ○ ∷ ○ ∷ ○ ∷ ○ ∷ [])
    ∷ (● ∷ ○ ∷ ○ ∷ ○ ∷ ○ ∷ ○ ∷ ○ ∷ ○ ∷ [])
    ∷ (● ∷ ○ ∷ ○ ∷ ○ ∷ ○ ∷ ○ ∷ ○ ∷ ○ ∷ [])
    ∷ (○ ∷ ● ∷ ○ ∷ ○ ∷ ○ ∷ ○ ∷ ○ ∷ ○ ∷ [])
    ∷ (○ ∷ ○ ∷ ● ∷ ○ ∷ ○ ∷ ○ ∷ ○ ∷ ○ ∷ [])
    ∷ (● ∷ ○ ∷ ○ ∷ ○ ∷ ○ ∷ ○ ∷ ○ ∷ ○ ∷ [])
    ∷ (● ∷ ○ ∷ ○ ∷ ○ ∷ ○ ∷ ○ ∷ ○ ∷ ○ ∷ [])
    ∷ (● ∷ ○ ∷ ○ ∷ ○ ∷ ○ ∷ ○ ∷ ○ ∷ ○ ∷ [])
    ∷ (○ ∷ ○ ∷ ○ ∷ ● ∷ ● ∷ ● ∷ ● ∷ ● ∷ [])
    ∷ (● ∷ ● ∷ ● ∷ ● ∷ ● ∷ ● ∷ ● ∷ ● ∷ [])
    ∷ (● ∷ ● ∷ ● ∷ ● ∷ ● ∷ ● ∷ ● ∷ ● ∷ [])
    ∷ []

unfoldable pub allows : ℕ → ℕ → Bool
allows op p = get_or (get_or allowed op []) p false
