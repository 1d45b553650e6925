-- 01, Settings. The record itself is declared with the code: threads T, slots H, cells C, records R, threshold F, start S.
use Rattle.std.specs.Prelude.{Bool, ◌&&◌, List, [], ◌∷◌, ℕ, ◌+◌, ◌*◌, ◌^◌, max, ltb, get_or}
use Rattle.rules.specs.declared.Settings.{Settings}
use Rattle.rules.specs.Tests.{from_to}

-- how many settings there are
abbrev pub settings_count : ℕ
settings_count = 6

-- publish counts are below this number: after the largest comes 0
abbrev pub modulus : ℕ
modulus = 2 ^ 32

-- the limits; S is any publish count
unfoldable pub legal : Settings → Bool
legal S =
    from_to 1 16 S.threads && from_to 1 8 S.slots && from_to 1 256 S.cells && from_to 1 1024 S.records
    && from_to 1 256 S.threshold && ltb S.start modulus

-- the slots of all threads, T×H
abbrev pub all_slots : Settings → ℕ
all_slots S = S.threads * S.slots

-- slot s of thread t among the slots of all threads, a row a thread
abbrev pub slot : Settings → ℕ → ℕ → ℕ
slot S t s = t * S.slots + s

-- list room L
unfoldable pub room : Settings → ℕ
room S = max S.threshold (all_slots S + 1)

-- the settings as words, in their order
unfoldable pub settings_words : Settings → List ℕ
settings_words S = S.threads ∷ S.slots ∷ S.cells ∷ S.records ∷ S.threshold ∷ S.start ∷ []

-- T, H, C, R, F, S
abbrev pub settings_of : (t h c r f s : ℕ) → Settings
settings_of t h c r f s = record { threads = t; slots = h; cells = c; records = r; threshold = f; start = s }

-- the settings of an image: its words after the first count
unfoldable pub settings : List ℕ → Settings
settings I = settings_of (get_or I 1 0) (get_or I 2 0) (get_or I 3 0) (get_or I 4 0) (get_or I 5 0) (get_or I 6 0)
