-- 01, The image: its sections as one layout table, the state that an image holds, and the words written to it.
use Rattle.std.specs.Prelude.{Bool, cond, ◌&&◌, List, [], ◌∷◌, ℕ, zero, suc, ◌+◌, ◌*◌, ◌-◌, get_or, set, leb, ltb}
use Rattle.rules.specs.declared.Settings.{Settings}
use Rattle.rules.specs.Settings.{settings_count, all_slots, room}
use Rattle.rules.specs.declared.Kind.{Kind}
use Rattle.rules.specs.declared.Kind.TheVariants.{Cell, Status, Private, Published, Held, Count, Phase, U, V, W, Pending, Handler, Collected, Length, Entry, Scanned}
use Rattle.rules.specs.State.{State, Write, Answer}

-- how many sections there are; how many words a thread has in its section
abbrev pub sections : ℕ
sections = 11

abbrev pub thread_words : ℕ
thread_words = 6

-- the words of each section, in the order of 01's list; the first is section 0
unfoldable pub sizes : Settings → List ℕ
sizes S =
    settings_count
    ∷ S.cells
    ∷ S.records
    ∷ all_slots S
    ∷ all_slots S
    ∷ all_slots S
    ∷ S.threads
    ∷ S.threads * thread_words
    ∷ S.threads * S.threads
    ∷ S.threads * (room S + 1)
    ∷ S.threads * all_slots S
    ∷ []

unfoldable pub size : Settings → ℕ → ℕ
size S k = get_or (sizes S) k 0

-- the words before section k: there its count stands, and its own words after that
unfoldable pub start : Settings → ℕ → ℕ
start S zero = 0
start S (suc k) = start S k + (1 + size S k)

-- the words of the whole image
abbrev pub words : Settings → ℕ
words S = start S sections

-- where the words of a kind stand: in which section, the number of the first row, how many rows, how wide a row is,
-- where in a row the kind's words begin, and how many there are in a row
pub record Lay : Type 0 where
  pub section : ℕ
  pub from : ℕ
  pub rows : ℕ
  pub width : ℕ
  pub offset : ℕ
  pub span : ℕ

abbrev lay_of : ℕ → ℕ → ℕ → ℕ → ℕ → ℕ → Lay
lay_of s f r w o n = record { section = s; from = f; rows = r; width = w; offset = o; span = n }

-- the layout table
--                       section from rows            width           offset span
abbrev pub lay : Settings → Kind → Lay
lay S Cell = lay_of 1 0 S.cells 1 0 1
lay S Status = lay_of 2 1 S.records 1 0 1
lay S Private = lay_of 3 0 (all_slots S) 1 0 1
lay S Published = lay_of 4 0 (all_slots S) 1 0 1
lay S Held = lay_of 5 0 (all_slots S) 1 0 1
lay S Count = lay_of 6 0 S.threads 1 0 1
lay S Phase = lay_of 7 0 S.threads thread_words 0 1
lay S U = lay_of 7 0 S.threads thread_words 1 1
lay S V = lay_of 7 0 S.threads thread_words 2 1
lay S W = lay_of 7 0 S.threads thread_words 3 1
lay S Pending = lay_of 7 0 S.threads thread_words 4 1
lay S Handler = lay_of 7 0 S.threads thread_words 5 1
lay S Collected = lay_of 8 0 S.threads S.threads 0 S.threads
lay S Length = lay_of 9 0 S.threads (room S + 1) 0 1
lay S Entry = lay_of 9 0 S.threads (room S + 1) 1 (room S)
lay S Scanned = lay_of 10 0 S.threads (all_slots S) 0 (all_slots S)

-- the place of a word among those of its section, and its index in the image, after the section's count
unfoldable pub within : Settings → Kind → ℕ → ℕ → ℕ
within S k i j = (i - (lay S k).from) * (lay S k).width + ((lay S k).offset + j)

unfoldable pub address : Settings → Kind → ℕ → ℕ → ℕ
address S k i j = start S (lay S k).section + 1 + within S k i j

-- there is such a word
unfoldable pub is_word : Settings → Kind → ℕ → ℕ → Bool
is_word S k i j = leb (lay S k).from i && ltb i ((lay S k).from + (lay S k).rows) && ltb j (lay S k).span

-- the state that an image holds; what is no word of it reads 0
unfoldable pub view : Settings → List ℕ → State
view S I k i j = cond (is_word S k i j) (get_or I (address S k i j) 0) 0

-- the image with a word written, with words written in order
abbrev pub write : Settings → List ℕ → Write → List ℕ
write S I z = cond z.on (set I (address S z.kind z.row z.place) z.word) I

abbrev pub write_all : Settings → List ℕ → List Write → List ℕ
write_all S I [] = I
write_all S I (z ∷ zs) = write_all S (write S I z) zs

-- what a caller sees of a call: the number, the value and the image afterwards
pub record Outcome : Type 0 where
  pub number : ℕ
  pub value : ℕ
  pub image : List ℕ

abbrev pub outcome : ℕ → ℕ → List ℕ → Outcome
outcome n x I = record { number = n; value = x; image = I }

-- an answer, carried out on an image
abbrev pub after : Settings → List ℕ → Answer → Outcome
after S I a = outcome a.number a.value (write_all S I a.writes)
