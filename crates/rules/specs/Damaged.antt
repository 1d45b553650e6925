-- 01, The image: when it is damaged. Its list, in its order; each test says what holds of an image that isn't.
use Rattle.std.specs.Prelude.{Bool, cond, not, ◌&&◌, ◌||◌, List, ℕ, suc, ◌+◌, ◌*◌, length, get_or, eqb, leb, ltb}
use Rattle.rules.specs.declared.Settings.{Settings}
use Rattle.rules.specs.Tests.{from_to, all}
use Rattle.rules.specs.Settings.{legal, all_slots, room, settings}
use Rattle.rules.specs.Phases.{phases, idle, loaded, reserved, collecting, waiting, scanning, freeing}
use Rattle.rules.specs.State.{State, cell, status, private, published, held, phase, u, v, w, pending, handler, list_length, entry, scanned}
use Rattle.rules.specs.Image.{sections, size, start, words, view}

-- the length and each count are what the settings give
unfoldable pub laid : Settings → List ℕ → Bool
laid S I = eqb (length I) (words S) && all sections (λ k. eqb (get_or I (start S k) 0) (size S k))

-- no cell, slot, list entry or scanned word exceeds R
unfoldable pub records_right : Settings → State → Bool
records_right S m =
    all S.cells (λ c. leb (cell m c) S.records)
    && all (all_slots S) (λ x. leb (private m x) S.records)
    && all (all_slots S) (λ x. leb (published m x) S.records)
    && all S.threads (λ t. all (room S) (λ i. leb (entry m t i) S.records))
    && all S.threads (λ t. all (all_slots S) (λ x. leb (scanned m t x) S.records))

-- no status exceeds 2
unfoldable pub statuses_right : Settings → State → Bool
statuses_right S m = all S.records (λ i. leb (status m (i + 1)) 2)

-- no held mark exceeds 1, and none is 1 beside a private slot of 0
unfoldable pub marks_right : Settings → State → Bool
marks_right S m =
    all (all_slots S) (λ x. leb (held m x) 1)
    && all (all_slots S) (λ x. eqb (held m x) 0 || not (eqb (private m x) 0))

-- position i of a list is in use: p, u and v are the thread's phase and words, n the list's length
unfoldable pub in_use : (n p u v i : ℕ) → Bool
in_use n p u v i = cond (eqb p freeing) (ltb i v || leb u i && ltb i n) (ltb i n)

-- no entry in use is 0
unfoldable pub entries_right : Settings → State → ℕ → Bool
entries_right S m t =
    all (room S) (λ i. not (in_use (list_length m t) (phase m t) (u m t) (v m t) i) || not (eqb (entry m t i) 0))

-- the phase lines: what u, v and w are in phase p, and, from 3 on, a list of at least one
unfoldable pub phase_line : Settings → (n p u v w : ℕ) → Bool
phase_line S n p u v w =
    eqb p idle && eqb u 0 && eqb v 0 && eqb w 0
    || from_to loaded reserved p && ltb u S.slots && ltb v S.cells && leb w S.records
    || from_to collecting waiting p && leb 1 n && ltb u S.threads && eqb v 0 && eqb w 0
    || eqb p scanning && leb 1 n && ltb u (all_slots S) && eqb v 0 && eqb w 0
    || eqb p freeing && leb 1 n && ltb u n && leb v u && eqb w 0

-- a thread: pending, handler, the list's length and entries, the phase and its line
unfoldable pub thread_right : Settings → State → ℕ → Bool
thread_right S m t =
    leb (pending m t) 1 && leb (handler m t) (S.slots + 1) && leb (list_length m t) (room S) && entries_right S m t
    && ltb (phase m t) phases && phase_line S (list_length m t) (phase m t) (u m t) (v m t) (w m t)

-- all words of a state
unfoldable pub right : Settings → State → Bool
right S m =
    records_right S m && statuses_right S m && marks_right S m && all S.threads (λ t. thread_right S m t)

unfoldable pub undamaged : List ℕ → Bool
undamaged I = legal (settings I) && laid (settings I) I && right (settings I) (view (settings I) I)

abbrev pub damaged : List ℕ → Bool
damaged I = not (undamaged I)
