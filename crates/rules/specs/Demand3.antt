-- Demand 3: what holds of every history. A history is a list of steps of any content, run from a fresh set-up by the step
-- of these rules; its events are steps, their replies, and words of the images between them. Statements only: the proofs
-- are in proofs/Demand3.antt.
use Rattle.std.specs.Prelude.{◌≡◌, ◌≢◌, ◌⊎◌, Bool, true, false, not, ◌&&◌, List, ℕ, zero, suc, ◌+◌, ◌*◌, ◌≤◌, ◌<◌, length, get_or, take, eqb}
use Rattle.rules.specs.declared.Settings.{Settings}
use Rattle.rules.specs.Tests.{bit}
use Rattle.rules.specs.Settings.{legal, all_slots, settings}
use Rattle.rules.specs.Phases.{idle, collecting, freeing, #reserve, #check, #use, #clear, #retire, #advance}
use Rattle.rules.specs.State.{State, status, private, phase, u, w, list_length, entry}
use Rattle.rules.specs.Image.{view, Outcome}
use Rattle.rules.specs.Damaged.{damaged}
use Rattle.rules.specs.declared.Step.{Step}
use Rattle.rules.specs.Replies.{step_of}
use Rattle.rules.specs.Step.{step, marks_empty}
use Rattle.rules.specs.Schedules.{reached}

-- step i of a history, from 0; image i stands before it, and image i + 1 after it
unfoldable pub step_at : List Step → ℕ → Step
step_at ss i = get_or ss i (step_of 0 0 0 0 0)

unfoldable pub image_at : Settings → List Step → ℕ → List ℕ
image_at S ss i = reached S (take i ss)

-- the words of image i
abbrev pub state_at : Settings → List Step → ℕ → State
state_at S ss i = view S (image_at S ss i)

-- the reply to step i
abbrev pub reply_at : Settings → List Step → ℕ → Outcome
reply_at S ss i = step (image_at S ss i) (step_at ss i)

-- step i is an accepted one, of operation op by thread t
pub record Does (S : Settings) (ss : List Step) (i t op : ℕ) : Type 0 where
  pub there : i < length ss
  pub accepted : (reply_at S ss i).number ≡ 0
  pub by : (step_at ss i).thread ≡ t
  pub operation : (step_at ss i).op ≡ op

-- step i is a check of thread t that confirms record p in slot s
pub record Confirms (S : Settings) (ss : List Step) (i t s p : ℕ) : Type 0 where
  pub check : Does S ss i t #check
  pub equal : (reply_at S ss i).value ≡ 1
  pub slot : u (state_at S ss i) t ≡ s
  pub compared : w (state_at S ss i) t ≡ p
  pub some : p ≢ 0

-- step i writes slot s of thread t: a reserve whose slot word was s, or a clear of s
abbrev pub Overwrites : Settings → List Step → (i t s : ℕ) → Type 0
Overwrites S ss i t s =
    (Does S ss i t #reserve × (u (state_at S ss i) t ≡ s)) ⊎ (Does S ss i t #clear × ((step_at ss i).a ≡ s))

-- what a use of slot s by thread t is answered in image i; the other operands may be anything
abbrev pub use_reply : Settings → List Step → (i t s b c : ℕ) → Outcome
use_reply S ss i t s b c = step (image_at S ss i) (step_of t #use s b c)

-- unless it is refused 4, 5 or 6, it is done and gives record p
abbrev pub UseGives : Settings → List Step → (i t s p : ℕ) → Type 0
UseGives S ss i t s p =
    (b c : ℕ) → (use_reply S ss i t s b c).number ≢ 4 → (use_reply S ss i t s b c).number ≢ 5 → (use_reply S ss i t s b c).number ≢ 6
    → ((use_reply S ss i t s b c).number ≡ 0) × ((use_reply S ss i t s b c).value ≡ p)

-- 1. A confirmed record isn't freed before its slot is written, and the slot gives it: in every image j after the check
-- of step i, if no step between them writes the slot.
unfoldable pub ConfirmedStays : Type 0
ConfirmedStays =
    (S : Settings) → legal S ≡ true → (ss : List Step) (i t s p : ℕ) → Confirms S ss i t s p
    → (j : ℕ) → i < j → j ≤ length ss → ((k : ℕ) → i < k → k < j → ¬ (Overwrites S ss k t s))
    → (status (state_at S ss j) p ≢ 0) × UseGives S ss j t s p

-- step j ends a reclaim of thread a
pub record Ends (S : Settings) (ss : List Step) (a j : ℕ) : Type 0 where
  pub advance : Does S ss j a #advance
  pub before : phase (state_at S ss j) a ≡ freeing
  pub after : phase (state_at S ss (suc j)) a ≡ idle

-- a reclaim of thread a, whole: step i is the retire that begins it and step j the advance that ends it. In phases 3 to 7
-- a retire is refused, so that step i is the last one before step j
pub record Reclaim (S : Settings) (ss : List Step) (a i j : ℕ) : Type 0 where
  pub retire : Does S ss i a #retire
  pub begins : phase (state_at S ss (suc i)) a ≡ collecting
  pub order : i < j
  pub within : (k : ℕ) → i < k → k ≤ j → (collecting ≤ phase (state_at S ss k) a) × (phase (state_at S ss k) a ≤ freeing)
  pub ends : Ends S ss a j

-- record p stands on thread a's list; a private slot of some thread names it
abbrev pub Listed : State → (a p : ℕ) → Type 0
Listed m a p = (i : ℕ) × (i < list_length m a) × (entry m a i ≡ p)

abbrev pub SlotNames : Settings → State → ℕ → Type 0
SlotNames S m p = (x : ℕ) × (x < all_slots S) × (private m x ≡ p)

-- step k is an advance of thread a that frees record p
pub record Frees (S : Settings) (ss : List Step) (a p k : ℕ) : Type 0 where
  pub advance : Does S ss k a #advance
  pub value : (reply_at S ss k).value ≡ 3
  pub before : status (state_at S ss k) p ≢ 0
  pub after : status (state_at S ss (suc k)) p ≡ 0

-- what a reclaim from step i to step j does to a record of its list that no private slot names meanwhile
abbrev pub FreedBetween : Settings → List Step → (a i j p : ℕ) → Type 0
FreedBetween S ss a i j p =
    Listed (state_at S ss (suc i)) a p → ((k : ℕ) → i < k → k ≤ j → ¬ (SlotNames S (state_at S ss k) p))
    → ((k : ℕ) × (i < k) × (k ≤ j) × Frees S ss a p k) × (¬ (Listed (state_at S ss (suc j)) a p))

-- 2. Each end of a reclaim has its beginning; the reclaim frees what no slot named, and at most T×H records stay.
unfoldable pub ReclaimFrees : Type 0
ReclaimFrees =
    (S : Settings) → legal S ≡ true → (ss : List Step) (a j : ℕ) → Ends S ss a j
    → (i : ℕ) × Reclaim S ss a i j × ((p : ℕ) → FreedBetween S ss a i j p)
    × (list_length (state_at S ss (suc j)) a ≤ all_slots S)

-- step k is an advance of thread a that moves
unfoldable pub moving : Settings → List Step → (a k : ℕ) → Bool
moving S ss a k =
    eqb (reply_at S ss k).number 0 && eqb (step_at ss k).thread a && eqb (step_at ss k).op #advance
    && not (eqb (reply_at S ss k).value 0)

-- how many of the first n steps are
unfoldable pub moves : Settings → List Step → (a n : ℕ) → ℕ
moves S ss a zero = 0
moves S ss a (suc n) = moves S ss a n + bit (moving S ss a n)

-- 3. A reclaim takes 3×T + T×H + length advances that move, with the length that its retire left.
unfoldable pub ReclaimCosts : Type 0
ReclaimCosts =
    (S : Settings) → legal S ≡ true → (ss : List Step) (a i j : ℕ) → Reclaim S ss a i j
    → moves S ss a (suc j) ≡ moves S ss a (suc i) + (3 * S.threads + all_slots S + list_length (state_at S ss (suc i)) a)

-- 4. No step is answered 10: no list is full when a retire comes.
unfoldable pub NeverFull : Type 0
NeverFull = (S : Settings) → legal S ≡ true → (ss : List Step) (s : Step) → (step (reached S ss) s).number ≢ 10

-- 5. No image is damaged, nor would any step damage it, and its settings are those of the set-up.
unfoldable pub StaysUndamaged : Type 0
StaysUndamaged =
    (S : Settings) → legal S ≡ true → (ss : List Step)
    → (damaged (reached S ss) ≡ false) × ((s : Step) → marks_empty S (view S (reached S ss)) s ≡ false) × (settings (reached S ss) ≡ S)
