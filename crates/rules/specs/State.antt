-- An image seen as a state: its words by what 01 calls them. And the words that a step changes. The kinds of words are
-- declared with the code.
use Rattle.std.specs.Prelude.{Bool, true, List, [], ℕ}
use Rattle.rules.specs.declared.Kind.{Kind}
use Rattle.rules.specs.declared.Kind.TheVariants.{Cell, Status, Private, Published, Held, Count, Phase, U, V, W, Pending, Handler, Collected, Length, Entry, Scanned}

-- a word by its kind, its row and its place in the row
abbrev pub State : Type 0
State = Kind → ℕ → ℕ → ℕ

abbrev pub cell : State → ℕ → ℕ
cell m c = m Cell c 0

abbrev pub status : State → ℕ → ℕ
status m p = m Status p 0

-- slots and marks are counted over all threads
abbrev pub private : State → ℕ → ℕ
private m x = m Private x 0

abbrev pub published : State → ℕ → ℕ
published m x = m Published x 0

abbrev pub held : State → ℕ → ℕ
held m x = m Held x 0

abbrev pub count : State → ℕ → ℕ
count m t = m Count t 0

abbrev pub phase : State → ℕ → ℕ
phase m t = m Phase t 0

abbrev pub u : State → ℕ → ℕ
u m t = m U t 0

abbrev pub v : State → ℕ → ℕ
v m t = m V t 0

abbrev pub w : State → ℕ → ℕ
w m t = m W t 0

abbrev pub pending : State → ℕ → ℕ
pending m t = m Pending t 0

abbrev pub handler : State → ℕ → ℕ
handler m t = m Handler t 0

-- what reclaimer a collected of thread t
abbrev pub collected : State → ℕ → ℕ → ℕ
collected m a t = m Collected a t

abbrev pub list_length : State → ℕ → ℕ
list_length m t = m Length t 0

abbrev pub entry : State → ℕ → ℕ → ℕ
entry m t i = m Entry t i

-- what reclaimer a noted of slot x of all threads
abbrev pub scanned : State → ℕ → ℕ → ℕ
scanned m a x = m Scanned a x

-- a word that changes, or that changes only where a test holds
pub record Write : Type 0 where
  pub on : Bool
  pub kind : Kind
  pub row : ℕ
  pub place : ℕ
  pub word : ℕ

abbrev pub to : Kind → ℕ → ℕ → ℕ → Write
to k i j x = record { on = true; kind = k; row = i; place = j; word = x }

abbrev pub when : Bool → Write → Write
when b z = record { on = b; kind = z.kind; row = z.row; place = z.place; word = z.word }

abbrev pub cell≔ : ℕ → ℕ → Write
cell≔ c x = to Cell c 0 x

abbrev pub status≔ : ℕ → ℕ → Write
status≔ p x = to Status p 0 x

abbrev pub private≔ : ℕ → ℕ → Write
private≔ s x = to Private s 0 x

abbrev pub published≔ : ℕ → ℕ → Write
published≔ s x = to Published s 0 x

abbrev pub held≔ : ℕ → ℕ → Write
held≔ s x = to Held s 0 x

abbrev pub count≔ : ℕ → ℕ → Write
count≔ t x = to Count t 0 x

abbrev pub phase≔ : ℕ → ℕ → Write
phase≔ t x = to Phase t 0 x

abbrev pub u≔ : ℕ → ℕ → Write
u≔ t x = to U t 0 x

abbrev pub v≔ : ℕ → ℕ → Write
v≔ t x = to V t 0 x

abbrev pub w≔ : ℕ → ℕ → Write
w≔ t x = to W t 0 x

abbrev pub pending≔ : ℕ → ℕ → Write
pending≔ t x = to Pending t 0 x

abbrev pub handler≔ : ℕ → ℕ → Write
handler≔ t x = to Handler t 0 x

abbrev pub collected≔ : ℕ → ℕ → ℕ → Write
collected≔ a t x = to Collected a t x

abbrev pub list_length≔ : ℕ → ℕ → Write
list_length≔ t x = to Length t 0 x

abbrev pub entry≔ : ℕ → ℕ → ℕ → Write
entry≔ t i x = to Entry t i x

abbrev pub scanned≔ : ℕ → ℕ → ℕ → Write
scanned≔ a s x = to Scanned a s x

-- what a rule answers: a number, a value, and the words that change, in order, a later one over an earlier
pub record Answer : Type 0 where
  pub number : ℕ
  pub value : ℕ
  pub writes : List Write

abbrev pub done : ℕ → List Write → Answer
done x ws = record { number = 0; value = x; writes = ws }

-- a refusal has value 0 and changes no word
abbrev pub refused : ℕ → Answer
refused n = record { number = n; value = 0; writes = [] }
