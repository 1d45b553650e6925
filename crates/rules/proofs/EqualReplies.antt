-- Two replies that fit a contract are equal: a line for each public function, over the clause that it ensures.
use mathlib.Core.Path.{◌≡◌, refl, sym, ap, ◌∙◌}
use mathlib.Core.Bool.{Bool, cond}
use mathlib.Core.List.{List, [], ◌∷◌}
use Prim.Native.Nat.{ℕ, ◌+◌, ◌*◌}
use lib.ListN.{length, get_or}
use lib.Dec.{eqb, leb}
use native.Mathlib.Omega.{arith}
use Rattle.rules.specs.Tests.{bit}
use Rattle.rules.specs.declared.Why.{Why}
use Rattle.rules.specs.declared.Why.TheVariants.{Damaged, NoSuchOperation, NoSuchThread, OperandBeyond, HandlerRunning, PhaseForbids, NoneFree, NotLive, CellNames, ListFull, NotHeld}
use Rattle.rules.specs.declared.NoSetUp.{NoSetUp}
use Rattle.rules.specs.declared.NoSetUp.TheVariants.{SettingBeyond, WrongLength}
use Rattle.rules.specs.declared.Step.{Step}
use Rattle.rules.specs.declared.Part.{Part}
use Rattle.rules.specs.Replies.{number_of, value_of, why_number, from_of, length_of, set_up_number_of}
use Rattle.std.specs.Prelude.{Result, Ok, Err}
use Rattle.rules.specs.Step.{step}
use Rattle.rules.specs.ListQuestion.{list_number, list_from, list_many, list_part}
use Rattle.rules.specs.declared.Settings.{Settings}
use Rattle.rules.specs.Image.{Outcome, outcome}
use Rattle.rules.specs.Damaged.{damaged}
use Rattle.rules.specs.Program.{output, shown}
use Rattle.rules.specs.SetUp.{set_up, words_needed}

-- an outcome's parts: number, value, image
parts : {n n' x x' : ℕ} {J J' : List ℕ} {o : Outcome} → outcome n x J ≡ o → outcome n' x' J' ≡ o → (n ≡ n') × (x ≡ x') × (J ≡ J')
parts p q =
    let e = p ∙ sym q in
    (ap (λ o. o.number) e, ap (λ o. o.value) e, ap (λ o. o.image) e)

pub damaged_equal : (I : List ℕ) {r r' : Bool} → r ≡ damaged I → r' ≡ damaged I → r ≡ r'
damaged_equal I p q = p ∙ sym q

pub words_needed_equal : (S : Settings) {r r' : ℕ} → r ≡ words_needed S → r' ≡ words_needed S → r ≡ r'
words_needed_equal S p q = p ∙ sym q

pub set_up_equal : (S : Settings) (I : List ℕ) {r r' : ℕ} {J J' : List ℕ} → outcome r 0 J ≡ set_up S I → outcome r' 0 J' ≡ set_up S I
    → (r ≡ r') × (J ≡ J')
set_up_equal S I p q =
    let e = parts p q in
    (e.0, e.2)

-- what a set-up's reply says in numbers tells which it is
set_up_said : {A : Type 0} (r r' : Result A NoSetUp) → ((x y : A) → x ≡ y) → set_up_number_of r ≡ set_up_number_of r' → r ≡ r'
set_up_said (Ok x) (Ok y) a e = ap Ok (a x y)
set_up_said (Ok x) (Err SettingBeyond) a e = absurd (omega (arith, e))
set_up_said (Ok x) (Err WrongLength) a e = absurd (omega (arith, e))
set_up_said (Err SettingBeyond) (Ok y) a e = absurd (omega (arith, e))
set_up_said (Err SettingBeyond) (Err SettingBeyond) a e = refl
set_up_said (Err SettingBeyond) (Err WrongLength) a e = absurd (omega (arith, e))
set_up_said (Err WrongLength) (Ok y) a e = absurd (omega (arith, e))
set_up_said (Err WrongLength) (Err SettingBeyond) a e = absurd (omega (arith, e))
set_up_said (Err WrongLength) (Err WrongLength) a e = refl

-- the same as the function has it, a result that holds nothing
pub set_up_reply_equal : (S : Settings) (I : List ℕ) (r r' : Result (Unit {0}) NoSetUp) {J J' : List ℕ}
    → outcome (set_up_number_of r) 0 J ≡ set_up S I → outcome (set_up_number_of r') 0 J' ≡ set_up S I → (r ≡ r') × (J ≡ J')
set_up_reply_equal S I r r' p q =
    let e = set_up_equal S I p q in
    (set_up_said r r' (λ x y. refl) e.0, e.1)

-- what a reply says in numbers tells which it is
abbrev why_of : ℕ → Why
why_of n = get_or (Damaged ∷ Damaged ∷ NoSuchOperation ∷ NoSuchThread ∷ OperandBeyond ∷ HandlerRunning ∷ PhaseForbids ∷ NoneFree ∷ NotLive ∷ CellNames ∷ ListFull ∷ NotHeld ∷ []) n Damaged

abbrev said : {A : Type 0} (a : A) (n : ℕ) → Result A Why
said a n = cond (eqb n 0) (Ok a) (Err (why_of n))

refusal_said : {A : Type 0} (a : A) (w : Why) → said a (why_number w) ≡ Err w
refusal_said a w = elim w as (λ w. said a (why_number w) ≡ Err w) [ Damaged ↦ refl | NoSuchOperation ↦ refl | NoSuchThread ↦ refl | OperandBeyond ↦ refl | HandlerRunning ↦ refl | PhaseForbids ↦ refl | NoneFree ↦ refl | NotLive ↦ refl | CellNames ↦ refl | ListFull ↦ refl | NotHeld ↦ refl ]

pub reply_said : (r r' : Result ℕ Why) → number_of r ≡ number_of r' → value_of r ≡ value_of r' → r ≡ r'
reply_said r r' n x = sym (replied r) ∙ rw (n, x) (replied r')
  where
    replied : (r : Result ℕ Why) → said (value_of r) (number_of r) ≡ r
    replied (Ok x) = refl
    replied (Err w) = refusal_said 0 w

part_said : (r r' : Result Part Why) → number_of r ≡ number_of r' → from_of r ≡ from_of r' → length_of r ≡ length_of r' → r ≡ r'
part_said r r' n o k = sym (parted r) ∙ rw (n, o, k) (parted r')
  where
    parted : (r : Result Part Why) → said (record { from = from_of r; length = length_of r }) (number_of r) ≡ r
    parted (Ok part) = refl
    parted (Err w) = refusal_said (record { from = 0; length = 0 }) w

pub step_equal : (I : List ℕ) (s : Step) (r r' : Result ℕ Why) {J J' : List ℕ} → outcome (number_of r) (value_of r) J ≡ step I s
    → outcome (number_of r') (value_of r') J' ≡ step I s → (r ≡ r') × (J ≡ J')
step_equal I s r r' p q =
    let e = parts p q in
    (reply_said r r' e.0 e.1, e.2)

pub retired_number_equal : (I : List ℕ) (t : ℕ) {r r' : ℕ} → r ≡ list_number I t → r' ≡ list_number I t → r ≡ r'
retired_number_equal I t p q = p ∙ sym q

-- a part is known by its words and by where it stands: block and byte
pub retired_equal : (I : List ℕ) (t b p : ℕ) {J J' : List ℕ} {k k' o o' : ℕ} → (J ≡ list_part I t) × (k ≡ b) × (o ≡ p + list_from I t * 4)
    → (J' ≡ list_part I t) × (k' ≡ b) × (o' ≡ p + list_from I t * 4) → (J ≡ J') × (k ≡ k') × (o ≡ o')
retired_equal I t b p e d = (e.0 ∙ sym d.0, e.1 ∙ sym d.1, e.2 ∙ sym d.2)

-- the same part by its number, where it begins and how long it is
pub retired_at_equal : (I : List ℕ) (t : ℕ) {n n' o o' k k' : ℕ} → (n ≡ list_number I t) × (o ≡ list_from I t) × (k ≡ list_many I t)
    → (n' ≡ list_number I t) × (o' ≡ list_from I t) × (k' ≡ list_many I t) → (n ≡ n') × (o ≡ o') × (k ≡ k')
retired_at_equal I t e d = (e.0 ∙ sym d.0, e.1 ∙ sym d.1, e.2 ∙ sym d.2)

-- and as a result that holds the part
pub retired_at_reply_equal : (I : List ℕ) (t : ℕ) (r r' : Result Part Why)
    → (number_of r ≡ list_number I t) × (from_of r ≡ list_from I t) × (length_of r ≡ list_many I t)
    → (number_of r' ≡ list_number I t) × (from_of r' ≡ list_from I t) × (length_of r' ≡ list_many I t) → r ≡ r'
retired_at_reply_equal I t r r' p q = part_said r r' (p.0 ∙ sym q.0) (p.1 ∙ sym q.1) (p.2 ∙ sym q.2)

-- For C: ernuvald_words ensures what words_needed does; set_up_equal and retired_at_equal are those of ernuvald_set_up and
-- ernuvald_retired, whose replies are numbers. A step's reply is two numbers there, and damage is one.
pub exported_step_equal : (I : List ℕ) (s : Step) {n n' x x' : ℕ} {J J' : List ℕ} → outcome n x J ≡ step I s
    → outcome n' x' J' ≡ step I s → (n ≡ n') × (x ≡ x') × (J ≡ J')
exported_step_equal I s p q = parts p q

pub exported_damaged_equal : (I : List ℕ) {r r' : ℕ} → r ≡ bit (damaged I) → r' ≡ bit (damaged I) → r ≡ r'
exported_damaged_equal I p q = p ∙ sym q

-- the reply is a result of the crate that has the function: how much was written, or the buffer too short
pub replay_equal : {W : Type 0} (all : ℕ → W) (short : W) (I O : List ℕ) {r r' : W} {P P' : List ℕ}
    → (r ≡ cond (leb (length (output I)) (length O)) (all (length (output I))) short) × (P ≡ shown (output I) O)
    → (r' ≡ cond (leb (length (output I)) (length O)) (all (length (output I))) short) × (P' ≡ shown (output I) O)
    → (r ≡ r') × (P ≡ P')
replay_equal all short I O p q = (p.0 ∙ sym q.0, p.1 ∙ sym q.1)
