-- The invariant: what holds of the words of every image that steps reach from a fresh set-up, a clause a sentence.
use mathlib.Core.Path.{◌≡◌, refl, sym, ◌∙◌}
use mathlib.Core.Logic.{◌≢◌}
use Prim.Native.Nat.{ℕ, ◌+◌, ◌*◌, ◌≤◌, ◌<◌}
use native.Mathlib.Omega.{arith}
use Rattle.rules.specs.declared.Settings.{Settings}
use Rattle.rules.specs.Settings.{all_slots, slot, room}
use Rattle.rules.specs.Phases.{reserved, freeing}
use Rattle.rules.specs.declared.Kind.TheVariants.{Cell, Private, Published, Held, Phase, Length, Entry}
use Rattle.rules.specs.State.{State, cell, status, private, published, held, phase, u, v, w, handler, list_length, entry, scanned}
use Rattle.rules.specs.Image.{view}
use Rattle.rules.specs.SetUp.{fresh}
use Rattle.rules.proofs.Limits.{Limits, room_slots}
use Rattle.rules.proofs.Fresh.{fresh_zero}
use Rattle.rules.proofs.Slots.{Row}
use Rattle.rules.proofs.Moves.{Among}
use Rattle.rules.proofs.Cover.{CoverAt}

pub record Invariant (S : Settings) (m : State) : Type 0 where
  -- a record that a cell names is live
  pub cells : (c p : ℕ) → c < S.cells → cell m c ≡ p → p ≢ 0 → status m p ≡ 1
  -- a record on a list is retired
  pub lists : (a i p : ℕ) → entry m a i ≡ p → p ≢ 0 → status m p ≡ 2
  -- and stands there once
  pub apart : (a b i j p : ℕ) → entry m a i ≡ p → entry m b j ≡ p → p ≢ 0 → (a ≡ b) × (i ≡ j)
  -- what a handler has copied so far is what the slot still holds
  pub copied : (b x : ℕ) → Row S.slots b x → x + 1 < b * S.slots + handler m b → published m x ≡ private m x
  -- a reserved slot holds the record that the check will compare
  pub reserving : (t : ℕ) → t < S.threads → phase m t ≡ reserved → private m (slot S t (u m t)) ≡ w m t
  -- a record held by a mark isn't free
  pub holds : (b x p : ℕ) → b < S.threads → Row S.slots b x → held m x ≡ 1 → private m x ≡ p → (p ≢ 0) × (status m p ≢ 0)
  -- and a reclaimer with the record on its list will meet it: what it reads or has noted of the slot is that record
  pub covered : (a b x i p : ℕ) → b < S.threads → Row S.slots b x → held m x ≡ 1 → private m x ≡ p → entry m a i ≡ p → p ≢ 0
      → CoverAt (λ z. z ≡ p) m a b x
  -- each entry that a reclaim keeps is one that it noted
  pub kept : (a i : ℕ) → phase m a ≡ freeing → i < v m a → (entry m a i ≢ 0) × Among (scanned m a) (all_slots S) (entry m a i)
  -- outside a reclaim a list has room
  pub roomy : (a : ℕ) → phase m a ≤ reserved → list_length m a < room S

-- every fresh set-up has it
pub fresh_invariant : {S : Settings} → Limits S → Invariant S (view S (fresh S))
fresh_invariant {S} l = record {
  cells = λ c p _ h n. absurd (n (sym h ∙ fresh_zero S Cell c 0 refl));
  lists = λ a i p h n. absurd (n (sym h ∙ fresh_zero S Entry a i refl));
  apart = λ a b i j p h _ n. absurd (n (sym h ∙ fresh_zero S Entry a i refl));
  copied = λ b x _ _. fresh_zero S Published x 0 refl ∙ sym (fresh_zero S Private x 0 refl);
  reserving = λ t _ h. absurd (omega (arith, fresh_zero S Phase t 0 refl));
  holds = λ b x p _ _ h. absurd (omega (arith, fresh_zero S Held x 0 refl));
  covered = λ a b x i p _ _ h. absurd (omega (arith, fresh_zero S Held x 0 refl));
  kept = λ a i h. absurd (omega (arith, fresh_zero S Phase a 0 refl));
  roomy = λ a _. omega (arith, fresh_zero S Length a 0 refl, room_slots l);
}
