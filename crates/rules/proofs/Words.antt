-- Every word that an accepted step writes is a word of the image, and no larger than its kind may be.
use mathlib.Core.Path.{◌≡◌}
use mathlib.Core.List.{List, [], ◌∷◌}
use Prim.Native.Nat.{ℕ, ◌+◌, ◌-◌, ◌/◌, ◌≤◌, ◌<◌}
use native.Mathlib.Omega.{arith}
use lib.Dec.{eqb}
use Rattle.rules.specs.declared.Settings.{Settings}
use Rattle.rules.specs.Settings.{slot, all_slots, room}
use Rattle.rules.specs.declared.Kind.{Kind}
use Rattle.rules.specs.declared.Kind.TheVariants.{Cell, Status, Private, Published, Held, Count, Phase, U, V, W, Pending, Handler, Collected, Length, Entry, Scanned}
use Rattle.rules.specs.State.{State, u, handler, list_length, entry, Write, Answer}
use Rattle.rules.specs.Operations.{allocate, swap, load, reserve, to_idle, check, use_slot, clear, retire, deliver}
use Rattle.rules.specs.Advance.{onward, collect, ping, seen, scan, freed_on}
use Rattle.rules.specs.declared.Step.{Step}
use Rattle.rules.specs.Replies.{refusal}
use Rattle.rules.specs.Step.{perform}
use Rattle.rules.proofs.Laws.{holds, fails, either}
use Rattle.rules.proofs.Limits.{in_row}
use Rattle.rules.proofs.Places.{Valid}
use Rattle.rules.proofs.Sound.{Sound}
use Rattle.rules.proofs.Refused.{Accepted, accepted_says}
use Rattle.rules.proofs.Writes.{Same, met, met_same, puts, AllValid}
use Rattle.rules.proofs.Moves.{Move, allocates, swaps, loads, reserves, checks, uses, clears, retires, collects, pings, waits, stays, scans, keeps, frees, delivers, copies, counts, performs}

-- the most that a word x of a kind may be: x itself where it may be anything, or where the phase line says
abbrev pub most : Settings → Kind → ℕ → ℕ
most S Cell x = S.records
most S Status x = 2
most S Private x = S.records
most S Published x = S.records
most S Held x = 1
most S Count x = x
most S Phase x = x
most S U x = x
most S V x = x
most S W x = x
most S Pending x = 1
most S Handler x = S.slots + 1
most S Collected x = x
most S Length x = room S
most S Entry x = S.records
most S Scanned x = S.records

-- this may be written: there is such a word, and it isn't too large
pub record Good (S : Settings) (z : Write) : Type 0 where
  pub valid : Valid S z.kind z.row z.place
  pub small : z.word ≤ most S z.kind z.word

abbrev pub AllGood : Settings → List Write → Type 0
AllGood S [] = Unit {0}
AllGood S (z ∷ zs) = Good S z × AllGood S zs

module _ {S : Settings} {m : State} (h : Sound S m) (s : Step) (l : s.thread < S.threads) where
  seen_most : (x : ℕ) → x < all_slots S → seen S m s.thread x ≤ S.records
  unfolding seen
  seen_most x b = elim (either (eqb (x / S.slots) s.thread)) [ holds e ↦ rw e (h.privates x b) | fails e ↦ rw e (h.publisheds x b) ]

  taken_most : u m s.thread < list_length m s.thread → entry m s.thread (u m s.thread) ≤ S.records
  taken_most a = h.entries s.thread (u m s.thread) l (omega (arith, (h.threads s.thread l).length))

  pub good : {r : Answer} → Move S m s r → AllGood S r.writes
  unfolding allocate swap load reserve to_idle check use_slot clear retire deliver onward collect ping scan freed_on
  good (allocates f) = omega arith
  good (swaps f) = omega arith
  good (loads f) = omega arith
  good (reserves f) = omega (arith, in_row l f.fits)
  good (checks f) = omega (arith, in_row l f.fits)
  good (uses f) = tt
  good (clears f) = omega (arith, in_row l f.fits)
  good (retires f) = omega arith
  good (collects f) = omega arith
  good (pings f) = omega arith
  good (waits f) = omega arith
  good (stays f) = tt
  good (scans f) = omega (arith, seen_most (u m s.thread) f.inside)
  good (keeps f) = omega (arith, (h.threads s.thread l).length, taken_most f.inside)
  good (frees f) = omega (arith, (h.threads s.thread l).length, taken_most f.inside)
  good (delivers f) = omega arith
  good (copies f) =
      let i : handler m s.thread - 1 < S.slots = omega (arith, f) in
      omega (arith, in_row l i, h.privates (slot S s.thread (handler m s.thread - 1)) (in_row l i))
  good (counts f) = omega arith

good_valid : (S : Settings) (ws : List Write) → AllGood S ws → AllValid S ws
good_valid S [] g = tt
good_valid S (z ∷ zs) g = (g.0.valid, good_valid S zs g.1)

pub writes_valid : (S : Settings) (m : State) (s : Step) → Sound S m → refusal S m s ≡ 0 → AllValid S (perform S m s).writes
writes_valid S m s h e =
    let k : Accepted S m s = accepted_says S m s e in
    good_valid S (perform S m s).writes (good h s k.thread (performs s h k))

-- a word within its bound stays so
pub small_kept : (S : Settings) (zs : List Write) (m : State) → AllGood S zs → (k : Kind) (i j : ℕ) → m k i j ≤ most S k (m k i j) → puts m zs k i j ≤ most S k (puts m zs k i j)
small_kept S [] m g k i j h = h
small_kept S (z ∷ zs) m g k i j h = small_kept S zs _ g.1 k i j (elim (either (met z.kind k z.row z.place i j)) [
  | fails e ↦ rw e h
  | holds e ↦
      let s : Same z.kind k z.row z.place i j = met_same z.kind k z.row z.place i j e in
      rw e (elim (either z.on) [ holds o ↦ rw (o, ← s.kind) g.0.small | fails o ↦ rw (o, s.kind, s.row, s.place) h ])
])
