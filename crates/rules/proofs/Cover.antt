-- What a reclaimer knows of a slot: once its thread has published after the collection, what is published, and then what is
-- noted, fits whatever the private slot has fitted since the reclaim began. Every step keeps this.
use mathlib.Core.Path.{◌≡◌, refl, sym, ◌∙◌}
use mathlib.Core.Logic.{◌≢◌}
use mathlib.Core.Bool.{Bool, cond}
use Prim.Native.Nat.{ℕ, ◌+◌, ◌*◌, ◌/◌, ◌≤◌, ◌<◌}
use native.Mathlib.Omega.{arith}
use lib.Dec.{eqb}
use Rattle.rules.specs.declared.Settings.{Settings}
use Rattle.rules.specs.Phases.{collecting, pinging, waiting, scanning, freeing}
use Rattle.rules.specs.State.{State, private, published, count, phase, u, handler, collected, scanned}
use Rattle.rules.specs.declared.Step.{Step}
use Rattle.rules.proofs.Laws.{same, diff, sep}
use Rattle.rules.proofs.Slots.{Row, row_one, row_fits}
use Rattle.rules.proofs.Changes.{PublishedTurn, quiet, copied, counted}
use Rattle.rules.proofs.Turns.{Onward, more, last, Taken, goes_on, ends, Turn, still, outside, retiring, collecting_on, pinging_on, waiting_on, scanning_on, keeping, freeing_one}

-- how far a reclaimer in phase p, at item i, has come with thread b and its slot x: b's count is collected, and not yet
-- compared; it has been seen to differ, and x isn't noted yet; x is noted
pub data Collected (p i b : ℕ) : Type 0 where
  in_collecting : p ≡ collecting → b < i → Collected p i b
  in_pinging : p ≡ pinging → Collected p i b
  in_waiting : p ≡ waiting → i ≤ b → Collected p i b

pub data Waited (p i b x : ℕ) : Type 0 where
  past_waiting : p ≡ waiting → b < i → Waited p i b x
  before_scanning : p ≡ scanning → i ≤ x → Waited p i b x

pub data Noted (p i x : ℕ) : Type 0 where
  past_scanning : p ≡ scanning → x < i → Noted p i x
  in_freeing : p ≡ freeing → Noted p i x

-- over the words that it reads, so that two states with the same words give the same statement: b's count n and what
-- reclaimer a collected of it, c; what is published of x, and what a noted of it, z
pub record Cover (Q : ℕ → Type 0) (a b x p i n c y z : ℕ) : Type 0 where
  pub after_collecting : a ≢ b → Collected p i b → n ≢ c → Q y
  pub after_waiting : a ≢ b → Waited p i b x → Q y
  pub after_scanning : Noted p i x → Q z

abbrev pub CoverAt : (ℕ → Type 0) → State → (a b x : ℕ) → Type 0
CoverAt Q m a b x = Cover Q a b x (phase m a) (u m a) (count m b) (collected m a b) (published m x) (scanned m a x)

module _ (Q : ℕ → Type 0) (a b x : ℕ) where
  -- outside a reclaim, and at its start, nothing is claimed
  pub unclaimed : {p i n c y z : ℕ} → p ≤ collecting → (p ≡ collecting → i ≡ 0) → Cover Q a b x p i n c y z
  unclaimed l f = record {
    after_collecting = λ _ s _. absurd (elim s [ in_collecting h k ↦ omega (arith, f h) | in_pinging h ↦ omega arith | in_waiting h k ↦ omega arith ]);
    after_waiting = λ _ s. absurd (elim s [ past_waiting h k ↦ omega arith | before_scanning h k ↦ omega arith ]);
    after_scanning = λ s. absurd (elim s [ past_scanning h k ↦ omega arith | in_freeing h ↦ omega arith ]);
  }

  module _ {i p' i' n c y z : ℕ} where
    cover_collecting : {t : ℕ} → b < t → Onward collecting i t p' i' → Cover Q a b x collecting i n c y z
        → Cover Q a b x p' i' n (cond (eqb i b) n c) y z
    cover_collecting {t} l on old = record {
      after_collecting = λ d s. elim (sep i b)
          [ same f g ↦ rw g (λ e. absurd (e refl)) | diff f g ↦ rw g (old.after_collecting d (in_collecting refl (omega (arith, reach s)))) ];
      after_waiting = λ d s. absurd (elim s [ past_waiting h k ↦ omega (arith, near) | before_scanning h k ↦ omega (arith, near) ]);
      after_scanning = λ s. absurd (elim s [ past_scanning h k ↦ omega (arith, near) | in_freeing h ↦ omega (arith, near) ]);
    }
      where
        near : p' ≤ pinging
        near = elim on [ more j f g ↦ omega arith | last j f g ↦ omega arith ]

        reach : Collected p' i' b → b ≤ i
        reach (in_collecting h k) = elim on [ more j f g ↦ omega arith | last j f g ↦ omega arith ]
        reach (in_pinging h) = elim on [ more j f g ↦ omega arith | last j f g ↦ omega arith ]
        reach (in_waiting h k) = omega (arith, near)

    cover_pinging : {t : ℕ} → Onward pinging i t p' i' → Cover Q a b x pinging i n c y z → Cover Q a b x p' i' n c y z
    cover_pinging {t} on old = record {
      after_collecting = λ d s. old.after_collecting d (in_pinging refl);
      after_waiting = λ d s. absurd (elim s [ past_waiting h k ↦ omega (arith, near.1 h) | before_scanning h k ↦ omega (arith, near) ]);
      after_scanning = λ s. absurd (elim s [ past_scanning h k ↦ omega (arith, near) | in_freeing h ↦ omega (arith, near) ]);
    }
      where
        near : (p' ≤ waiting) × (p' ≡ waiting → i' ≡ 0)
        near = elim on [ more j f g ↦ omega arith | last j f g ↦ omega arith ]

    cover_waiting : {t : ℕ} → b < t → Onward waiting i t p' i' → (a ≢ b → i ≡ b → n ≢ c) → Cover Q a b x waiting i n c y z
        → Cover Q a b x p' i' n c y z
    cover_waiting {t} l on ok old = record {
      after_collecting = λ d s. old.after_collecting d (in_waiting refl (rest s));
      after_waiting = λ d s. elim (sep i b) [
        | same f g ↦ old.after_collecting d (in_waiting refl (omega arith)) (ok d f)
        | diff f g ↦ old.after_waiting d (past_waiting refl (omega (arith, reach s)))
      ];
      after_scanning = λ s. absurd (elim s [ past_scanning h k ↦ omega (arith, near.1 h) | in_freeing h ↦ omega (arith, near) ]);
    }
      where
        near : (p' ≤ scanning) × (p' ≡ scanning → i' ≡ 0)
        near = elim on [ more j f g ↦ omega arith | last j f g ↦ omega arith ]

        rest : Collected p' i' b → i ≤ b
        rest (in_collecting h k) = absurd (elim on [ more j f g ↦ omega arith | last j f g ↦ omega arith ])
        rest (in_pinging h) = absurd (elim on [ more j f g ↦ omega arith | last j f g ↦ omega arith ])
        rest (in_waiting h k) = elim on [ more j f g ↦ omega arith | last j f g ↦ omega arith ]

        reach : Waited p' i' b x → b ≤ i
        reach (past_waiting h k) = elim on [ more j f g ↦ omega arith | last j f g ↦ omega arith ]
        reach (before_scanning h k) = elim on [ more j f g ↦ omega arith | last j f g ↦ omega arith ]

    cover_scanning : {t o : ℕ} → x < t → Onward scanning i t p' i' → ((a ≢ b → Q y) → Q o) → Cover Q a b x scanning i n c y z
        → Cover Q a b x p' i' n c y (cond (eqb i x) o z)
    cover_scanning {t} {o} l on ok old = record {
      after_collecting = λ d s. absurd (elim s
          [ in_collecting h k ↦ omega (arith, far) | in_pinging h ↦ omega (arith, far) | in_waiting h k ↦ omega (arith, far) ]);
      after_waiting = λ d s. old.after_waiting d (before_scanning refl (rest s));
      after_scanning = λ s. elim (sep i x) [
        | same f g ↦ rw g (ok (λ d. old.after_waiting d (before_scanning refl (omega arith))))
        | diff f g ↦ rw g (old.after_scanning (past_scanning refl (omega (arith, reach s))))
      ];
    }
      where
        far : scanning ≤ p'
        far = elim on [ more j f g ↦ omega arith | last j f g ↦ omega arith ]

        rest : Waited p' i' b x → i ≤ x
        rest (past_waiting h k) = omega (arith, far)
        rest (before_scanning h k) = elim on [ more j f g ↦ omega arith | last j f g ↦ omega arith ]

        reach : Noted p' i' x → x ≤ i
        reach (past_scanning h k) = elim on [ more j f g ↦ omega arith | last j f g ↦ omega arith ]
        reach (in_freeing h) = elim on [ more j f g ↦ omega arith | last j f g ↦ omega arith ]

    cover_freeing : {l k k' l' : ℕ} → Taken i l k p' i' k' l' → Cover Q a b x freeing i n c y z → Cover Q a b x p' i' n c y z
    cover_freeing (ends _ e _ _ _) old = unclaimed (omega arith) (λ h. absurd (omega arith))
    cover_freeing (goes_on _ e _ _ _) old = record {
      after_collecting = λ _ s _. absurd (elim s [ in_collecting h k ↦ omega arith | in_pinging h ↦ omega arith | in_waiting h k ↦ omega arith ]);
      after_waiting = λ _ s. absurd (elim s [ past_waiting h k ↦ omega arith | before_scanning h k ↦ omega arith ]);
      after_scanning = λ _. old.after_scanning (in_freeing refl);
    }

  -- first what thread b does, then what reclaimer a does: one of them at most moves
  abbrev Half : State → State → Type 0
  Half m m' = Cover Q a b x (phase m a) (u m a) (count m' b) (collected m a b) (published m' x) (scanned m a x)

  module _ (S : Settings) (m m' : State) (l : b < S.threads) (r : Row S.slots b x) (q : Q (private m x)) where
    cover_published : (x + 1 < b * S.slots + handler m b → published m x ≡ private m x) → PublishedTurn S m m' b x → CoverAt Q m a b x → Half m m'
    cover_published c (quiet e f _) old = rw (e, f) old
    cover_published c (copied e f) old =
        rw (e, f) (record { after_collecting = λ _ _ _. q; after_waiting = λ _ _. q; after_scanning = old.after_scanning })
    cover_published c (counted e f _) old =
        let y : Q (published m x) = rw (c (omega (arith, r))) q in
        rw e (record { after_collecting = λ _ _ _. y; after_waiting = λ _ _. y; after_scanning = old.after_scanning })

    cover_turned : {s : Step} {o : ℕ} {t : Bool} → Turn S s o m m' a t → Half m m' → CoverAt Q m' a b x
    cover_turned (still f) old = rw (f.same_phase, f.same_item, f.same_collected b, f.same_scanned x) old
    cover_turned (outside f) old = unclaimed (omega (arith, f.after)) (λ h. absurd (omega (arith, f.after)))
    cover_turned (retiring p _ f) old = unclaimed f.low (λ _. f.first)
    cover_turned (collecting_on f) old = rw (f.noted b, f.same_scanned x) (cover_collecting l f.next (rw f.at at old))
    cover_turned (pinging_on f) old = rw (f.same_collected b, f.same_scanned x) (cover_pinging f.next (rw f.at at old))
    cover_turned (waiting_on f) old = rw (f.same_collected b, f.same_scanned x) (cover_waiting l f.next (f.moved b) (rw f.at at old))
    cover_turned (scanning_on f) old = rw (f.noted x, f.same_collected b)
        (cover_scanning (row_fits l r) f.next
        (λ w. elim (sep (x / S.slots) a) [ same e g ↦ rw g q | diff e g ↦ rw g (w (λ d. e (row_one r ∙ sym d))) ])
        (rw f.at at old))
    cover_turned (keeping p f _ _) old = rw (f.same_scanned x, f.same_collected b) (cover_freeing f.next (rw f.was_freeing at old))
    cover_turned (freeing_one p f _) old = rw (f.same_scanned x, f.same_collected b) (cover_freeing f.next (rw f.was_freeing at old))

    -- every step keeps what reclaimer a knows of slot x
    pub cover_step : {s : Step} {o : ℕ} {t : Bool} → Turn S s o m m' a t → PublishedTurn S m m' b x
        → (x + 1 < b * S.slots + handler m b → published m x ≡ private m x) → CoverAt Q m a b x → CoverAt Q m' a b x
    cover_step d e c old = cover_turned d (cover_published c e old)
