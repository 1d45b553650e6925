-- Every accepted step keeps the invariant, clause by clause; and at most T×H entries stay when a reclaim ends.
use mathlib.Core.Path.{◌≡◌, refl, sym, ap, ◌∙◌}
use mathlib.Core.Logic.{◌≢◌}
use mathlib.Core.Bool.{Bool, cond}
use Prim.Native.Nat.{ℕ, suc, ◌+◌, ◌*◌, ◌≤◌, ◌<◌}
use native.Mathlib.Omega.{arith}
use lib.Dec.{eqb}
use borrow.Author.Tests.{ne_eqb}
use Rattle.rules.specs.declared.Settings.{Settings}
use Rattle.rules.specs.Settings.{all_slots, slot, room}
use Rattle.rules.specs.Phases.{idle, reserved, collecting, freeing}
use Rattle.rules.specs.State.{State, cell, status, private, published, held, phase, u, v, w, handler, list_length, entry, scanned, Answer}
use Rattle.rules.specs.declared.Step.{Step}
use Rattle.rules.proofs.Laws.{same, diff, sep}
use Rattle.rules.proofs.Limits.{Limits, room_slots, room_threshold}
use Rattle.rules.proofs.Sound.{Sound}
use Rattle.rules.proofs.Slots.{Row, row_same, row_of, row_fits}
use Rattle.rules.proofs.Moves.{Among, among, item, Move}
use Rattle.rules.proofs.Changes.{next, eqb_self, slot_same, written, marked, slot_turn, quiet, copied, counted, published_turn, status_same, born, retired, freed, status_turn, cell_same, stored, cell_turn}
use Rattle.rules.proofs.Turns.{Onward, more, last, Taken, goes_on, ends, Takes, Turn, still, outside, retiring, collecting_on, pinging_on, waiting_on, scanning_on, keeping, freeing_one, turn}
use Rattle.rules.proofs.Cover.{in_freeing, CoverAt, unclaimed, cover_step}
use Rattle.rules.proofs.Pigeonhole.{pigeonhole}
use Rattle.rules.proofs.Invariant.{Invariant}

-- where an entry comes from: it stood there, or it was the reclaimer's item and is kept, or it was just retired
pub data Origin (m m' : State) (a i q : ℕ) : Type 0 where
  stood : entry m a i ≡ q → Origin m m' a i q
  moved : i ≡ v m a → item m a ≡ q → (i ≢ u m a → entry m' a (u m a) ≡ 0) → Origin m m' a i q
  new : record {
    place : i ≡ list_length m a;
    was_idle : phase m a ≡ idle;
    live : status m q ≡ 1;
    dead : status m' q ≡ 2;
    low : phase m' a ≤ collecting;
    first : u m' a ≡ 0;
    only : (b j : ℕ) → a ≢ b → entry m' b j ≡ entry m b j;
  }
      → Origin m m' a i q

pub origin : {S : Settings} {s : Step} {x : ℕ} {m m' : State} {a : ℕ} {t : Bool} → Turn S s x m m' a t
    → (i q : ℕ) → entry m' a i ≡ q → q ≢ 0 → Origin m m' a i q
origin (still f) i q h z = stood (sym (f.list.same_entries i) ∙ h)
origin (outside f) i q h z = stood (sym (f.list.same_entries i) ∙ h)
origin (collecting_on f) i q h z = stood (sym (f.list.same_entries i) ∙ h)
origin (pinging_on f) i q h z = stood (sym (f.list.same_entries i) ∙ h)
origin (waiting_on f) i q h z = stood (sym (f.list.same_entries i) ∙ h)
origin (scanning_on f) i q h z = stood (sym (f.list.same_entries i) ∙ h)
origin {m = m} {a = a} (retiring p _ f) i q h z = elim (sep (list_length m a) i) [
  | diff n g ↦ stood (rw g at (sym (f.added i) ∙ h))
  | same e g ↦
      let y : p ≡ q = rw g at (sym (f.added i) ∙ h) in
      new (record {
        place = sym e;
        was_idle = f.was_idle;
        live = rw y at f.live;
        dead = rw y at f.dead;
        low = f.low;
        first = f.first;
        only = f.only;
      })
]
origin {m = m} {a = a} (keeping p f _ en) i q h z = elim (sep (v m a) i) [
  | same e g ↦ moved (sym e) (f.is_item ∙ rw g at (sym (en i) ∙ h))
      (λ n. en (u m a) ∙ rw (ne_eqb (v m a) (u m a) (λ y. n (sym e ∙ y)), eqb_self (u m a)))
  | diff n g ↦ elim (sep (u m a) i)
      [ same e k ↦ absurd (z (sym (rw (g, k) at (sym (en i) ∙ h)))) | diff o k ↦ stood (rw (g, k) at (sym (en i) ∙ h)) ]
]
origin {m = m} {a = a} (freeing_one p f o) i q h z = elim (sep (u m a) i)
    [ same e k ↦ absurd (z (sym (rw k at (sym (o.left i) ∙ h)))) | diff n k ↦ stood (rw k at (sym (o.left i) ∙ h)) ]

-- the phases that one item more leads to
pub onward_far : {p i n p' i' : ℕ} → Onward p i n p' i' → (p ≤ p') × (p' ≤ suc p)
onward_far (more _ e _) = omega arith
onward_far (last _ e _) = omega arith

pub taken_on : {i n k p' i' k' n' : ℕ} → Taken i n k p' i' k' n' → p' ≡ freeing → k' ≡ k
taken_on (goes_on _ e f g h) z = g
taken_on (ends _ e f g h) z = absurd (omega arith)

taken_off : {i n k p' i' k' n' : ℕ} → Taken i n k p' i' k' n' → p' ≤ reserved → n' ≡ k
taken_off (goes_on _ e f g h) z = absurd (omega arith)
taken_off (ends _ e f g h) z = h

-- an entry that is noted
abbrev NotedEntry : Settings → State → (a i : ℕ) → Type 0
NotedEntry S m a i = (entry m a i ≢ 0) × Among (scanned m a) (all_slots S) (entry m a i)

-- an accepted step, in a state that is sound and has the invariant
pub record Going (S : Settings) (m : State) (s : Step) (r : Answer) : Type 0 where
  pub move : Move S m s r
  pub limits : Limits S
  pub sound : Sound S m
  pub by : s.thread < S.threads
  pub invariant : Invariant S m

module _ {S : Settings} {m : State} {s : Step} {r : Answer} (g : Going S m s r) where
  abbrev m' : State
  m' = next m r

  abbrev mv : Move S m s r
  mv = g.move

  abbrev inv : Invariant S m
  inv = g.invariant

  kept_cells : (c p : ℕ) → c < S.cells → cell m' c ≡ p → p ≢ 0 → status m' p ≡ 1
  kept_cells c p l h z = elim (cell_turn mv c) [
    | stored f ↦ f p h z
    | cell_same e ↦
        let was : status m p ≡ 1 = inv.cells c p l (sym e ∙ h) z in
        elim (status_turn mv p) [
          | status_same f ↦ f ∙ was
          | born _ f ↦ f
          | retired _ _ bare ↦ absurd (bare c l h)
          | freed a _ it _ _ _ ↦ absurd (omega (arith, inv.lists a (u m a) p it z))
        ]
  ]

  -- a record that is freed stands on no list any more
  pub freed_gone : (a₀ p : ℕ) → item m a₀ ≡ p → p ≢ 0
      → ((i : ℕ) → entry m' a₀ i ≡ cond (eqb (u m a₀) i) 0 (entry m a₀ i)) → (a i : ℕ) → entry m' a i ≢ p
  freed_gone a₀ p it z en a i h = elim (sep a₀ a) [
    | diff n _ ↦ elim (origin (turn mv a) i p h z) [
      | stood e ↦ n (sym (inv.apart a a₀ i (u m a₀) p e it z).0)
      | moved _ e _ ↦ n (sym (inv.apart a a₀ (u m a) (u m a₀) p e it z).0)
      | new f ↦ omega (arith, f.live, inv.lists a₀ (u m a₀) p it z)
    ]
    | same e _ ↦
        let y : cond (eqb (u m a₀) i) 0 (entry m a₀ i) ≡ p = sym (en i) ∙ rw e h in
        elim (sep (u m a₀) i)
        [ same _ k ↦ z (sym (rw k at y)) | diff o k ↦ o (sym (inv.apart a₀ a₀ i (u m a₀) p (rw k at y) it z).1) ]
  ]

  kept_lists : (a i p : ℕ) → entry m' a i ≡ p → p ≢ 0 → status m' p ≡ 2
  kept_lists a i p h z = elim (origin (turn mv a) i p h z)
      [ new f ↦ f.dead | stood e ↦ still_two (inv.lists a i p e z) | moved _ e _ ↦ still_two (inv.lists a (u m a) p e z) ]
    where
      still_two : status m p ≡ 2 → status m' p ≡ 2
      still_two y = elim (status_turn mv p) [
        | status_same f ↦ f ∙ y
        | born f _ ↦ absurd (omega arith)
        | retired _ f _ ↦ f
        | freed a₀ _ it _ _ en ↦ absurd (freed_gone a₀ p it z en a i h)
      ]

  kept_apart : (a b i j p : ℕ) → entry m' a i ≡ p → entry m' b j ≡ p → p ≢ 0 → (a ≡ b) × (i ≡ j)
  kept_apart a b i j p h k z = go (origin (turn mv a) i p h z) (origin (turn mv b) j p k z)
    where
      -- one stood where it stands, the other was moved there
      crossed : {a b i j : ℕ} → entry m' a i ≡ p → entry m a i ≡ p → j ≡ v m b → item m b ≡ p
          → (j ≢ u m b → entry m' b (u m b) ≡ 0) → (a ≡ b) × (i ≡ j)
      crossed {a} {b} {i} {j} h e y f left =
          let d = inv.apart a b i (u m b) p e f z in
          elim (sep j (u m b))
          [ same g _ ↦ (d.0, d.1 ∙ sym g) | diff n _ ↦ absurd (z (sym (rw (d.0, d.1) at h) ∙ left n)) ]

      live_listed : (c l : ℕ) → entry m c l ≡ p → status m p ≡ 1 → (a ≡ b) × (i ≡ j)
      live_listed c l e live = absurd (omega (arith, inv.lists c l p e z))

      go : Origin m m' a i p → Origin m m' b j p → (a ≡ b) × (i ≡ j)
      go (stood e) (stood f) = inv.apart a b i j p e f z
      go (stood e) (moved y f left) = crossed h e y f left
      go (moved y e left) (stood f) = let d = crossed k f y e left in (sym d.0, sym d.1)
      go (moved y e _) (moved x f _) = let d = inv.apart a b (u m a) (u m b) p e f z in (d.0, y ∙ ap (v m) d.0 ∙ sym x)
      go (stood e) (new f) = live_listed a i e f.live
      go (moved y e _) (new f) = live_listed a (u m a) e f.live
      go (new f) (stood e) = live_listed b j e f.live
      go (new f) (moved y e _) = live_listed b (u m b) e f.live
      go (new f) (new g) = elim (sep a b) [
        | same e _ ↦ (e, f.place ∙ ap (list_length m) e ∙ sym g.place)
        | diff n _ ↦ live_listed b j (sym (f.only b j n) ∙ k) f.live
      ]

  kept_copied : (b x : ℕ) → Row S.slots b x → x + 1 < b * S.slots + handler m' b → published m' x ≡ private m' x
  kept_copied b x row h = elim (slot_turn mv x) [
    | slot_same e _ ↦ unwritten e
    | marked f ↦ unwritten f.same
    | written i f ↦
        let e : b ≡ s.thread = row_same row (rw f.place (row_of s.thread f.fits)) in
        absurd (omega (arith, row, f.quiet, rw e at h, ap (λ z. z * S.slots) e))
  ]
    where
      unwritten : private m' x ≡ private m x → published m' x ≡ private m' x
      unwritten e = elim (published_turn mv row)
          [ quiet f _ g ↦ f ∙ inv.copied b x row (g h) ∙ sym e | copied f _ ↦ f ∙ sym e | counted _ _ g ↦ absurd (omega (arith, row)) ]

  kept_reserving : (t : ℕ) → t < S.threads → phase m' t ≡ reserved → private m' (slot S t (u m' t)) ≡ w m' t
  kept_reserving t l h = go (turn mv t)
    where
      go : {x : ℕ} {d : Bool} → Turn S s x m m' t d → private m' (slot S t (u m' t)) ≡ w m' t
      go (outside f) = f.now h
      go (still f) =
          let at : phase m t ≡ reserved = sym f.same_phase ∙ h in
          let fits : u m t < S.slots = ((g.sound.threads t l).line.slot (omega arith) (omega arith)).0 in
          rw (f.same_item, f.same_record) (elim (slot_turn mv (slot S t (u m t))) [
            | slot_same e _ ↦ e ∙ inv.reserving t l at
            | marked e ↦ e.same ∙ inv.reserving t l at
            | written i e ↦
                let y : t ≡ s.thread = row_same (row_of t fits) (rw e.place (row_of s.thread e.fits)) in
                absurd (e.not_reserved (rw y at at))
          ])
      go (retiring p _ f) = absurd (omega (arith, f.idle_or (omega arith)))
      go (collecting_on f) = absurd (omega (arith, onward_far f.next))
      go (pinging_on f) = absurd (omega (arith, onward_far f.next))
      go (waiting_on f) = absurd (omega (arith, onward_far f.next))
      go (scanning_on f) = absurd (omega (arith, onward_far f.next))
      go (keeping p f _ _) = absurd (elim f.next [ goes_on _ e _ _ _ ↦ omega arith | ends _ e _ _ _ ↦ omega arith ])
      go (freeing_one p f _) = absurd (elim f.next [ goes_on _ e _ _ _ ↦ omega arith | ends _ e _ _ _ ↦ omega arith ])

  -- a record that this step's check confirms: a cell names it
  confirmed : (x p : ℕ) → slot S s.thread (u m s.thread) ≡ x → phase m s.thread ≡ reserved → v m s.thread < S.cells
      → cell m (v m s.thread) ≡ w m s.thread → w m s.thread ≢ 0 → private m x ≡ p → (p ≢ 0) × (status m p ≡ 1)
  confirmed x p e at fits equal some h =
      let y : w m s.thread ≡ p = sym (inv.reserving s.thread g.by at) ∙ rw e h in
      (λ z. some (y ∙ z), inv.cells (v m s.thread) p fits (equal ∙ y) (λ z. some (y ∙ z)))

  -- what a reclaimer frees no mark holds
  pub unheld : (a p : ℕ) → phase m a ≡ freeing → item m a ≡ p → p ≢ 0 → ((x : ℕ) → x < all_slots S → scanned m a x ≢ p)
      → (b x : ℕ) → b < S.threads → Row S.slots b x → held m x ≡ 1 → private m x ≢ p
  unheld a p at it z un b x l row h e = un x (row_fits l row) ((inv.covered a b x (u m a) p l row h e it z).after_scanning (in_freeing at))

  kept_holds : (b x p : ℕ) → b < S.threads → Row S.slots b x → held m' x ≡ 1 → private m' x ≡ p → (p ≢ 0) × (status m' p ≢ 0)
  kept_holds b x p l row h e = elim (slot_turn mv x) [
    | written i f ↦ absurd (omega (arith, f.unmarked))
    | marked f ↦
        let c = confirmed x p f.place f.at f.cell_fits f.equal f.some (sym f.same ∙ e) in
        (c.0, omega (arith, c.1, f.status_same p))
    | slot_same f g ↦
        let was = inv.holds b x p l row (sym g ∙ h) (sym f ∙ e) in (
          was.0,
          elim (status_turn mv p) [
            | status_same y ↦ rw y was.1
            | born _ y ↦ omega arith
            | retired _ y _ ↦ omega arith
            | freed a at it z un _ ↦ absurd (unheld a p at it z un b x l row (sym g ∙ h) (sym f ∙ e))
          ],
        )
  ]

  kept_covered : (a b x i p : ℕ) → b < S.threads → Row S.slots b x → held m' x ≡ 1 → private m' x ≡ p → entry m' a i ≡ p → p ≢ 0
      → CoverAt (λ z. z ≡ p) m' a b x
  kept_covered a b x i p l row h e k z = elim (slot_turn mv x) [
    | written i f ↦ absurd (omega (arith, f.unmarked))
    | marked f ↦
        let c = confirmed x p f.place f.at f.cell_fits f.equal f.some (sym f.same ∙ e) in
        elim (origin (turn mv a) i p k z) [
          | stood y ↦ absurd (omega (arith, c.1, inv.lists a i p y z))
          | moved _ y _ ↦ absurd (omega (arith, c.1, inv.lists a (u m a) p y z))
          | new g ↦ unclaimed _ a b x g.low (λ _. g.first)
        ]
    | slot_same f g ↦ elim (origin (turn mv a) i p k z) [
      | stood y ↦ same_slot i (sym g ∙ h) (sym f ∙ e) y
      | moved _ y _ ↦ same_slot (u m a) (sym g ∙ h) (sym f ∙ e) y
      | new g ↦ unclaimed _ a b x g.low (λ _. g.first)
    ]
  ]
    where
      same_slot : (i : ℕ) → held m x ≡ 1 → private m x ≡ p → entry m a i ≡ p → CoverAt (λ z. z ≡ p) m' a b x
      same_slot i h e y =
          cover_step (λ z. z ≡ p) a b x S m m' l row e (turn mv a) (published_turn mv row) (inv.copied b x row)
          (inv.covered a b x i p l row h e y z)

  -- the entries that a reclaim has kept after it took one more out
  module _ (a : ℕ) where
    carried : {y : ℕ} → ((x : ℕ) → scanned m' a x ≡ scanned m a x) → Among (scanned m a) (all_slots S) y → Among (scanned m' a) (all_slots S) y
    carried f (among x k e) = among x k (f x ∙ e)

    front : (p k : ℕ) → Takes m m' a p k → (i : ℕ) → i < v m a → entry m' a i ≡ entry m a i → NotedEntry S m' a i
    front p k f i l e = let q = inv.kept a i f.was_freeing l in rw e (q.0, carried f.same_scanned q.1)

    front_keeping : (p : ℕ) → Takes m m' a p (v m a + 1) → Among (scanned m a) (all_slots S) p
        → ((i : ℕ) → entry m' a i ≡ cond (eqb (v m a) i) p (cond (eqb (u m a) i) 0 (entry m a i))) → (i : ℕ) → i < v m a + 1 → NotedEntry S m' a i
    front_keeping p f noted en i l = elim (sep (v m a) i) [
      | same e g ↦ rw (en i, g) (f.some, carried f.same_scanned noted)
      | diff n g ↦ front p (v m a + 1) f i (omega arith) (rw (en i, g, ne_eqb (u m a) i (omega (arith, f.kept))))
    ]

    front_freeing : (p : ℕ) → Takes m m' a p (v m a) → ((i : ℕ) → entry m' a i ≡ cond (eqb (u m a) i) 0 (entry m a i))
        → (i : ℕ) → i < v m a → NotedEntry S m' a i
    front_freeing p f en i l = front p (v m a) f i l (rw (en i, ne_eqb (u m a) i (omega (arith, f.kept))))

    -- they are different, so no more than the slots
    few : (n : ℕ) → ((i : ℕ) → i < n → NotedEntry S m' a i) → n ≤ all_slots S
    few n f =
        pigeonhole (all_slots S) n (entry m' a) (scanned m' a) (λ i l. (f i l).1)
        (λ i j l k e. (kept_apart a a i j (entry m' a j) e refl (f j k).0).1)

  kept_kept : (a i : ℕ) → phase m' a ≡ freeing → i < v m' a → NotedEntry S m' a i
  kept_kept a i h l = go (turn mv a)
    where
      go : {x : ℕ} {d : Bool} → Turn S s x m m' a d → NotedEntry S m' a i
      go (still f) =
          let q = inv.kept a i (sym f.same_phase ∙ h) (omega (arith, f.same_kept)) in
          rw (f.list.same_entries i) (q.0, carried a f.same_scanned q.1)
      go (outside f) = absurd (omega (arith, f.after))
      go (retiring p _ f) = absurd (omega (arith, f.low))
      go (collecting_on f) = absurd (omega (arith, onward_far f.next))
      go (pinging_on f) = absurd (omega (arith, onward_far f.next))
      go (waiting_on f) = absurd (omega (arith, onward_far f.next))
      go (scanning_on f) = absurd (omega (arith, f.none))
      go (keeping p f noted en) = front_keeping a p f noted en i (omega (arith, taken_on f.next h))
      go (freeing_one p f o) = front_freeing a p f o.left i (omega (arith, taken_on f.next h))

  -- outside a reclaim a list has room; and just after one, T×H entries at most
  kept_lengths : (a : ℕ) → phase m' a ≤ reserved → (list_length m' a < room S) × (phase m a ≡ freeing → list_length m' a ≤ all_slots S)
  kept_lengths a h = go (turn mv a)
    where
      over : list_length m' a ≤ all_slots S → (list_length m' a < room S) × (phase m a ≡ freeing → list_length m' a ≤ all_slots S)
      over l = (omega (arith, room_slots g.limits), λ _. l)

      go : {x : ℕ} {d : Bool} → Turn S s x m m' a d → (list_length m' a < room S) × (phase m a ≡ freeing → list_length m' a ≤ all_slots S)
      go (still f) = (omega (arith, f.list.same_length, inv.roomy a (omega (arith, f.same_phase))), λ e. absurd (omega (arith, f.same_phase)))
      go (outside f) = (omega (arith, f.list.same_length, inv.roomy a f.before), λ e. absurd (omega (arith, f.before)))
      go (retiring p _ f) = (omega (arith, f.longer, f.idle_or (omega arith), room_threshold g.limits), λ e. absurd (omega (arith, f.was_idle)))
      go (collecting_on f) = absurd (omega (arith, onward_far f.next))
      go (pinging_on f) = absurd (omega (arith, onward_far f.next))
      go (waiting_on f) = absurd (omega (arith, onward_far f.next))
      go (scanning_on f) = absurd (omega (arith, onward_far f.next))
      go (keeping p f noted en) = over (rw (taken_off f.next h) (few a (v m a + 1) (front_keeping a p f noted en)))
      go (freeing_one p f o) = over (rw (taken_off f.next h) (few a (v m a) (front_freeing a p f o.left)))

  pub few_stay : (a : ℕ) → phase m a ≡ freeing → phase m' a ≡ idle → list_length m' a ≤ all_slots S
  few_stay a e h = (kept_lengths a (omega arith)).1 e

  pub invariant_kept : Invariant S m'
  invariant_kept = record {
    cells = kept_cells;
    lists = kept_lists;
    apart = kept_apart;
    copied = kept_copied;
    reserving = kept_reserving;
    holds = kept_holds;
    covered = kept_covered;
    kept = kept_kept;
    roomy = λ a h. (kept_lengths a h).0;
  }
