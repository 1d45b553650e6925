-- Demand 3: its five statements, as specs/Demand3.antt has them, proved.
use mathlib.Core.Path.{◌≡◌}
use mathlib.Core.Bool.{true}
use mathlib.Core.List.{List}
use Rattle.rules.specs.declared.Settings.{Settings}
use Rattle.rules.specs.Settings.{legal}
use Rattle.rules.specs.declared.Step.{Step}
use Rattle.rules.specs.Image.{view}
use Rattle.rules.specs.Schedules.{reached}
use Rattle.rules.specs.Demand3.{ConfirmedStays, ReclaimFrees, ReclaimCosts, NeverFull, StaysUndamaged}
use Rattle.rules.proofs.Histories.{Reached, reached_fresh, reached_run, reply_number, never_marks_empty}
use Rattle.rules.proofs.Confirmed.{held_on, holding_status, holding_use}
use Rattle.rules.proofs.Reclaimed.{start, whole, freed_between, stay, costs}
use Rattle.rules.proofs.NeverFull.{not_ten}

-- 1
pub confirmed_stays : ConfirmedStays
unfolding ConfirmedStays
confirmed_stays S l ss i t s p c j b h n =
    let q = held_on S l ss i t s p c j b h n in
    (holding_status S l ss i t s p c j q, holding_use S l ss i t s p c j q)

-- 2
pub reclaim_frees : ReclaimFrees
unfolding ReclaimFrees
reclaim_frees S l ss a j e =
    let i = (start S l ss a j e).at in
    let c = whole S l ss a j e in
    (i, c, freed_between S l ss a i j c, stay S l ss a j e)

-- 3
pub reclaim_costs : ReclaimCosts
unfolding ReclaimCosts
reclaim_costs S l ss a i j c = costs S l ss a i j c

-- every run from a fresh set-up
run_reached : (S : Settings) → legal S ≡ true → (ss : List Step) → Reached S (reached S ss)
run_reached S l ss = reached_run ss (reached_fresh S l)

-- 4
pub never_full : NeverFull
unfolding NeverFull
never_full S l ss s =
    let g = run_reached S l ss in
    rw (reply_number g s) (not_ten S (view S (reached S ss)) s (g.invariant.roomy s.thread))

-- 5
pub stays_undamaged : StaysUndamaged
unfolding StaysUndamaged
stays_undamaged S l ss =
    let g = run_reached S l ss in
    (rw g.whole, never_marks_empty g, g.same_settings)
