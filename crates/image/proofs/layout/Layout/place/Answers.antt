-- The table's line and the section's start give the address.
use Rattle.std.proofs.Common.{arith}
use Rattle.image.proofs.Stands.{place_fits, placed}
use Rattle.image.proofs.layout.Layout.place.Goals as goal

pub overflow_add-result : goal.overflow_add-result
overflow_add-result c = omega (arith, place_fits c.args.self _ c.lay-lay.ensures _ _ c.requires)

pub overflow_mul-result : goal.overflow_mul-result
overflow_mul-result c = omega (arith, place_fits c.args.self _ c.lay-lay.ensures _ _ c.requires)

pub overflow_add-result-2 : goal.overflow_add-result-2
overflow_add-result-2 c = omega (arith, place_fits c.args.self _ c.lay-lay.ensures _ _ c.requires)

pub overflow_add-result-3 : goal.overflow_add-result-3
overflow_add-result-3 c = omega (arith, place_fits c.args.self _ c.lay-lay.ensures _ _ c.requires)

pub overflow_add-result-4 : goal.overflow_add-result-4
overflow_add-result-4 c = omega (arith, place_fits c.args.self _ c.lay-lay.ensures _ _ c.requires)

pub returns : goal.returns
returns c = placed c.args.self _ c.lay-lay.ensures _ _ c.requires
