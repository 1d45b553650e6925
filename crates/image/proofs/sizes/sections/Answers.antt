-- Products of settings within their limits.
use Rattle.std.proofs.Common.{arith}
use Rattle.image.proofs.Sections.{lists_fit}
use Rattle.rules.proofs.Limits.{room_most}
use Rattle.rules.specs.Image.{sizes}
use Rattle.image.proofs.sizes.sections.Goals as goal

pub overflow_add-result : goal.overflow_add-result
overflow_add-result c = omega (arith, room_most c.requires)

pub overflow_mul-result-3 : goal.overflow_mul-result-3
overflow_mul-result-3 c = omega (arith, lists_fit c.requires c.room-l.ensures)

pub returns : goal.returns
unfolding sizes
returns c = cc
