-- The section's words stand between its start and the next one's.
use Rattle.std.proofs.Common.{arith}
use Rattle.image.proofs.Stands.{section_fits, section_least, section_part, section_within}
use Rattle.image.proofs.view.View.section.Goals as goal

pub overflow_add-start : goal.overflow_add-start
overflow_add-start c = omega (arith, section_fits c.args.self.now.layout _ c.lay-k.ensures)

pub offset_bounds-self-start : goal.offset_bounds-self-start
offset_bounds-self-start c = omega (arith, section_fits c.args.self.now.layout _ c.lay-k.ensures)

pub slice_bounds-result-count : goal.slice_bounds-result-count
slice_bounds-result-count c = section_least c.args.self.now.layout _ c.lay-k.ensures

pub slice_bounds-result-start : goal.slice_bounds-result-start
slice_bounds-result-start c = section_least c.args.self.now.layout _ c.lay-k.ensures

pub slice_bounds-result-end : goal.slice_bounds-result-end
slice_bounds-result-end c = omega (arith, section_within c.args.self.now.layout _ c.lay-k.ensures, c.args.self.now.long)

pub returns : goal.returns
returns c = section_part c.args.self.now _ c.lay-k.ensures
