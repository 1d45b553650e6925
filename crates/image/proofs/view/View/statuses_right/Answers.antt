-- The section of statuses, a word a record.
use Rattle.std.proofs.Common.{arith, ◌+◌, leb, refl, ◌∙◌}
use Rattle.image.proofs.Columns.{narrow}
use Rattle.image.proofs.Lists.{section_all}
use Rattle.rules.specs.Damaged.{statuses_right}
use Rattle.rules.specs.declared.Kind.TheVariants.{Status}
use Rattle.image.proofs.view.View.statuses_right.Goals as goal

pub returns : goal.returns
unfolding statuses_right
returns c = section_all (λ x. leb x 2) c.at_most.ensures c.section.ensures ∙ narrow _ _ Status (record { first = refl; whole = refl }) refl (λ x. leb x 2) (λ i. i + 1) (λ i. omega arith)
