-- Legal settings are within their limits.
use Rattle.std.proofs.Common.{sym, ◌∙◌}
use Rattle.rules.proofs.Limits.{legal_says}
use Rattle.image.proofs.sizes.Sizes.of.Goals as goal

pub sections-requires : goal.sections-requires
sections-requires c = legal_says _ (sym c.legal.ensures ∙ c.if-not-legal.false)

pub invariant_of-result : goal.invariant_of-result
invariant_of-result c = record { limits = legal_says _ (sym c.legal.ensures ∙ c.if-not-legal.false); sections_are = c.sections.ensures }
