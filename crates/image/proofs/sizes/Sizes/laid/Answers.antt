-- The length, and then the counts.
use Rattle.std.proofs.Common.{sym, ◌∙◌, ne_eqb}
use Rattle.rules.proofs.Shaped.{laid_long, laid_short}
use Rattle.image.proofs.sizes.Sizes.laid.Goals as goal

pub returns-then-words-total : goal.returns-then-words-total
returns-then-words-total c = c.counts_right.ensures ∙ sym (laid_long _ _ (c.if-words-total.true ∙ c.total.ensures))

pub returns-else-words-total : goal.returns-else-words-total
returns-else-words-total c = ne_eqb _ _ c.if-words-total.false ∙ sym (laid_short _ _ (λ e. c.if-words-total.false (e ∙ sym c.total.ensures)))
