-- The settings are refused, or the length is, or the image is written section by section.
use Rattle.std.proofs.Common.{sym, ap, ◌∙◌}
use Rattle.image.proofs.Runs.{set_up_0, set_up_12, set_up_13}
use Rattle.rules.specs.Image.{words}
use Rattle.rules.specs.SetUp.{fresh}
use Rattle.image.proofs.set_up.Goals as goal

pub returns-in_default : goal.returns-in_default
returns-in_default c = set_up_12 _ _ c.in_default.ensures

pub returns-then-words-total : goal.returns-then-words-total
returns-then-words-total c =
    set_up_13 _ _ c.in-Some.ensures.1 (λ e. c.if-words-total.true (e ∙ ap words (sym c.in-Some.ensures.0) ∙ sym c.total.ensures))

pub returns : goal.returns
returns c =
    set_up_0 _ _ c.in-Some.ensures.1 (c.if-words-total.false ∙ c.total.ensures ∙ ap words c.in-Some.ensures.0) (c.put.ensures ∙ ap fresh c.in-Some.ensures.0)
