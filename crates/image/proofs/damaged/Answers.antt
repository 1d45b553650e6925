-- Too short, settings refused, not as long or counted as they give, or word by word.
use Rattle.std.proofs.Common.{refl, ap, ◌∙◌}
use Rattle.image.proofs.Verdicts.{illegal, shaped, short, unlaid, verdict}
use Rattle.rules.specs.Settings.{legal}
use Rattle.image.proofs.damaged.Goals as goal

pub returns-then-words-lt7 : goal.returns-then-words-lt7
returns-then-words-lt7 c = short _ c.if-words-lt7.true

pub returns-in_default : goal.returns-in_default
returns-in_default c = illegal _ c.settings.ensures refl c.in_default.ensures

pub returns-then-not-laid : goal.returns-then-not-laid
returns-then-not-laid c =
    unlaid _ (c.in-Some.ensures.0 ∙ c.settings.ensures) refl c.laid.ensures (ap legal c.in-Some.ensures.0 ∙ c.in-Some.ensures.1) c.if-not-laid.true

pub of-layout-requires : goal.of-layout-requires
of-layout-requires c =
    shaped _ (c.in-Some.ensures.0 ∙ c.settings.ensures) refl c.laid.ensures (ap legal c.in-Some.ensures.0 ∙ c.in-Some.ensures.1) c.if-not-laid.false

pub invariant_of-right : goal.invariant_of-right
invariant_of-right c = record { long = c.of-layout.ensures.1 }

pub returns : goal.returns
returns c =
    verdict _ (c.in-Some.ensures.0 ∙ c.settings.ensures) refl c.laid.ensures (ap legal c.in-Some.ensures.0 ∙ c.in-Some.ensures.1) c.if-not-laid.false c.of-layout.ensures.0 c.right.ensures
