-- The settings are legal and add up, or they are refused.
use Rattle.std.proofs.Common.{sym, ap, ◌∙◌}
use Rattle.image.proofs.Runs.{needed_illegal, needed_legal}
use Rattle.rules.specs.Image.{words}
use Rattle.image.proofs.words_needed.Goals as goal

pub returns-in-Some : goal.returns-in-Some
returns-in-Some c = c.total.ensures ∙ ap words c.in-Some.ensures.0 ∙ sym (needed_legal _ c.in-Some.ensures.1)

pub returns-in-None : goal.returns-in-None
returns-in-None c = sym (needed_illegal _ c.in-None.ensures)
