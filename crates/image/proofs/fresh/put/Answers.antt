-- An image has room for its settings.
use Rattle.std.proofs.Common.{arith, ◌∙◌}
use Rattle.rules.proofs.Shaped.{words_far}
use Rattle.image.proofs.fresh.put.Goals as goal

pub put_settings-requires : goal.put_settings-requires
put_settings-requires c = omega (arith, words_far c.args.sizes.now.settings, c.requires)

pub put_sections-requires : goal.put_sections-requires
put_sections-requires c = (c.put_settings.ensures.0 ∙ c.requires, c.put_settings.ensures.1)
