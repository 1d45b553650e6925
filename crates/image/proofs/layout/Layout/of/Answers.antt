-- The settings of a shaped image stand in its first words.
use Rattle.rules.proofs.Shaped.{settings_in}
use Rattle.image.proofs.layout.Layout.of.Goals as goal

pub settings-settings-requires : goal.settings-settings-requires
settings-settings-requires c = settings_in c.requires
