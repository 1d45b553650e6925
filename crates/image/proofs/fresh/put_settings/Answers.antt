-- The settings, after their count.
use Rattle.std.proofs.Common.{arith, length-drop}
use Rattle.rules.specs.Image.{size, sizes}
use Rattle.rules.specs.Settings.{settings_words}
use Rattle.rules.specs.SetUp.{fresh_up_to, fresh_section}
use Rattle.image.proofs.fresh.put_settings.Goals as goal

pub returns : goal.returns
unfolding fresh_up_to fresh_section settings_words size sizes
returns c = (rw c.copy_from_slice.ensures.after (simp length-drop (omega arith)), rw c.copy_from_slice.ensures.after)
