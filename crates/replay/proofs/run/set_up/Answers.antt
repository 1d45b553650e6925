-- Legal settings and an image of their length: set-up writes the fresh image.
use Rattle.replay.proofs.Runs as run
use Rattle.replay.proofs.run.set_up.Goals as goal

pub unwrap-requires : goal.unwrap-requires
unwrap-requires c = run.is_set_up c.settings.ensures c.args.schedule.says c.args.image.now c.requires c.set_up.result c.set_up.ensures

pub returns : goal.returns
returns c = run.sets_up c.settings.ensures c.args.schedule.says c.args.image.now c.requires c.set_up.result c.set_up.ensures
