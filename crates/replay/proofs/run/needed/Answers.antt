-- Legal settings need as many words as they give.
use Rattle.replay.proofs.Runs as run
use Rattle.replay.proofs.run.needed.Goals as goal

pub returns : goal.returns
returns c = run.needs c.settings.ensures c.args.schedule.says c.words_needed.ensures
