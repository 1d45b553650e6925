-- The count, and after it the word as often.
use Rattle.image.proofs.Runs.{filled}
use Rattle.image.proofs.fresh.fill.Goals as goal

pub returns : goal.returns
returns c = filled c.args.words.now c.args.p c.args.n c.args.x c.requires.0 (c.fill.ensures.after (λ y q. q))
