-- The halves make the run, but for its last word where their number is odd.
use Rattle.std.proofs.Common.{arith, ◌/◌, length, leb}
use Rattle.image.proofs.Lists.{halved}
use Rattle.image.proofs.check.at_most.Goals as goal

pub returns : goal.returns
returns c = halved c.args.words.now (length c.args.words.now / 2) (λ x. leb x c.args.b) (omega arith) c.split_at.ensures.front c.split_at.ensures.back c.split_at-2.ensures.front c.split_at-2.ensures.back c.both_at_most.ensures c.run_at_most.ensures
