-- The scanned words are the words of their row.
use Rattle.std.proofs.Common.{ap, ◌∙◌, eqb, arith}
use Rattle.rules.proofs.Laws.{some_same}
use Rattle.rules.specs.Advance.{noted}
use Rattle.machine.proofs.searches.noted.Goals as goal

pub returns : goal.returns
unfolding noted
returns c =
    let w = c.row.ensures in
    c.any.ensures ∙ rw w.long (some_same _ (λ x b. ap (λ z. eqb z c.args.p) (w.words x (omega arith))))
