-- The cells are the words of their section.
use Rattle.std.proofs.Common.{arith, ap, ◌∙◌, eqb, refl}
use Rattle.machine.proofs.Sections.{one_wide, section_reads, section_rows}
use Rattle.rules.proofs.Laws.{some_same}
use Rattle.rules.specs.declared.Kind.TheVariants.{Cell}
use Rattle.rules.specs.Operations.{named}
use Rattle.machine.proofs.searches.named.Goals as goal

pub returns : goal.returns
unfolding named
returns c =
    let v = c.args.view.now in
    let e = section_rows v Cell c.section.ensures (one_wide refl refl refl) in
    c.any.ensures
    ∙ rw e (some_same _ (λ i b. ap (λ z. eqb z c.args.p) (section_reads v Cell c.section.ensures (one_wide refl refl refl) i (omega (arith, e)) (omega arith))))
