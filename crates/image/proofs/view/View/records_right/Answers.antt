-- The sections of cells, slots and scanned words, and the lists' entries.
use Rattle.std.proofs.Common.{arith, ℕ, Bool, leb, refl, ◌∙◌}
use Rattle.image.proofs.Columns.{column, narrow}
use Rattle.image.proofs.Lists.{section_all}
use Rattle.rules.specs.Damaged.{records_right}
use Rattle.rules.specs.declared.Kind.TheVariants.{Cell, Private, Published, Scanned}
use Rattle.image.proofs.view.View.records_right.Goals as goal

pub returns : goal.returns
unfolding records_right
returns c =
    let v = c.args.self.now in
    let S = v.layout.settings in
    let I = v.words.now in
    let f : ℕ → Bool = λ x. leb x S.records in
    rw (
      section_all f c.at_most.ensures c.section.ensures ∙ narrow S I Cell (record { first = refl; whole = refl }) refl f (λ i. i) (λ i. omega arith),
      section_all f c.at_most-2.ensures c.section-2.ensures ∙ narrow S I Private (record { first = refl; whole = refl }) refl f (λ i. i) (λ i. omega arith),
      section_all f c.at_most-3.ensures c.section-3.ensures ∙ narrow S I Published (record { first = refl; whole = refl }) refl f (λ i. i) (λ i. omega arith),
      c.lists_at_most.ensures,
      section_all f c.at_most-4.ensures c.section-4.ensures ∙ column S I Scanned (record { first = refl; whole = refl }) f (λ i. i) (λ i. omega arith),
    )
