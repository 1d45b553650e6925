-- The sections of marks and of private slots, in the same order.
use Rattle.std.proofs.Common.{arith, not, ◌||◌, eqb, leb, refl, sym, ◌∙◌}
use Rattle.image.proofs.Columns.{narrow, one_word_at, rows_are}
use Rattle.image.proofs.Lists.{all_told, section_all}
use Rattle.rules.specs.Damaged.{marks_right}
use Rattle.rules.specs.State.{held, private}
use Rattle.image.specs.Views.{seen}
use Rattle.rules.specs.declared.Kind.TheVariants.{Held, Private}
use Rattle.image.proofs.view.View.marks_right.Goals as goal

pub beside-requires : goal.beside-requires
beside-requires c =
    let S = c.args.self.now.layout.settings in
    c.section-marks.ensures.long ∙ rows_are S Held refl ∙ sym (rows_are S Private refl) ∙ sym c.section.ensures.long

pub returns : goal.returns
unfolding marks_right
returns c =
    let v = c.args.self.now in
    let S = v.layout.settings in
    let I = v.words.now in
    let x = section_all (λ x. leb x 1) c.at_most.ensures c.section-marks.ensures ∙ narrow S I Held (record { first = refl; whole = refl }) refl (λ x. leb x 1) (λ i. i) (λ i. omega arith) in
    let y = all_told {g = λ i. eqb (held (seen v) i) 0 || not (eqb (private (seen v) i) 0)} (c.section-marks.ensures.long ∙ rows_are S Held refl)
    (λ i b. rw (
      c.section-marks.ensures.words i b ∙ sym (one_word_at S I Held (record { first = refl; whole = refl }) refl i i (omega arith) (omega (arith, b, c.section-marks.ensures.long, rows_are S Held refl))),
      c.section.ensures.words i (omega (arith, b, c.section-marks.ensures.long, c.section.ensures.long, rows_are S Held refl, rows_are S Private refl))
          ∙ sym (one_word_at S I Private (record { first = refl; whole = refl }) refl i i (omega arith) (omega (arith, b, c.section-marks.ensures.long, rows_are S Held refl))),
    )) c.beside.ensures in
    rw (x, y)
