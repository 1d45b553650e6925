use Rattle.std.proofs.Common.{arith, ◌≡◌, refl, length-set}
use Rattle.image.proofs.Sections.{count_fits, count_in, count_more, start_none, stored_at, stored_more}
use Rattle.rules.specs.Image.{sections, start}
use Rattle.rules.specs.Settings.{settings}
use Rattle.image.proofs.layout.starts.Goals as goal

pub loop-k-init : goal.loop-k-init
loop-k-init c = (omega arith, start_none _, refl, λ j h. absurd (omega arith))

pub offset_bounds-words-p : goal.offset_bounds-words-p
offset_bounds-words-p c = omega (arith, count_in c.requires c.loop-k-test.true c.loop-k.invariant.1)

pub bounds-words-p : goal.bounds-words-p
bounds-words-p c = count_in c.requires c.loop-k-test.true c.loop-k.invariant.1

pub overflow_add-p-in-loop-k : goal.overflow_add-p-in-loop-k
overflow_add-p-in-loop-k c = omega (arith, count_fits c.requires c.loop-k-test.true c.loop-k.invariant.1 _ refl)

pub loop-k-preserved : goal.loop-k-preserved
loop-k-preserved c =
    let l = c.loop-k in (
      omega arith,
      count_more c.requires c.loop-k-test.true l.invariant.1 _ refl,
      simp length-set l.invariant.2,
      stored_more (start (settings c.args.words.now)) l.starts l.k l.p (omega arith) l.invariant.1 l.invariant.3,
    )

pub returns : goal.returns
returns c = λ k h.
    let l = c.loop-k in
    let e : l.k ≡ sections = omega arith in
    stored_at (start (settings c.args.words.now)) l.starts e l.p (omega arith) l.invariant.1 l.invariant.3 k (omega arith)
