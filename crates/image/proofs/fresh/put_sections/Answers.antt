use Rattle.std.proofs.Common.{arith, ◌≡◌, ℕ, ◌+◌, ◌<◌, List, length, get_or, take, drop, length-take, get_or-take, get_or-drop, refl, ap, ◌∙◌}
use Rattle.image.proofs.Runs.{begun_done, begun_first, begun_fits, begun_more, begun_room}
use Rattle.rules.specs.Image.{sections, sizes, words}
use Rattle.rules.specs.declared.Settings.{Settings}
use Rattle.image.proofs.fresh.put_sections.Goals as goal

-- the sections after the first
few : (ns : List ℕ) (i : ℕ) → i < length (take 10 (drop 1 ns)) → i < 10
few ns i h = omega (arith, rw (length-take) at h)

all : (S : Settings) (ns : List ℕ) → ns ≡ sizes S → length (take 10 (drop 1 ns)) ≡ 10
unfolding sizes
all S ns e = rw e

after_first : (ns : List ℕ) (i : ℕ) → i < 10 → get_or (take 10 (drop 1 ns)) i 0 ≡ get_or ns (i + 1) 0
after_first ns i h = rw (get_or-take, get_or-drop) (ap (λ k. get_or ns k 0) (omega arith))

pub loop-i-init : goal.loop-i-init
loop-i-init c = (refl, begun_first _ _ c.requires.1)

pub fill-requires : goal.fill-requires
fill-requires c =
    let z = c.args.sizes.now in
    let b = c.loop-i.invariant.1 in
    let e : length c.loop-i.words ≡ words z.settings = c.loop-i.invariant.0 ∙ c.requires.0 in
    let f = few z.sections c.loop-i.i c.loop-i-test.true in
    let h : c.loop-i.i + 1 < sections = omega (arith, f) in
    rw (after_first z.sections c.loop-i.i f) (begun_room _ _ _ z.sections_are b h e, omega (arith, begun_fits _ _ _ z.limits z.sections_are b h e))

pub overflow_add-p : goal.overflow_add-p
overflow_add-p c =
    let z = c.args.sizes.now in
    let e : length c.loop-i.words ≡ words z.settings = c.loop-i.invariant.0 ∙ c.requires.0 in
    let f = few z.sections c.loop-i.i c.loop-i-test.true in
    omega (arith, after_first z.sections c.loop-i.i f, begun_fits _ _ _ z.limits z.sections_are c.loop-i.invariant.1 (omega (arith, f)) e)

pub overflow_add-p-in-loop-i : goal.overflow_add-p-in-loop-i
overflow_add-p-in-loop-i c =
    let z = c.args.sizes.now in
    let e : length c.loop-i.words ≡ words z.settings = c.loop-i.invariant.0 ∙ c.requires.0 in
    let f = few z.sections c.loop-i.i c.loop-i-test.true in
    omega (arith, after_first z.sections c.loop-i.i f, begun_fits _ _ _ z.limits z.sections_are c.loop-i.invariant.1 (omega (arith, f)) e)

pub loop-i-preserved : goal.loop-i-preserved
loop-i-preserved c =
    let l = c.loop-i in
    let z = c.args.sizes.now in
    let n = after_first z.sections l.i (few z.sections l.i c.loop-i-test.true) in
    (c.fill.ensures.long ∙ l.invariant.0, rw n (begun_more z.settings l.words _ _ (l.i + 1) (omega arith) z.sections_are c.word_of.ensures l.invariant.1 (rw n at c.fill.ensures)))

pub returns : goal.returns
returns c =
    let l = c.loop-i in
    begun_done c.args.sizes.now.settings l.words l.invariant.1 (omega (arith, all _ _ c.args.sizes.now.sections_are)) (l.invariant.0 ∙ c.requires.0)
