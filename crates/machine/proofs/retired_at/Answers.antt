-- The entries of an undamaged image that has the thread, or nothing.
use Rattle.std.proofs.Common.{arith, ◌<◌, refl, ap, ◌∙◌}
use Rattle.std.proofs.lemmas.Result.{err_from_is_err_and}
use Rattle.rules.specs.Image.{view}
use Rattle.rules.specs.State.{list_length}
use Rattle.image.proofs.Lists.{room_first}
use Rattle.rules.proofs.Limits.{words_most}
use Rattle.machine.proofs.Undamaged.{asked_thread, from_is, many_is, refused_from, refused_many, why_not_0}
use Rattle.machine.proofs.retired_at.Goals as goal

pub returns-in_err-view : goal.returns-in_err-view
returns-in_err-view c =
    let p = err_from_is_err_and c.from_residual.result c.from_residual.ensures.1 in
    let e = c.in_err-view.ensures.number in
    rw (p.1, p.2) (e, refused_from _ _ e (why_not_0 _), refused_many _ _ e (why_not_0 _))

thread : (c : goal.After-place-arg-1) → c.args.thread < c.in_ok-view.view.layout.settings.threads
thread c = asked_thread _ _ c.in_ok-view.ensures.number c.in_ok-view.view.layout refl c.in_ok-view.ensures.view.1

pub place-requires : goal.place-requires
place-requires c = omega (arith, thread c, room_first c.in_ok-view.view.layout)

pub overflow_cast-result : goal.overflow_cast-result
overflow_cast-result c = record { fits = omega (arith, c.place.ensures.inside, words_most c.in_ok-view.view.layout.limits) }

pub word-requires : goal.word-requires
word-requires c = omega (arith, asked_thread _ _ c.in_ok-view.ensures.number c.in_ok-view.view.layout refl c.in_ok-view.ensures.view.1)

pub returns : goal.returns
returns c =
    let v = c.in_ok-view.view in
    let n = c.in_ok-view.ensures.number in
    let q = c.in_ok-view.ensures.view.1 in
    (n, from_is _ _ n v.layout refl q c.place.ensures, many_is _ _ n v.layout refl q (c.word.ensures ∙ ap (λ I. list_length (view v.layout.settings I) c.args.thread) c.in_ok-view.ensures.view.0))
