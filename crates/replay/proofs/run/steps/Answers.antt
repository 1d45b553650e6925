-- Each turn has its room, and makes up its share of what is to come.
use Rattle.std.proofs.Common.{ap, ◌∙◌, arith, rules}
use Rattle.std.specs.Iterator.Adapters.{enumerate_source}
use Rattle.rules.specs.Program.{given_count, given_step}
use Rattle.replay.proofs.Runs.{going_none, going_low, going_more, going_ran}
use Rattle.replay.proofs.run.steps.Goals as goal

pub loop-i-init : goal.loop-i-init
loop-i-init c = record {
  can = search rules;
  ends = search rules;
  place = search rules;
  input = search rules;
  same_reference = search rules;
  going = going_none _ _ _ c.new-report.ensures.begun.0 c.new-report.ensures.begun.1 (search rules);
}

pub turn-requires : goal.turn-requires
turn-requires c =
    let g = c.loop-i.invariant.going in
    let s = c.in-Some.ensures.steps in
    let e = ap given_count c.loop-i.invariant.input in
    (omega (arith, s.0.0, s.1, e, c.loop-i.invariant.place, c.args.schedule.says.few), omega (arith, g.room, s.0.0, e, c.loop-i.invariant.place, c.args.schedule.says.few), going_low g c.args.schedule.says.few)

pub loop-i-preserved : goal.loop-i-preserved
loop-i-preserved c =
    let v = c.loop-i.invariant in
    let s = c.in-Some.ensures.steps in
    let e = ap given_count v.input in
    let step = s.0.1 ∙ ap (λ I. given_step I (enumerate_source c.loop-i.i-iterator).at) v.input ∙ ap (given_step c.args.schedule.bytes.now) v.place in
    record {
      can = search rules;
      ends = search rules;
      place = search rules;
      input = search rules;
      same_reference = search rules;
      going = going_more v.going (omega (arith, s.0.0, e, v.place)) (rw (s.1, step) at c.turn.ensures.turned) s.2;
    }

pub returns-clause-ran : goal.returns-clause-ran
returns-clause-ran c =
    let e = ap given_count c.loop-i.invariant.input in
    going_ran c.loop-i.invariant.going (omega (arith, c.in-None.ensures.steps.0.0, e, c.loop-i.invariant.place))
