use Rattle.serf_conform.proofs.Names.{arith, length, ◌≡◌, is_serf}
use Rattle.serf_conform.proofs.TrialLemmas.{along_all, along_cut, along_one, reach_ends}
use Rattle.serf_conform.proofs.shrinking.narrow_by_one.Goals as goal

pub returns-in-Fails-clause-narrows : goal.returns-in-Fails-clause-narrows
returns-in-Fails-clause-narrows g c = λ whole input from h.
    along_cut (is_serf c.args.rules) c.args.config.now whole c.args.calls.now c.in_ok-fewer.fewer.items c.loop-at.at 1 _ input _ _ from _ _ c.in_ok-fewer.outcome
    (c.loop-at.invariant whole input from h) c.in_ok-fewer.ensures.tried c.in-Fails.is c.in_ok-fewer.ensures.left

pub returns-in-Ended-clause-narrows : goal.returns-in-Ended-clause-narrows
returns-in-Ended-clause-narrows g c = λ whole input from h.
    reach_ends (is_serf c.args.rules) c.args.config.now whole c.args.calls.now c.in_ok-fewer.fewer.items _ input _ _ from _ _ c.in_ok-fewer.outcome
    (c.loop-at.invariant whole input from h) c.in_ok-fewer.ensures.tried c.in-Ended.is

pub loop-at-preserved : goal.loop-at-preserved
loop-at-preserved g c = λ whole input from h.
    along_one (is_serf c.args.rules) c.args.config.now whole c.args.calls.now c.in_ok-fewer.fewer.items c.loop-at.at input _ _ from _ _ c.in_ok-fewer.outcome
    (c.loop-at.invariant whole input from h) c.in_ok-fewer.ensures.tried c.in-Agrees.is c.in_ok-fewer.ensures.left

pub returns-clause-narrows : goal.returns-clause-narrows
returns-clause-narrows g c = λ whole input from h.
    let all : c.loop-at.at ≡ length c.args.calls.now = omega arith in
    along_all (is_serf c.args.rules) c.args.config.now whole c.args.calls.now c.loop-at.at input _ from _ all (c.loop-at.invariant whole input from h)
