use Rattle.serf_conform.proofs.Names.{arith, common_steps, is_serf}
use Rattle.serf_conform.proofs.TrialLemmas.{along_agrees, along_cut, along_less, reach_ends}
use Rattle.serf_conform.proofs.shrinking.narrow_by_many.Goals as goal

pub returns-in-Fails-clause-narrows : goal.returns-in-Fails-clause-narrows
returns-in-Fails-clause-narrows g c = λ whole input from h.
    along_cut (is_serf c.args.rules) c.args.config.now whole c.args.calls.now c.in_ok-shorter.shorter.items c.chunks.at _ _ input _ _ from _ _ c.in_ok-shorter.outcome
    (c.chunks.invariant.0 whole input from h) c.in_ok-shorter.ensures.tried c.in-Fails.is c.in_ok-shorter.ensures.left

pub returns-in-Ended-clause-narrows : goal.returns-in-Ended-clause-narrows
returns-in-Ended-clause-narrows g c = λ whole input from h.
    reach_ends (is_serf c.args.rules) c.args.config.now whole c.args.calls.now c.in_ok-shorter.shorter.items _ input _ _ from _ _ c.in_ok-shorter.outcome
    (c.chunks.invariant.0 whole input from h) c.in_ok-shorter.ensures.tried c.in-Ended.is

pub chunks-preserved : goal.chunks-preserved
chunks-preserved g c = (
  λ whole input from h.
      along_less (is_serf c.args.rules) c.args.config.now whole c.args.calls.now _ input _ from _
      (along_agrees (is_serf c.args.rules) c.args.config.now whole c.args.calls.now c.in_ok-shorter.shorter.items _ input _ _ from _ _ c.in_ok-shorter.outcome
      (c.chunks.invariant.0 whole input from h) c.in_ok-shorter.ensures.tried c.in-Agrees.is),
  grind (arith, common_steps, c.min.ensures),
)
