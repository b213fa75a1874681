use Rattle.serf_conform.proofs.Names.{arith, drop, length, sym, take, ◌-◌, ◌∙◌, ◌≡◌, common_steps, outcome_of, turns_of, is_serf}
use Rattle.serf_conform.proofs.SweepLemmas.{next_ends, next_on}
use Rattle.serf_conform.proofs.sweep.hold_configs.Goals as goal

pub returns-then-is_differing : goal.returns-then-is_differing
returns-then-is_differing g c =
    next_ends _ _ _ _ _ _ _ (is_serf c.args.rules) (turns_of c.args.actions.now (outcome_of c.args.trace.now)) c.agents.agent c.agents.counts c.agents.left.now
    c.config-item.result c.in_ok-verdict-in-len1-up.verdict _ c.in-len1-up.len_at_least c.config-item.is c.agents.invariant.0
    c.in_ok-verdict-in-len1-up.ensures (sym c.is_differing.ensures ∙ c.if-is_differing.true) c.with_verdict-counts.ensures

pub agents-preserved : goal.agents-preserved
agents-preserved g c =
    let following : take (length c.agents.left.now - 1) (drop 1 c.agents.left.now) ≡ drop 1 c.agents.left.now = grind (arith, common_steps) in (
      next_on _ _ _ _ _ _ _ (is_serf c.args.rules) (turns_of c.args.actions.now (outcome_of c.args.trace.now)) c.agents.agent c.agents.counts c.agents.left.now
          c.config-item.result _ c.in_ok-verdict-in-len1-up.verdict _ c.in-len1-up.len_at_least c.config-item.is c.agents.invariant.0
          c.in_ok-verdict-in-len1-up.ensures (sym c.is_differing.ensures ∙ c.if-is_differing.false) following c.with_verdict-counts.ensures,
      grind (arith, common_steps, following),
    )
