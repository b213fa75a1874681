use Rattle.serf_agent.proofs.Names.{ap, arith, false, ◌+◌, ◌∙◌, observed, clock_state, AgentState, ConcreteState}
use Rattle.serf_agent.proofs.MemberClockLaws.{heard-view}
use Rattle.serf_agent.proofs.SoundLaws.{sound-joined}
use Rattle.serf_agent.proofs.agent.Agent.observe_member_time.Goals as goal

pub returns-clause-heard : goal.returns-clause-heard
returns-clause-heard g c = λ i sound is.
    let was = ap (λ (a : AgentState). a.concrete) c.self.view_is ∙ is in
    let clock = c.observe.ensures ∙ ap (λ (s : ConcreteState). observed s.member_clock c.args.time) was in (
      (λ k. record { config = (was k).config; member_clock = clock k; events = (was k).events; queries = (was k).queries; snapshot = (was k).snapshot; fired_queries = (was k).fired_queries }) ∙ heard-view c.args.time i,
      sound-joined (clock_state (c.args.time + 1)) false i sound (omega arith),
    )
