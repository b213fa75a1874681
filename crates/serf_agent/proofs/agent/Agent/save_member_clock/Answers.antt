use Rattle.serf_agent.proofs.Names.{None, ap, arith, subst, sym, ◌-◌, ◌∙◌, ◌≡◌, Device, AppendsTime, SnapshotView, concrete_of, save, Steps, AgentState, ConcreteState}
use Rattle.serf_snapshot.specs.declared.kind.ClockKind.TheVariants as kinds
use Rattle.serf_agent.proofs.LineLaws.{agent_with, steps-save}
use Rattle.serf_agent.proofs.agent.Agent.save_member_clock.Goals as goal

pub returns-clause-step : goal.returns-clause-step
returns-clause-step g c = λ i sound is other.
    let was = ap (λ (a : AgentState). a.concrete) c.self.view_is ∙ is in
    let r = c.append_line.result in
    let t = c.in-Some.time in
    let snapshot = ap (λ (s : ConcreteState). s.snapshot) was in
    let new = c.append_line.new.self in
    let at : t ≡ i.member_clock - 1 = omega (arith, c.in-Some.ensures, c.time.ensures, c.saturating_sub.ensures, ap (λ (s : ConcreteState). s.member_clock) was) in
    let noted = subst (λ (s : SnapshotView). AppendsTime kinds.Member t None (record { snapshot = s; device = c.self.inside.snapshot.device }) new r) snapshot c.append_line.ensures in
    let steps = steps-save c.sound_snapshots.ensures i t c.self.inside.snapshot.device new r sound at noted other in
    subst (λ (d : Device). Steps i (save i) r d (agent_with new (record { config = c.self.inside.config; member_clock = c.self.inside.member_clock; events = concrete_of c.self.inside.events; queries = concrete_of c.self.inside.queries; snapshot = c.self.inside.snapshot.snapshot; fired_queries = c.self.inside.fired_queries })))
    (ap (λ (a : AgentState). a.device) c.self.view_is)
    (subst (λ (s : ConcreteState). Steps i (save i) r c.self.inside.snapshot.device (agent_with new s)) (sym was) steps)
