use Rattle.serf_world.proofs.Names.{List, None, Option, Some, [], ap, map, subst, sym, ℕ, ◌∙◌, ◌≡◌, slice_get, decoded, DeliveredQuery, Merges, error_in, merge_refusal, AgentState, ConcreteState, event_line, merges_given, NoMessage, TakesTurn, NodeState}
use Rattle.serf_world.proofs.MergeLaws.{does-merge, runs-merge}
use Rattle.serf_world.proofs.TurnLaws.{refuses}
use Rattle.serf_world.proofs.delivery.merge_at.Goals as goal

pub returns-in_default : goal.returns-in_default
returns-in_default c = λ m representable is.
    subst (λ (o : Option (List ℕ)). TakesTurn c.args.number c.args.sent.now c.args.sent.now (merges_given m c.args.join o) c.args.node.now c.refused.result) c.in_default.ensures
    (refuses m c.args.node.now NoMessage c.args.number c.args.sent.now c.refused.result is c.refused.ensures)

pub returns : goal.returns
returns c = λ m representable same.
    let was = c.node.view_is ∙ same in
    let is = ap (λ (s : NodeState). s.concrete) was in
    let memory = c.in_ok-answer.ensures.1 in
    let some : Some c.in-Some.bytes.now ≡ slice_get c.args.sent.now c.args.packet = c.in-Some.ensures in
    let did = does-merge c.merged_agents.ensures m c.args.join c.in-Some.bytes.now (error_in c.merge_remote_state-merged.result) c.node.inside.agent.device c.merge_remote_state-merged.new.self c.merge_remote_state-merged.new.out.items c.args.number c.args.sent.now c.in_ok-line.line representable memory c.know_packet.ensures
    (λ g refuses. let h = c.merge_remote_state-merged.ensures.refused g (subst (λ (s : ConcreteState). merge_refusal s.snapshot (decoded c.in-Some.bytes.now) ≡ Some g) (sym is) refuses) in
    (ap error_in h.0, ap (λ (a : AgentState). a.concrete) h.2 ∙ is, h.1 ∙ c.new-events.ensures.items))
    (λ p refuses reads. subst (λ l. Merges m.agent p c.args.join l c.merge_remote_state-merged.new.out.items c.node.inside.agent.device c.merge_remote_state-merged.new.self (error_in c.merge_remote_state-merged.result)) c.new-events.ensures.items
    (c.merge_remote_state-merged.ensures.merged m.agent p representable.consistent.sound is (runs-merge m.agent (decoded c.in-Some.bytes.now) refuses) reads))
    (c.in_ok-line.ensures ∙ (λ k. record { answer = c.in_ok-answer.ensures.0 k; sent = []; events = map (event_line c.args.number) c.merge_remote_state-merged.new.out.items; handed = None })) in
    subst (λ (o : Option (List ℕ)). TakesTurn c.args.number c.args.sent.now c.args.sent.now (merges_given m c.args.join o) (record { concrete = c.merge_remote_state-merged.new.self.concrete; handed = c.node.inside.handed.items }) c.in_ok-line.line) some
    (subst (λ (h : List (Option DeliveredQuery)). TakesTurn c.args.number c.args.sent.now c.args.sent.now (merges_given m c.args.join (Some c.in-Some.bytes.now)) (record { concrete = c.merge_remote_state-merged.new.self.concrete; handed = h }) c.in_ok-line.line)
    (sym (ap (λ (s : NodeState). s.handed) was)) did)
