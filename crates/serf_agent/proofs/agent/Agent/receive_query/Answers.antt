use Rattle.serf_agent.proofs.Names.{Err, List, None, Ok, Some, ap, cond, not, rules, subst, sym, ℕ, ◌∙◌, ◌≡◌, err_from_is_err_and, query_said, FailsLine, Failed, Kept, AppendLineError, WindowOf, receive_error_of, ack_packet, all_pass, handed_query, has_flag, receive_query, written_query, Steps, MayAppendLine, bytes_with, device_appended, AgentState, ConcreteState, ReceiveError}
use Rattle.serf_snapshot.specs.declared.kind.ClockKind.TheVariants as kinds
use Rattle.serf_agent.specs.declared.outcome.Outcome.TheVariants as outcomes
use Rattle.serf_agent.proofs.AppendLineLaws.{by-error}
use Rattle.serf_agent.proofs.StepLaws.{steps-query_ignored, steps-query_entered, steps-query_failed}
use Rattle.serf_agent.proofs.TakenPackets.{takes-ok}
use Rattle.serf_agent.proofs.ViewLaws.{query_observed-view, failed-view}
use Rattle.serf_agent.proofs.agent.Agent.receive_query.Goals as goal

pub returns-in-Some : goal.returns-in-Some
returns-in-Some g c = takes-ok _ _ _ _ _ (λ e. cc e) (λ e. cc e) (λ i sound is.
    let was = ap (λ (a : AgentState). a.concrete) c.self.view_is ∙ is in
    let q = query_said c.args.query.now in
    let e = c.observe.ensures in
    steps-query_ignored c.args.tags_pass i c.args.now q c.in-Some.reason c.args.self.now.device _ sound (sym (c.in-Some.ensures.reason i sound is))
    (query_observed-view i _ _ q.time was e.clock e.minimum (ap (λ (w : WindowOf ℕ). w.slots) e.window)) (ap (λ (a : AgentState). a.device) c.self.view_is))

pub returns-in_ok-handed-in-None : goal.returns-in_ok-handed-in-None
returns-in_ok-handed-in-None g c = takes-ok _ _ _ _ _ (λ e. cc e) (λ e. cc e) (λ i sound is.
    let was = ap (λ (a : AgentState). a.concrete) c.self.view_is ∙ is in
    let q = query_said c.args.query.now in
    let new = c.in-None.ensures in
    let e = c.in_ok-handed-in-None.ensures in
    let config = ap (λ (s : ConcreteState). s.config) is in
    let passed = c.borrowed_filters_pass-passed.ensures ∙ ap (λ (n : List ℕ). all_pass c.args.tags_pass q.filters n) (c.as_slice.ensures ∙ ap (λ (s : ConcreteState). s.config.name) was) in
    let handed = e.handed ∙ (λ k. cond (passed k) (Some (handed_query (config k) c.args.now q)) None) in
    let ack = e.ack ∙ (λ k. cond (passed k) (cond (has_flag 1 q.flags) (Some (ack_packet (config k).name q)) None) None) in
    let broadcast = c.has_flag.ensures in
    let runs = sym (ap (λ (s : ConcreteState). s.snapshot.stopped) is) ∙ c.requires in
    let may = subst (λ (s : ConcreteState). MayAppendLine kinds.Query q.time (written_query s.config q.time q.id) s.snapshot Kept) is e.line.allowed in
    let device = e.line.device ∙ ap (λ (s : ConcreteState). device_appended kinds.Query q.time (written_query s.config q.time q.id) s.snapshot c.args.self.now.device) is in
    steps-query_entered c.sound_snapshots.ensures c.args.tags_pass i c.args.now q _ c.args.self.now.device c.accept_query.new.self sound runs new.small (sym (new.reason i sound is)) may
    (λ k. Ok (outcomes.Query (handed k) (ack k) (not (broadcast k)))) (e.entered i is) device)

pub returns-in_err-handed-in-None : goal.returns-in_err-handed-in-None
returns-in_err-handed-in-None g c = record {
  step = λ i sound is memory.
      let q = query_said c.args.query.now in
      let p = err_from_is_err_and c.from_residual.result c.from_residual.ensures.1 in
      let result = c.from_residual.result in
      let error = c.in_err-handed-in-None.field-0.0 in
      let ended : result ≡ Err (receive_error_of error) = p.1 ∙ ap (λ (x : ReceiveError). Err x) p.2 in
      let old = c.args.self.now in
      let new = c.accept_query.new.self in
      by-error kinds.Query q.time (written_query old.concrete.config q.time q.id) old new error (λ (f : AppendLineError). result ≡ Err (receive_error_of f) → Steps i (receive_query c.args.tags_pass i c.args.now q) result old.device new) c.in_err-handed-in-None.ensures.line (λ _ at. absurd (memory at)) (λ e answers.
      let durable = c.accept_query.new.self.concrete.snapshot.durable in
      let may = subst (λ (s : ConcreteState). MayAppendLine kinds.Query q.time (written_query s.config q.time q.id) s.snapshot (Failed durable)) is e.allowed in
      steps-query_failed c.sound_snapshots.ensures c.args.tags_pass i c.args.now q durable result old.device new sound (sym (c.in-None.ensures.reason i sound is)) may answers
      (failed-view i c.args.self.now.concrete c.accept_query.new.self.concrete kinds.Query q.time durable is e.failed)
      (subst (λ (s : ConcreteState). FailsLine old.device new.device (bytes_with kinds.Query q.time (written_query s.config q.time q.id) s.snapshot)) is e.device)) ended;
  only_new = search rules;
  memory = search rules;
  refused = search rules;
  cause = search rules;
  ack = search rules;
  response = search rules;
}
