use Rattle.serf_agent.proofs.Names.{Err, Ok, ap, refl, rules, subst, sym, ◌∙◌, ◌≡◌, err_from_is_err_and, EventBody, FailsLine, Failed, Kept, AppendLineError, event_of, WindowOf, receive_event, written_event, receive_error_of, Steps, MayAppendLine, bytes_with, device_appended, AgentState, ConcreteState, EventOut, Event, ReceiveError}
use Rattle.serf_snapshot.specs.declared.kind.ClockKind.TheVariants as kinds
use Rattle.serf_agent.proofs.AppendLineLaws.{by-error}
use Rattle.serf_agent.proofs.StepLaws.{steps-event_ignored, steps-event_entered, steps-event_failed}
use Rattle.serf_agent.proofs.TakenPackets.{takes-ok}
use Rattle.serf_agent.proofs.ViewLaws.{event_observed-view, failed-view}
use Rattle.serf_agent.proofs.agent.Agent.receive_event.Goals as goal

pub returns-in-Some : goal.returns-in-Some
returns-in-Some g c = takes-ok _ _ _ _ _ (λ e. cc e) (λ e. cc e) (λ i sound is.
    let was = ap (λ (a : AgentState). a.concrete) c.self.view_is ∙ is in
    let e = c.observe.ensures in
    steps-event_ignored i c.args.event.now.time (event_of c.args.event.now.name.now c.args.event.now.payload.now) c.args.event.now.coalesce c.in-Some.reason c.args.self.now.device _ sound (sym (c.in-Some.ensures.reason i sound is))
    (event_observed-view i _ _ c.args.event.now.time was e.clock e.minimum (ap (λ (w : WindowOf EventBody). w.slots) e.window)) (ap (λ (a : AgentState). a.device) c.self.view_is))

pub returns-in_ok-out-in-None : goal.returns-in_ok-out-in-None
returns-in_ok-out-in-None g c = takes-ok _ _ _ _ _ (λ e. cc e) (λ e. cc e) (λ i sound is.
    let what = event_of c.args.event.now.name.now c.args.event.now.payload.now in
    let new = c.in-None.ensures in
    let e = c.in_ok-out-in-None.ensures in
    let runs = sym (ap (λ (s : ConcreteState). s.snapshot.stopped) is) ∙ c.requires in
    let may = subst (λ (s : ConcreteState). MayAppendLine kinds.Event c.args.event.now.time (written_event s.config c.args.event.now.time what) s.snapshot Kept) is e.line.allowed in
    let device = e.line.device ∙ ap (λ (s : ConcreteState). device_appended kinds.Event c.args.event.now.time (written_event s.config c.args.event.now.time what) s.snapshot c.args.self.now.device) is in
    steps-event_entered c.sound_snapshots.ensures i c.args.event.now.time what c.args.event.now.coalesce _ c.args.self.now.device c.accept.new.self sound runs (new.small refl) (sym (new.reason i sound is)) may (ap (λ (o : EventOut). Ok (Event o)) e.out) (e.entered i is) device)

pub returns-in_err-out-in-None : goal.returns-in_err-out-in-None
returns-in_err-out-in-None g c = record {
  step = λ i sound is memory.
      let what = event_of c.args.event.now.name.now c.args.event.now.payload.now in
      let p = err_from_is_err_and c.from_residual.result c.from_residual.ensures.1 in
      let result = c.from_residual.result in
      let error = c.in_err-out-in-None.field-0.0 in
      let ended : result ≡ Err (receive_error_of error) = p.1 ∙ ap (λ (x : ReceiveError). Err x) p.2 in
      let old = c.args.self.now in
      let new = c.accept.new.self in
      by-error kinds.Event c.args.event.now.time (written_event old.concrete.config c.args.event.now.time what) old new error (λ (f : AppendLineError). result ≡ Err (receive_error_of f) → Steps i (receive_event i c.args.event.now.time what c.args.event.now.coalesce) result old.device new) c.in_err-out-in-None.ensures.line (λ _ at. absurd (memory at)) (λ e answers.
      let durable = c.accept.new.self.concrete.snapshot.durable in
      let may = subst (λ (s : ConcreteState). MayAppendLine kinds.Event c.args.event.now.time (written_event s.config c.args.event.now.time what) s.snapshot (Failed durable)) is e.allowed in
      steps-event_failed c.sound_snapshots.ensures i c.args.event.now.time what c.args.event.now.coalesce durable result old.device new sound (sym (c.in-None.ensures.reason i sound is)) may answers
      (failed-view i c.args.self.now.concrete c.accept.new.self.concrete kinds.Event c.args.event.now.time durable is e.failed)
      (subst (λ (s : ConcreteState). FailsLine old.device new.device (bytes_with kinds.Event c.args.event.now.time (written_event s.config c.args.event.now.time what) s.snapshot)) is e.device)) ended;
  only_new = search rules;
  memory = search rules;
  refused = search rules;
  cause = search rules;
  ack = search rules;
  response = search rules;
}
