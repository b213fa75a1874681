use Rattle.serf_agent.proofs.Names.{Err, Ok, ap, subst, sym, ℕ, ◌-◌, ◌<◌, ◌^◌, ◌∙◌, ◌≡◌, err_from_is_err_and, FailsLine, Failed, Kept, written, AppendLineError, event_of, drawn, event_entered, event_out, event_packet, fire, is_too_large, written_event, fire_error_of, with_snapshot, Steps, MayAppendLine, bytes_with, device_appended, appended_with, AgentState, ConcreteState, view_of, FireError}
use Rattle.serf_snapshot.specs.declared.kind.ClockKind.TheVariants as kinds
use Rattle.serf_agent.proofs.AppendLineLaws.{by-error}
use Rattle.serf_agent.proofs.StepLaws.{steps-fire_entered, steps-fire_failed, fire-allowed, small-short}
use Rattle.serf_agent.proofs.ViewLaws.{failed-view}
use Rattle.serf_agent.proofs.agent.Agent.fire.Goals as goal

pub returns-clause-step : goal.returns-clause-step
returns-clause-step g c = λ i sound is _.
    let what = event_of c.args.name.now c.args.payload.now in
    let was = ap (λ (a : AgentState). a.concrete) c.self.view_is ∙ is in
    let e = c.in_ok-handed.ensures in
    let at : c.in-Some.time ≡ i.events.clock = c.in-Some.ensures.some.1 ∙ ap (λ (s : ConcreteState). s.events.clock) was in
    let time : i.events.clock < 2 ^ 64 - 1 = subst (λ (n : ℕ). n < 2 ^ 64 - 1) (ap (λ (s : ConcreteState). s.events.clock) was) c.in-Some.ensures.some.0 in
    let runs = sym (ap (λ (s : ConcreteState). s.snapshot.stopped) was) ∙ (sym c.is_stopped.ensures ∙ c.if-is_stopped.false) in
    let measured = c.measured.ensures ∙ ap (λ (s : ConcreteState). drawn s.events.clock) was in
    let small = (λ k. is_too_large (sym was k).config.event_limit (sym measured k) what c.args.coalesce) ∙ (sym c.is_too_large.ensures ∙ c.if-is_too_large.false) in
    let may = subst (λ (t : ℕ). MayAppendLine kinds.Event t (written_event i.config t what) i.snapshot Kept) at (subst (λ (s : ConcreteState). MayAppendLine kinds.Event c.in-Some.time (written_event s.config c.in-Some.time what) s.snapshot Kept) is e.line.allowed) in
    let packet = c.in_ok-packet.ensures ∙ ap (λ (t : ℕ). event_packet t what c.args.coalesce) at in
    let handed = e.out ∙ ap (λ (t : ℕ). event_out t what c.args.coalesce) at in
    let device = e.line.device ∙ ap (λ (s : ConcreteState). device_appended kinds.Event c.in-Some.time (written_event s.config c.in-Some.time what) s.snapshot c.args.self.now.device) is ∙ ap (λ (t : ℕ). device_appended kinds.Event t (written_event i.config t what) i.snapshot c.args.self.now.device) at in
    steps-fire_entered c.sound_snapshots.ensures i what c.args.coalesce _ c.args.self.now.device c.accept.new.self sound runs time (small-short i (drawn i.events.clock) what c.args.coalesce sound small) (fire-allowed i what c.args.coalesce runs small time) may
    (λ k. Ok record { packet = packet k; handed = handed k })
    (e.entered i is ∙ ap (λ (t : ℕ). view_of (with_snapshot (appended_with kinds.Event t (written_event i.config t what) i.snapshot Kept) (event_entered t what i))) at) device

pub returns-in_err-handed-clause-step : goal.returns-in_err-handed-clause-step
returns-in_err-handed-clause-step g c = λ i sound is memory.
    let what = event_of c.args.name.now c.args.payload.now in
    let was = ap (λ (a : AgentState). a.concrete) c.self.view_is ∙ is in
    let p = err_from_is_err_and c.from_residual-in_err-handed.result c.from_residual-in_err-handed.ensures.1 in
    let result = c.from_residual-in_err-handed.result in
    let error = c.in_err-handed.field-0.0 in
    let ended : result ≡ Err (fire_error_of error) = p.1 ∙ ap (λ (x : FireError). Err x) p.2 in
    let old = c.args.self.now in
    let new = c.accept.new.self in
    by-error kinds.Event c.in-Some.time (written_event old.concrete.config c.in-Some.time what) old new error (λ (f : AppendLineError). result ≡ Err (fire_error_of f) → Steps i (fire i what c.args.coalesce) result old.device new) c.in_err-handed.ensures.line (λ _ at. absurd (memory at)) (λ e answers.
    let at : c.in-Some.time ≡ i.events.clock = c.in-Some.ensures.some.1 ∙ ap (λ (s : ConcreteState). s.events.clock) was in
    let time : i.events.clock < 2 ^ 64 - 1 = subst (λ (n : ℕ). n < 2 ^ 64 - 1) (ap (λ (s : ConcreteState). s.events.clock) was) c.in-Some.ensures.some.0 in
    let runs = sym (ap (λ (s : ConcreteState). s.snapshot.stopped) was) ∙ (sym c.is_stopped.ensures ∙ c.if-is_stopped.false) in
    let measured = c.measured.ensures ∙ ap (λ (s : ConcreteState). drawn s.events.clock) was in
    let small = (λ k. is_too_large (sym was k).config.event_limit (sym measured k) what c.args.coalesce) ∙ (sym c.is_too_large.ensures ∙ c.if-is_too_large.false) in
    let durable = c.accept.new.self.concrete.snapshot.durable in
    let may = subst (λ (t : ℕ). MayAppendLine kinds.Event t (written_event i.config t what) i.snapshot (Failed durable)) at (subst (λ (s : ConcreteState). MayAppendLine kinds.Event c.in-Some.time (written_event s.config c.in-Some.time what) s.snapshot (Failed durable)) is e.allowed) in
    let state = failed-view i c.args.self.now.concrete c.accept.new.self.concrete kinds.Event c.in-Some.time durable is e.failed in
    let device = subst (λ (t : ℕ). FailsLine old.device new.device (bytes_with kinds.Event t (written_event i.config t what) i.snapshot)) at
    (subst (λ (s : ConcreteState). FailsLine old.device new.device (bytes_with kinds.Event c.in-Some.time (written_event s.config c.in-Some.time what) s.snapshot)) is e.device) in
    steps-fire_failed c.sound_snapshots.ensures i what c.args.coalesce durable result old.device new sound (fire-allowed i what c.args.coalesce runs small time) may answers
    (state ∙ ap (λ (t : ℕ). view_of (with_snapshot (written kinds.Event t i.snapshot (Failed durable)) i)) at) device) ended
