use Rattle.serf_agent.proofs.Names.{Err, List, [], ap, false, refl, subst, sym, ◌++◌, ◌∙◌, ◌∷◌, ◌≡◌, err_from_is_err_and, event_of_view, FailsLine, Failed, Kept, AppendLineError, event_out, written_event, merge_error_of, Received, MayAppendLine, bytes_with, device_appended, AgentState, ConcreteState, EventOut, MergeError}
use Rattle.serf_snapshot.specs.declared.kind.ClockKind.TheVariants as kinds
use Rattle.serf_agent.specs.declared.outcome.MergeError.TheVariants as merges
use Rattle.serf_agent.proofs.MergeLaws.{goes-entered, received-entered, received-wrong, wrong-line, wrong-memory}
use Rattle.serf_agent.proofs.AppendLineLaws.{by-error}
use Rattle.serf_agent.proofs.StepLaws.{steps-event_failed}
use Rattle.serf_agent.proofs.ViewLaws.{failed-view}
use Rattle.serf_agent.proofs.agent.Agent.accept_merged_event.Goals as goal

pub returns-in_err-reserve-clause-received : goal.returns-in_err-reserve-clause-received
returns-in_err-reserve-clause-received g c = λ i sound is says.
    let p = err_from_is_err_and c.from_residual.result c.from_residual.ensures.1 in
    let old = c.args.self.now in
    rw (p.1, p.2) (received-wrong i _ c.args.out.now.items _ old.device old merges.OutOfMemory c.reserve.ensures.items (wrong-memory i c.args.time (event_of_view c.args.event.now) old.device old sound says is refl))

pub returns-clause-received : goal.returns-clause-received
returns-clause-received g c = λ i sound is says.
    let what = event_of_view c.args.event.now in
    let e = c.in_ok-handed.ensures in
    let runs = sym (ap (λ (s : ConcreteState). s.snapshot.stopped) is) ∙ c.requires.may_enter.runs in
    let may = subst (λ (s : ConcreteState). MayAppendLine kinds.Event c.args.time (written_event s.config c.args.time what) s.snapshot Kept) is e.line.allowed in
    let device = e.line.device ∙ ap (λ (s : ConcreteState). device_appended kinds.Event c.args.time (written_event s.config c.args.time what) s.snapshot c.args.self.now.device) is in
    let goes = goes-entered c.sound_snapshots.ensures i c.args.time what c.args.self.now.device c.accept.new.self sound runs c.requires.small says may (e.entered i is) device in
    let added = c.add.ensures ∙ ap (λ (l : List EventOut). l ++ c.in_ok-handed.handed ∷ []) c.reserve.ensures.items in
    received-entered i _ c.args.out.now.items _ c.in_ok-handed.handed (event_out c.args.time what false) c.args.self.now.device c.accept.new.self added e.out goes

pub returns-in_err-handed-clause-received : goal.returns-in_err-handed-clause-received
returns-in_err-handed-clause-received g c = λ i sound is says.
    let what = event_of_view c.args.event.now in
    let p = err_from_is_err_and c.from_residual-in_err-handed.result c.from_residual-in_err-handed.ensures.1 in
    let result = c.from_residual-in_err-handed.result in
    let error = c.in_err-handed.field-0.0 in
    let ended : result ≡ Err (merge_error_of error) = p.1 ∙ ap (λ (x : MergeError). Err x) p.2 in
    let old = c.args.self.now in
    let new = c.accept.new.self in
    by-error kinds.Event c.args.time (written_event old.concrete.config c.args.time what) old new error (λ (f : AppendLineError). result ≡ Err (merge_error_of f) → Received i (record { time = c.args.time; key = what } ∷ []) c.args.out.now.items c.reserve.new.self.items old.device new result) c.in_err-handed.ensures.line
    (λ same at. rw at (received-wrong i _ _ _ old.device new merges.OutOfMemory c.reserve.ensures.items (wrong-memory i c.args.time what old.device new sound says (ap (λ (a : AgentState). a.concrete) same ∙ is) (ap (λ (a : AgentState). a.device) same))))
    (λ e at.
    let durable = new.concrete.snapshot.durable in
    let may = subst (λ (s : ConcreteState). MayAppendLine kinds.Event c.args.time (written_event s.config c.args.time what) s.snapshot (Failed durable)) is e.allowed in
    let state = failed-view i old.concrete new.concrete kinds.Event c.args.time durable is e.failed in
    let device = subst (λ (s : ConcreteState). FailsLine old.device new.device (bytes_with kinds.Event c.args.time (written_event s.config c.args.time what) s.snapshot)) is e.device in
    rw at (received-wrong i _ _ _ old.device new merges.SinkError c.reserve.ensures.items (wrong-line i c.args.time what old.device new (steps-event_failed c.sound_snapshots.ensures i c.args.time what false durable _ old.device new sound says may refl state device)))) ended
