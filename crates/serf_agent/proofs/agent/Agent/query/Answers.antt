use Rattle.serf_agent.proofs.Names.{Err, Ok, ap, false, subst, sym, ℕ, ◌-◌, ◌<◌, ◌^◌, ◌∙◌, ◌≡◌, err_from_is_err_and, FailsLine, Failed, Kept, written, AppendLineError, query_error_of, with_snapshot, fire_query, fired_query, is_too_large_query, query_opened, query_at, written_query, Steps, MayAppendLine, bytes_with, device_appended, appended_with, AgentState, ConcreteState, view_of, QueryError}
use Rattle.serf_snapshot.specs.declared.kind.ClockKind.TheVariants as kinds
use Rattle.serf_agent.proofs.AppendLineLaws.{by-error}
use Rattle.serf_agent.proofs.StepLaws.{query-allowed, steps-query_opened, steps-query_fire_failed}
use Rattle.serf_agent.proofs.ViewLaws.{failed-view}
use Rattle.serf_agent.proofs.agent.Agent.query.Goals as goal

pub returns-clause-step : goal.returns-clause-step
returns-clause-step g c = λ i sound is _.
    let name = c.args.name.now in
    let payload = c.args.payload.now in
    let params = c.args.params.now in
    let was = ap (λ (a : AgentState). a.concrete) c.self.view_is ∙ is in
    let e = c.in_ok-ask.ensures in
    let config = ap (λ (s : ConcreteState). s.config) is in
    let at : c.in-Some.time ≡ i.queries.clock = c.in-Some.ensures.some.1 ∙ ap (λ (s : ConcreteState). s.queries.clock) was in
    let time : i.queries.clock < 2 ^ 64 - 1 = subst (λ (n : ℕ). n < 2 ^ 64 - 1) (ap (λ (s : ConcreteState). s.queries.clock) was) c.in-Some.ensures.some.0 in
    let runs = sym (ap (λ (s : ConcreteState). s.snapshot.stopped) was) ∙ (sym c.is_stopped.ensures ∙ c.if-is_stopped.false) in
    let small : is_too_large_query i.config i.queries.clock c.args.id name payload params ≡ false = ap (λ (s : ConcreteState). is_too_large_query s.config s.queries.clock c.args.id name payload params) (sym is) ∙ (sym c.query_is_too_large.ensures ∙ c.if-query_is_too_large.false) in
    let some = sym c.has_no_time.ensures ∙ c.if-has_no_time.false in
    let may = subst (λ (t : ℕ). MayAppendLine kinds.Query t (written_query i.config t c.args.id) i.snapshot Kept) at (subst (λ (s : ConcreteState). MayAppendLine kinds.Query c.in-Some.time (written_query s.config c.in-Some.time c.args.id) s.snapshot Kept) is e.line.allowed) in
    let fired = e.fired ∙ (λ k. fired_query params.tags_pass (config k) c.args.now (query_at (at k) (config k).name c.args.id name payload params)) in
    let device = e.line.device ∙ ap (λ (s : ConcreteState). device_appended kinds.Query c.in-Some.time (written_query s.config c.in-Some.time c.args.id) s.snapshot c.args.self.now.device) is ∙ ap (λ (t : ℕ). device_appended kinds.Query t (written_query i.config t c.args.id) i.snapshot c.args.self.now.device) at in
    steps-query_opened c.sound_snapshots.ensures i c.args.now c.args.id name payload params _ c.args.self.now.device c.ask.new.self sound runs time (query-allowed i c.args.id name payload params runs small some time) may
    (λ k. Ok (fired k))
    (e.entered i is ∙ (λ k. view_of (with_snapshot (appended_with kinds.Query (at k) (written_query i.config (at k) c.args.id) i.snapshot Kept) (query_opened c.args.now (query_at (at k) (config k).name c.args.id name payload params) i)))) device

pub returns-in_err-ask-clause-step : goal.returns-in_err-ask-clause-step
returns-in_err-ask-clause-step g c = λ i sound is memory.
    let name = c.args.name.now in
    let payload = c.args.payload.now in
    let params = c.args.params.now in
    let was = ap (λ (a : AgentState). a.concrete) c.self.view_is ∙ is in
    let p = err_from_is_err_and c.from_residual.result c.from_residual.ensures.1 in
    let result = c.from_residual.result in
    let error = c.in_err-ask.field-0.0 in
    let ended : result ≡ Err (query_error_of error) = p.1 ∙ ap (λ (x : QueryError). Err x) p.2 in
    let old = c.args.self.now in
    let new = c.ask.new.self in
    by-error kinds.Query c.in-Some.time (written_query old.concrete.config c.in-Some.time c.args.id) old new error (λ (f : AppendLineError). result ≡ Err (query_error_of f) → Steps i (fire_query i c.args.now c.args.id name payload params) result old.device new) c.in_err-ask.ensures.line (λ _ at. absurd (memory at)) (λ e answers.
    let at : c.in-Some.time ≡ i.queries.clock = c.in-Some.ensures.some.1 ∙ ap (λ (s : ConcreteState). s.queries.clock) was in
    let time : i.queries.clock < 2 ^ 64 - 1 = subst (λ (n : ℕ). n < 2 ^ 64 - 1) (ap (λ (s : ConcreteState). s.queries.clock) was) c.in-Some.ensures.some.0 in
    let runs = sym (ap (λ (s : ConcreteState). s.snapshot.stopped) was) ∙ (sym c.is_stopped.ensures ∙ c.if-is_stopped.false) in
    let small : is_too_large_query i.config i.queries.clock c.args.id name payload params ≡ false = ap (λ (s : ConcreteState). is_too_large_query s.config s.queries.clock c.args.id name payload params) (sym is) ∙ (sym c.query_is_too_large.ensures ∙ c.if-query_is_too_large.false) in
    let some = sym c.has_no_time.ensures ∙ c.if-has_no_time.false in
    let durable = c.ask.new.self.concrete.snapshot.durable in
    let may = subst (λ (t : ℕ). MayAppendLine kinds.Query t (written_query i.config t c.args.id) i.snapshot (Failed durable)) at (subst (λ (s : ConcreteState). MayAppendLine kinds.Query c.in-Some.time (written_query s.config c.in-Some.time c.args.id) s.snapshot (Failed durable)) is e.allowed) in
    let state = failed-view i c.args.self.now.concrete c.ask.new.self.concrete kinds.Query c.in-Some.time durable is e.failed in
    let device = subst (λ (t : ℕ). FailsLine old.device new.device (bytes_with kinds.Query t (written_query i.config t c.args.id) i.snapshot)) at
    (subst (λ (s : ConcreteState). FailsLine old.device new.device (bytes_with kinds.Query c.in-Some.time (written_query s.config c.in-Some.time c.args.id) s.snapshot)) is e.device) in
    steps-query_fire_failed c.sound_snapshots.ensures i c.args.now c.args.id name payload params durable result old.device new sound (query-allowed i c.args.id name payload params runs small some time) may answers
    (state ∙ ap (λ (t : ℕ). view_of (with_snapshot (written kinds.Query t i.snapshot (Failed durable)) i)) at) device) ended
