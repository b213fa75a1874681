use Rattle.serf_agent.proofs.Names.{List, Option, [], ap, length, refl, subst, ℕ, ◌++◌, ◌∙◌, ◌∷◌, err_from_is_err_and, EventBody, Kept, event_of, TimedEntry, slots_of, written_event, concrete_of, EndsWrite, HasWritten, appended_with, AgentState, ConcreteState}
use Rattle.serf_snapshot.specs.declared.kind.ClockKind.TheVariants as kinds
use Rattle.serf_agent.proofs.AppendLineLaws.{ends-append_line, notes-agent}
use Rattle.serf_agent.proofs.TrackLaws.{view-entered}
use Rattle.serf_agent.proofs.agent.Agent.insert_event.Goals as goal

pub returns-in_err-append_lines-clause-line : goal.returns-in_err-append_lines-clause-line
returns-in_err-append_lines-clause-line g c =
    let p = err_from_is_err_and c.from_residual-in_err-append_lines.result c.from_residual-in_err-append_lines.ensures.1 in
    let was = c.self.view_is in
    let what = event_of c.args.event.now.name.now c.args.event.now.payload.now in
    let told = c.in_ok-line.ensures ∙ ap (λ (a : AgentState). written_event a.concrete.config c.args.event.now.time what) was in
    let z = c.append_lines.new.snapshot in
    rw (p.1, p.2) (ends-append_line kinds.Event c.args.event.now.time (written_event c.args.self.now.concrete.config c.args.event.now.time what) c.args.self.now _ c.self.inside.snapshot z c.in_err-append_lines.field-0.0 (ap (λ (a : AgentState). a.concrete.snapshot) was) (ap (λ (a : AgentState). a.device) was)
    (λ k. record {
      concrete = record { config = (was k).concrete.config; member_clock = (was k).concrete.member_clock; events = (c.prepare.ensures.concrete ∙ ap (λ (a : AgentState). a.concrete.events) was) k; queries = (was k).concrete.queries; snapshot = z.snapshot; fired_queries = (was k).concrete.fired_queries };
      device = z.device;
    }) (subst (λ (o : Option (List ℕ)). EndsWrite kinds.Event c.args.event.now.time o c.self.inside.snapshot z c.in_err-append_lines.field-0.0) told c.in_err-append_lines.ensures))

pub returns-clause-line : goal.returns-clause-line
returns-clause-line g c =
    let was = c.self.view_is in
    let what = event_of c.args.event.now.name.now c.args.event.now.payload.now in
    let told = c.in_ok-line.ensures ∙ ap (λ (a : AgentState). written_event a.concrete.config c.args.event.now.time what) was in
    notes-agent kinds.Event c.args.event.now.time (written_event c.args.self.now.concrete.config c.args.event.now.time what) c.args.self.now _ c.self.inside.snapshot c.append_lines.new.snapshot (ap (λ (a : AgentState). a.concrete.snapshot) was) (ap (λ (a : AgentState). a.device) was) refl refl
    (subst (λ (o : Option (List ℕ)). HasWritten kinds.Event c.args.event.now.time o c.self.inside.snapshot c.append_lines.new.snapshot) told c.in_ok-append_lines.ensures)

pub returns-clause-entered : goal.returns-clause-entered
returns-clause-entered g c = λ i is.
    let was = ap (λ (a : AgentState). a.concrete) c.self.view_is ∙ is in
    let e = c.insert_new.ensures in
    let what = event_of c.args.event.now.name.now c.args.event.now.payload.now in
    let slots = c.prepare.new.self.window.slots in
    let events = view-entered i.config.event_buffer i.life i.events (concrete_of c.prepare.new.self) (concrete_of c.insert_new.new.self) c.args.event.now.time what
    (c.prepare.ensures.concrete ∙ ap (λ (s : ConcreteState). s.events) was)
    (λ es same. e.slots es same ∙ ap (λ (x : TimedEntry EventBody). slots_of (length slots) (es ++ x ∷ [])) c.in_ok-entry.ensures.entry) e.clock e.minimum in
    let snapshot = c.in_ok-append_lines.ensures.snapshot ∙ (λ k. appended_with kinds.Event c.args.event.now.time ((c.in_ok-line.ensures ∙ ap (λ (s : ConcreteState). written_event s.config c.args.event.now.time what) was) k) (was k).snapshot Kept) in
    λ k. record { config = (was k).config; member_clock = (was k).member_clock; events = events k; queries = (was k).queries; snapshot = snapshot k; fired_queries = (was k).fired_queries }
