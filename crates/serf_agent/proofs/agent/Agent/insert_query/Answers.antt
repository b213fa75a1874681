use Rattle.serf_agent.proofs.Names.{List, Option, [], ap, length, refl, subst, ℕ, ◌++◌, ◌∙◌, ◌∷◌, err_from_is_err_and, Kept, TimedEntry, slots_of, concrete_of, written_query, EndsWrite, HasWritten, appended_with, AgentState, ConcreteState}
use Rattle.serf_snapshot.specs.declared.kind.ClockKind.TheVariants as kinds
use Rattle.serf_agent.proofs.AppendLineLaws.{ends-append_line, notes-agent}
use Rattle.serf_agent.proofs.TrackLaws.{view-entered}
use Rattle.serf_agent.proofs.agent.Agent.insert_query.Goals as goal

pub returns-in_err-append_lines-clause-line : goal.returns-in_err-append_lines-clause-line
returns-in_err-append_lines-clause-line g c =
    let p = err_from_is_err_and c.from_residual-in_err-append_lines.result c.from_residual-in_err-append_lines.ensures.1 in
    let was = c.self.view_is in
    let what = c.args.id in
    let told = c.in_ok-line.ensures ∙ ap (λ (a : AgentState). written_query a.concrete.config c.args.time what) was in
    let z = c.append_lines.new.snapshot in
    rw (p.1, p.2) (ends-append_line kinds.Query c.args.time (written_query c.args.self.now.concrete.config c.args.time what) c.args.self.now _ c.self.inside.snapshot z c.in_err-append_lines.field-0.0 (ap (λ (a : AgentState). a.concrete.snapshot) was) (ap (λ (a : AgentState). a.device) was)
    (λ k. record {
      concrete = record { config = (was k).concrete.config; member_clock = (was k).concrete.member_clock; events = (was k).concrete.events; queries = (c.prepare.ensures.concrete ∙ ap (λ (a : AgentState). a.concrete.queries) was) k; snapshot = z.snapshot; fired_queries = (was k).concrete.fired_queries };
      device = z.device;
    }) (subst (λ (o : Option (List ℕ)). EndsWrite kinds.Query c.args.time o c.self.inside.snapshot z c.in_err-append_lines.field-0.0) told c.in_err-append_lines.ensures))

pub returns-clause-line : goal.returns-clause-line
returns-clause-line g c =
    let was = c.self.view_is in
    let what = c.args.id in
    let told = c.in_ok-line.ensures ∙ ap (λ (a : AgentState). written_query a.concrete.config c.args.time what) was in
    notes-agent kinds.Query c.args.time (written_query c.args.self.now.concrete.config c.args.time what) c.args.self.now _ c.self.inside.snapshot c.append_lines.new.snapshot (ap (λ (a : AgentState). a.concrete.snapshot) was) (ap (λ (a : AgentState). a.device) was) refl refl
    (subst (λ (o : Option (List ℕ)). HasWritten kinds.Query c.args.time o c.self.inside.snapshot c.append_lines.new.snapshot) told c.in_ok-append_lines.ensures)

pub returns-clause-entered : goal.returns-clause-entered
returns-clause-entered g c = λ i is.
    let was = ap (λ (a : AgentState). a.concrete) c.self.view_is ∙ is in
    let e = c.insert_new.ensures in
    let slots = c.prepare.new.self.window.slots in
    let queries = view-entered i.config.query_buffer i.life i.queries (concrete_of c.prepare.new.self) (concrete_of c.insert_new.new.self) c.args.time c.args.id
    (c.prepare.ensures.concrete ∙ ap (λ (s : ConcreteState). s.queries) was)
    (λ es same. e.slots es same ∙ ap (λ (x : TimedEntry ℕ). slots_of (length slots) (es ++ x ∷ [])) c.in_ok-entry.ensures.entry) e.clock e.minimum in
    let snapshot = c.in_ok-append_lines.ensures.snapshot ∙ (λ k. appended_with kinds.Query c.args.time ((c.in_ok-line.ensures ∙ ap (λ (s : ConcreteState). written_query s.config c.args.time c.args.id) was) k) (was k).snapshot Kept) in
    λ k. record { config = (was k).config; member_clock = (was k).member_clock; events = (was k).events; queries = queries k; snapshot = snapshot k; fired_queries = (was k).fired_queries }
