use Rattle.serf_world.proofs.Names.{List, Option, Result, [], ap, refl, subst, ℕ, ◌∙◌, ◌≡◌, Call, DeliveredQuery, IdealAgent, fire_query, Steps, FiredQuery, QueryError, QueryParams, query_gives, query_refusal, Queried, Shows}
use Rattle.serf_agent.specs.declared.outcome.QueryError.TheVariants.{OutOfMemory}
use Rattle.serf_world.proofs.TurnLaws.{call-done, call-refused}
use Rattle.serf_world.proofs.calls.query_at.Goals as goal

-- firing a query with equal texts is firing the same query
same-query : (i : IdealAgent) (now id : ℕ) (name payload n p : List ℕ) (params : QueryParams) → n ≡ name → p ≡ payload → fire_query i now id n p params ≡ fire_query i now id name payload params
same-query i now id name payload n p params first second = ap (λ (x : List ℕ). fire_query i now id x p params) first ∙ ap (λ (x : List ℕ). fire_query i now id name x params) second

pub returns-in-Err-clause-turn : goal.returns-in-Err-clause-turn
returns-in-Err-clause-turn c =
    call-refused (λ i. fire_query i c.args.query.now.moment c.args.query.now.id c.args.query.now.name c.args.query.now.payload c.args.query.now.params) query_gives query_refusal c.in-Err.error OutOfMemory c.in_ok-query_refusal-in-Err.field-0 (record { concrete = c.node.inside.agent.concrete; handed = c.node.inside.handed.items }) c.args.node.now c.query-fired.result c.node.inside.agent.device c.query-fired.new.self
    c.args.number c.args.sent.now.items c.refused.result (λ e. refl) c.node.view_is c.in-Err.is (λ i sound is differs. subst (λ (k : Call (Result FiredQuery QueryError)). Steps i k c.query-fired.result c.node.inside.agent.device c.query-fired.new.self)
    (same-query i c.args.query.now.moment c.args.query.now.id c.args.query.now.name c.args.query.now.payload c.as_slice.result.now c.as_slice-2.result.now c.args.query.now.params c.as_slice.ensures c.as_slice-2.ensures) (c.query-fired.ensures.step i sound is differs)) c.in_ok-query_refusal-in-Err.ensures c.refused.ensures

pub returns-clause-turn : goal.returns-clause-turn
returns-clause-turn c =
    let before : List (List ℕ) = c.args.sent.now.items in
    let after : List (List ℕ) = c.line_with_query.new.sent.items in
    let new : List (Option DeliveredQuery) = c.line_with_query.new.handed.items in
    call-done (λ i. fire_query i c.args.query.now.moment c.args.query.now.id c.args.query.now.name c.args.query.now.payload c.args.query.now.params) query_gives c.in-Ok.fired OutOfMemory (record { concrete = c.node.inside.agent.concrete; handed = c.node.inside.handed.items }) c.args.node.now c.query-fired.result c.node.inside.agent.device c.query-fired.new.self
    c.args.number before after new c.in_ok-line.line c.node.view_is c.in-Ok.is (λ i sound is differs. subst (λ (k : Call (Result FiredQuery QueryError)). Steps i k c.query-fired.result c.node.inside.agent.device c.query-fired.new.self)
    (same-query i c.args.query.now.moment c.args.query.now.id c.args.query.now.name c.args.query.now.payload c.as_slice.result.now c.as_slice-2.result.now c.args.query.now.params c.as_slice.ensures c.as_slice-2.ensures) (c.query-fired.ensures.step i sound is differs))
    (subst (λ (p : List (List ℕ)). Shows c.args.number before after c.node.inside.handed.items new (record { answer = Queried c.in-Ok.fired.time; packets = p; events = []; handed = c.in-Ok.fired.handed }) c.in_ok-line.line) c.in_ok-packets.ensures c.in_ok-line.ensures.shows)
