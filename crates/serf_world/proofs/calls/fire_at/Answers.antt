use Rattle.serf_world.proofs.Names.{[], refl, ◌∷◌, event_of, fire, fire_gives, fire_refusal, Fired}
use Rattle.serf_agent.specs.declared.outcome.FireError.TheVariants.{OutOfMemory}
use Rattle.serf_world.proofs.TurnLaws.{call-done, call-refused, shows}
use Rattle.serf_world.proofs.calls.fire_at.Goals as goal

pub returns-in-Err-clause-turn : goal.returns-in-Err-clause-turn
returns-in-Err-clause-turn c =
    call-refused (λ i. fire i (event_of c.args.name.now c.args.payload.now) c.args.coalesce) fire_gives fire_refusal c.in-Err.error OutOfMemory c.in_ok-fire_refusal-in-Err.field-0 (record { concrete = c.node.inside.agent.concrete; handed = c.node.inside.handed.items }) c.args.node.now c.fire-fired.result c.node.inside.agent.device c.fire-fired.new.self
    c.args.number c.args.sent.now.items c.refused.result (λ e. refl) c.node.view_is c.in-Err.is c.fire-fired.ensures.step c.in_ok-fire_refusal-in-Err.ensures c.refused.ensures

pub returns-clause-turn : goal.returns-clause-turn
returns-clause-turn c =
    call-done (λ i. fire i (event_of c.args.name.now c.args.payload.now) c.args.coalesce) fire_gives c.in-Ok.fired OutOfMemory (record { concrete = c.node.inside.agent.concrete; handed = c.node.inside.handed.items }) c.args.node.now c.fire-fired.result c.node.inside.agent.device c.fire-fired.new.self
    c.args.number c.args.sent.now.items c.line_with_event.new.sent.items c.node.inside.handed.items c.in_ok-line.line c.node.view_is c.in-Ok.is c.fire-fired.ensures.step
    (shows c.args.number c.args.sent.now.items c.line_with_event.new.sent.items c.node.inside.handed.items c.node.inside.handed.items (Fired c.in-Ok.fired.handed.time) (c.in-Ok.fired.packet ∷ []) (c.in-Ok.fired.handed ∷ []) c.in_ok-line.line c.in_ok-line.ensures.sent refl c.in_ok-line.ensures.line)
