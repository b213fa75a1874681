use Rattle.serf_world.proofs.Names.{Err, List, Ok, Option, Result, Some, [], ap, false, refl, subst, ℕ, ◌++◌, ◌∙◌, ◌∷◌, ◌≡◌, ◌≢◌, option_to_list, slice_get, Device, DeliveredQuery, IdealAgent, receive, IsSound, Steps, AgentState, view_of, Outcome, ReceiveError, IdealNode, delivers, receive_gives, receive_refusal, IsRepresentable, Line, NoMessage, Shows, TakesTurn, NodeState, node_of}
use Rattle.serf_agent.specs.declared.outcome.Outcome.TheVariants as outcomes
use Rattle.serf_agent.specs.declared.outcome.ReceiveError.TheVariants.{OutOfMemory}
use Rattle.serf_model.specs.declared.line.Answer.TheVariants as answers
use Rattle.serf_world.proofs.TurnLaws.{call-done, call-refused, refuses, shows, shows-only}
use Rattle.serf_world.proofs.delivery.deliver_at.Goals as goal

-- the packet with this number was received, and had this outcome
received : {slice sent after : List (List ℕ)} {bytes : List ℕ} {node given : NodeState} {result : Result Outcome ReceiveError} {field : Outcome} {device : Device} {new : AgentState} {handed : List (Option DeliveredQuery)} {line : Line} (number packet now : ℕ) (outcome : Outcome)
    → Some bytes ≡ slice_get slice packet → slice ≡ sent → node ≡ given → result ≡ Ok field → field ≡ outcome
    → ((i : IdealAgent) → IsSound i → node.concrete ≡ view_of i → result ≢ Err OutOfMemory → Steps i (receive false i now bytes) result device new) → Shows number sent after node.handed handed (receive_gives bytes (Ok outcome)) line
    → (m : IdealNode) → IsRepresentable m.agent → given ≡ node_of m → TakesTurn number sent after (delivers m now (slice_get sent packet)) (record { concrete = new.concrete; handed = handed }) line
received {slice} {sent} {after} {bytes} {node} {given} {result} {field} {device} {new} {handed} {line} number packet now outcome at same viewed ok came steps shown m representable is =
    subst (λ (o : Option (List ℕ)). TakesTurn number sent after (delivers m now o) (record { concrete = new.concrete; handed = handed }) line) (at ∙ ap (λ (s : List (List ℕ)). slice_get s packet) same)
    (call-done (λ i. receive false i now bytes) (receive_gives bytes) outcome OutOfMemory node given result device new number sent after handed line viewed (ok ∙ ap (λ (o : Outcome). Ok o) came) steps shown m representable is)

pub returns-in_default-clause-turn : goal.returns-in_default-clause-turn
returns-in_default-clause-turn c = λ m representable is.
    subst (λ (o : Option (List ℕ)). TakesTurn c.args.number c.args.sent.now.items c.args.sent.now.items (delivers m c.args.now o) c.args.node.now c.refused.result) (c.in_default.ensures ∙ ap (λ (s : List (List ℕ)). slice_get s c.args.packet) c.as_slice.ensures.value)
    (refuses m c.args.node.now NoMessage c.args.number c.args.sent.now.items c.refused.result is c.refused.ensures)

pub returns-in_ok-receive_refusal-in-Err-clause-turn : goal.returns-in_ok-receive_refusal-in-Err-clause-turn
returns-in_ok-receive_refusal-in-Err-clause-turn c = λ m representable is.
    subst (λ (o : Option (List ℕ)). TakesTurn c.args.number c.args.sent.now.items c.args.sent.now.items (delivers m c.args.now o) (record { concrete = c.receive-received.new.self.concrete; handed = c.node.inside.handed.items }) c.refused-in-Err.result)
    (c.in-Some.ensures ∙ ap (λ (s : List (List ℕ)). slice_get s c.args.packet) c.as_slice.ensures.value)
    (call-refused (λ i. receive false i c.args.now c.in-Some.bytes.now) (receive_gives c.in-Some.bytes.now) receive_refusal c.in-Err.error OutOfMemory c.in_ok-receive_refusal-in-Err.field-0 (record { concrete = c.node.inside.agent.concrete; handed = c.node.inside.handed.items }) c.args.node.now c.receive-received.result
    c.node.inside.agent.device c.receive-received.new.self c.args.number c.args.sent.now.items c.refused-in-Err.result (λ e. refl) c.node.view_is c.in-Err.is c.receive-received.ensures.step c.in_ok-receive_refusal-in-Err.ensures c.refused-in-Err.ensures m representable is)

pub returns-in_ok-line-in-Ok-Event-clause-turn : goal.returns-in_ok-line-in-Ok-Event-clause-turn
returns-in_ok-line-in-Ok-Event-clause-turn c =
    received c.args.number c.args.packet c.args.now (outcomes.Event c.in-Ok-Event.event) c.in-Some.ensures c.as_slice.ensures.value c.node.view_is c.in-Ok-Event.is c.in-Ok-Event.field-0-is c.receive-received.ensures.step
    (shows c.args.number c.args.sent.now.items c.line_with_event.new.sent.items c.node.inside.handed.items c.node.inside.handed.items answers.New (c.in-Some.bytes.now ∷ []) (c.in-Ok-Event.event ∷ []) c.in_ok-line-in-Ok-Event.line
    (c.in_ok-line-in-Ok-Event.ensures.sent ∙ ap (λ (b : List ℕ). c.args.sent.now.items ++ b ∷ []) c.in_ok-copy-in-Ok-Event.ensures) refl c.in_ok-line-in-Ok-Event.ensures.line)

pub returns-in_ok-line-in-Ok-Query-clause-turn : goal.returns-in_ok-line-in-Ok-Query-clause-turn
returns-in_ok-line-in-Ok-Query-clause-turn c =
    let made = c.in_ok-packets-in-Ok-Query.ensures ∙ ap (λ (p : List (List ℕ)). p ++ option_to_list c.in-Ok-Query.ack) c.in_ok-copy-in-Ok-Query.ensures in
    received c.args.number c.args.packet c.args.now (outcomes.Query c.in-Ok-Query.query c.in-Ok-Query.ack c.in-Ok-Query.rebroadcast) c.in-Some.ensures c.as_slice.ensures.value c.node.view_is c.in-Ok-Query.is c.in-Ok-Query.field-0-is c.receive-received.ensures.step
    (subst (λ (p : List (List ℕ)). Shows c.args.number c.args.sent.now.items c.line_with_query.new.sent.items c.node.inside.handed.items c.line_with_query.new.handed.items
    (record { answer = answers.Query; packets = p; events = []; handed = c.in-Ok-Query.query }) c.in_ok-line-in-Ok-Query.line) made c.in_ok-line-in-Ok-Query.ensures.shows)

pub returns-in-Ok-Ack-clause-turn : goal.returns-in-Ok-Ack-clause-turn
returns-in-Ok-Ack-clause-turn c = received c.args.number c.args.packet c.args.now outcomes.Ack c.in-Some.ensures c.as_slice.ensures.value c.node.view_is c.in-Ok-Ack.is c.in-Ok-Ack.field-0-is c.receive-received.ensures.step (shows-only c.args.number c.args.sent.now.items c.node.inside.handed.items c.node.inside.handed.items answers.Ack c.line_only.result refl c.line_only.ensures)

pub returns-in-Ok-Response-clause-turn : goal.returns-in-Ok-Response-clause-turn
returns-in-Ok-Response-clause-turn c = received c.args.number c.args.packet c.args.now outcomes.Response c.in-Some.ensures c.as_slice.ensures.value c.node.view_is c.in-Ok-Response.is c.in-Ok-Response.field-0-is c.receive-received.ensures.step (shows-only c.args.number c.args.sent.now.items c.node.inside.handed.items c.node.inside.handed.items answers.Response c.line_only-in-Ok-Response.result refl c.line_only-in-Ok-Response.ensures)

pub returns-in-Ok-Ignored-clause-turn : goal.returns-in-Ok-Ignored-clause-turn
returns-in-Ok-Ignored-clause-turn c = received c.args.number c.args.packet c.args.now (outcomes.Ignored c.in-Ok-Ignored.reason) c.in-Some.ensures c.as_slice.ensures.value c.node.view_is c.in-Ok-Ignored.is c.in-Ok-Ignored.field-0-is c.receive-received.ensures.step (shows-only c.args.number c.args.sent.now.items c.node.inside.handed.items c.node.inside.handed.items (answers.Ignored c.in-Ok-Ignored.reason) c.line_only-in-Ok-Ignored.result refl c.line_only-in-Ok-Ignored.ensures)

pub returns-in-Ok-Foreign-clause-turn : goal.returns-in-Ok-Foreign-clause-turn
returns-in-Ok-Foreign-clause-turn c = received c.args.number c.args.packet c.args.now (outcomes.Foreign c.in-Ok-Foreign.kind) c.in-Some.ensures c.as_slice.ensures.value c.node.view_is c.in-Ok-Foreign.is c.in-Ok-Foreign.field-0-is c.receive-received.ensures.step (shows-only c.args.number c.args.sent.now.items c.node.inside.handed.items c.node.inside.handed.items (answers.Foreign c.in-Ok-Foreign.kind) c.line_only-in-Ok-Foreign.result refl c.line_only-in-Ok-Foreign.ensures)

pub returns-in-Ok-PushPull-clause-turn : goal.returns-in-Ok-PushPull-clause-turn
returns-in-Ok-PushPull-clause-turn c = received c.args.number c.args.packet c.args.now outcomes.PushPull c.in-Some.ensures c.as_slice.ensures.value c.node.view_is c.in-Ok-PushPull.is c.in-Ok-PushPull.field-0-is c.receive-received.ensures.step (shows-only c.args.number c.args.sent.now.items c.node.inside.handed.items c.node.inside.handed.items answers.PushPull c.line_only-in-Ok-PushPull.result refl c.line_only-in-Ok-PushPull.ensures)
