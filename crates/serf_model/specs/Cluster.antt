-- A cluster of ideal agents and a network that loses, repeats and reorders (Serf's internals page, "Lamport Clocks").
use Rattle.std.specs.Prelude.{ℕ, ◌+◌, Bool, true, false, if◌then◌else◌, List, [], ◌∷◌, ◌++◌, length, map, Option, Some, None, unwrap_or, Result, Ok, Err, slice_get, slice_set}
use Rattle.std.specs.List.{fold}
use Rattle.std.specs.Option.{option_map, option_to_list}
use Rattle.serf_wire.specs.declared.error.WireError.{WireError}
use Rattle.serf_wire.specs.declared.texts.EventBody.{EventBody}
use Rattle.serf_wire.specs.Decoded.{decoded}
use Rattle.serf_wire.specs.Message.{Message, push_pull}
use Rattle.serf_window.specs.Texts.{event_of}
use Rattle.serf_window.specs.Window.{TimedEntry}
use Rattle.serf_snapshot.specs.Device.{FailurePlan, append_failing, flush_failing, replace_failing, fresh_device}
use Rattle.serf_snapshot.specs.AppendsLine.{with_sink, opened}
use Rattle.serf_snapshot.specs.declared.snapshot.AppendLineError.{AppendLineError}
use Rattle.serf_snapshot.specs.declared.snapshot.AppendLineError.TheVariants as notes
use Rattle.serf_agent.specs.declared.config.Config.{Config}
use Rattle.serf_agent.specs.declared.outcome.EventOut.{EventOut}
use Rattle.serf_agent.specs.declared.outcome.Fired.{Fired}
use Rattle.serf_agent.specs.declared.outcome.FireError.{FireError}
use Rattle.serf_agent.specs.declared.outcome.FireError.TheVariants as fires
use Rattle.serf_agent.specs.declared.outcome.FiredQuery.{FiredQuery}
use Rattle.serf_agent.specs.declared.outcome.QueryError.{QueryError}
use Rattle.serf_agent.specs.declared.outcome.QueryError.TheVariants as queries
use Rattle.serf_agent.specs.declared.outcome.Outcome.{Outcome}
use Rattle.serf_agent.specs.declared.outcome.Outcome.TheVariants as outcomes
use Rattle.serf_agent.specs.declared.outcome.ReceiveError.{ReceiveError}
use Rattle.serf_agent.specs.declared.outcome.ReceiveError.TheVariants as receives
use Rattle.serf_agent.specs.declared.outcome.MergeError.{MergeError}
use Rattle.serf_agent.specs.declared.outcome.MergeError.TheVariants as merges
use Rattle.serf_agent.specs.declared.outcome.PushPullError.{PushPullError}
use Rattle.serf_agent.specs.declared.outcome.PushPullError.TheVariants as states
use Rattle.serf_agent.specs.declared.outcome.RespondError.{RespondError}
use Rattle.serf_agent.specs.declared.outcome.RespondError.TheVariants as answering
use Rattle.serf_agent.specs.DeliveredQuery.{DeliveredQuery}
use Rattle.serf_agent.specs.Ideal.{IdealAgent, with_snapshot}
use Rattle.serf_agent.specs.Calls.{Step, planned}
use Rattle.serf_agent.specs.Events.{fire}
use Rattle.serf_agent.specs.Queries.{fire_query, close_due, respond_error, response_packet}
use Rattle.serf_agent.specs.Receive.{receive}
use Rattle.serf_agent.specs.Restart.{restarted, unopened}
use Rattle.serf_agent.specs.States.{send_state, hear, events_of, receive_one, handed_by, merge_refusal, save, compact}
use Rattle.serf_agent.specs.View.{view_of}
use Rattle.serf_model.specs.declared.action.Act.{Act}
use Rattle.serf_model.specs.declared.action.Act.TheVariants as acts
use Rattle.serf_model.specs.declared.action.Action.{Action}
use Rattle.serf_model.specs.declared.action.Action.TheVariants as actions
use Rattle.serf_model.specs.declared.query.NewQuery.{NewQuery}
use Rattle.serf_model.specs.declared.action.SinkCall.{SinkCall}
use Rattle.serf_model.specs.declared.action.SinkCall.TheVariants.{Append, Flush, ReplaceOld, ReplaceNew}
use Rattle.serf_model.specs.declared.line.Answer.{Answer}
use Rattle.serf_model.specs.declared.line.Answer.TheVariants as answers
use Rattle.serf_model.specs.declared.line.Refusal.{Refusal}
use Rattle.serf_model.specs.declared.line.Refusal.TheVariants.{NoAgent, NoMessage, NoQuery, Stopped, TooLarge, TooLong, Exhausted, ZeroTimeout, PastDeadline, NotPushPull, RespondersFull, SinkError, Wire}
use Rattle.serf_model.specs.declared.line.EventLine.{EventLine}
use Rattle.serf_model.specs.declared.line.QueryLine.{QueryLine}
use Rattle.serf_model.specs.declared.line.Line.{Line}
use Rattle.serf_model.specs.Trace.{Turn, Outcome as Shown, given_by}

-- An agent of a cluster. It forgets nothing, and has the queries that were handed to it in this life, in order; in the
-- place of a query that was answered there is None.
pub record IdealNode : Type 0 where
  pub agent : IdealAgent
  pub handed : List (Option DeliveredQuery)

-- the agents, and all packets that were sent, both numbered from 0
pub record Cluster : Type 0 where
  pub nodes : List IdealNode
  pub sent : List (List ℕ)

-- What an action of an agent results in: its answer, the packets that are sent, and what is handed out.
pub record Done : Type 0 where
  pub answer : Answer
  pub packets : List (List ℕ)
  pub events : List EventOut
  pub handed : Option DeliveredQuery

-- what an agent becomes, and the result of its action; a query that is handed out isn't among the agent's queries yet
pub record Applied : Type 0 where
  pub node : IdealNode
  pub done : Done

abbrev pub only : Answer → Done
only answer = record { answer = answer; packets = []; events = []; handed = None }

abbrev pub refused : Refusal → Done
refused refusal = only (answers.Refused refusal)

abbrev pub does_nothing : IdealNode → Done → Applied
does_nothing m done = record { node = m; done = done }

-- an agent after a call, with the result of the call
abbrev pub called : {R : Type 0} → IdealNode → Step R → (R → Done) → Applied
called m step gives = record { node = record { agent = step.agent; handed = m.handed }; done = gives step.answer }

-- Events. An ideal agent never runs out of memory: here and below, the rows for `OutOfMemory` only make the definitions
-- complete.

abbrev pub fire_refusal : FireError → Refusal
fire_refusal fires.Stopped = Stopped
fire_refusal fires.TooLarge = TooLarge
fire_refusal fires.Exhausted = Exhausted
fire_refusal fires.SinkError = SinkError
fire_refusal fires.OutOfMemory = SinkError

abbrev pub fire_gives : Result Fired FireError → Done
fire_gives (Ok f) = record { answer = answers.Fired f.handed.time; packets = f.packet ∷ []; events = f.handed ∷ []; handed = None }
fire_gives (Err error) = refused (fire_refusal error)

abbrev pub fires_event : IdealNode → EventBody → Bool → Applied
fires_event m what coalesce = called m (planned m.agent (fire m.agent what coalesce)) fire_gives

-- Deliveries

abbrev pub receive_refusal : ReceiveError → Refusal
receive_refusal receives.Stopped = Stopped
receive_refusal (receives.Wire error) = Wire error
receive_refusal receives.RespondersFull = RespondersFull
receive_refusal receives.SinkError = SinkError
receive_refusal receives.OutOfMemory = SinkError

-- a new event is sent on unchanged, and so is a new query if it requests this
abbrev pub receive_gives : List ℕ → Result Outcome ReceiveError → Done
receive_gives packet (Ok (outcomes.Event out)) = record { answer = answers.New; packets = packet ∷ []; events = out ∷ []; handed = None }
receive_gives packet (Ok (outcomes.Query handed ack rebroadcast)) =
    record { answer = answers.Query; packets = (if rebroadcast then packet ∷ [] else []) ++ option_to_list ack; events = []; handed = handed }
receive_gives packet (Ok outcomes.Ack) = only answers.Ack
receive_gives packet (Ok outcomes.Response) = only answers.Response
receive_gives packet (Ok (outcomes.Ignored reason)) = only (answers.Ignored reason)
receive_gives packet (Ok (outcomes.Foreign kind)) = only (answers.Foreign kind)
receive_gives packet (Ok outcomes.PushPull) = only answers.PushPull
receive_gives packet (Err error) = refused (receive_refusal error)

abbrev pub receives_packet : IdealNode → ℕ → List ℕ → Applied
receives_packet m now packet = called m (planned m.agent (receive false m.agent now packet)) (receive_gives packet)

abbrev pub delivers : IdealNode → ℕ → Option (List ℕ) → Applied
delivers m now None = does_nothing m (refused NoMessage)
delivers m now (Some packet) = receives_packet m now packet

-- Whole states

abbrev pub state_refusal : PushPullError → Refusal
state_refusal states.Stopped = Stopped
state_refusal states.TooLong = TooLong
state_refusal states.OutOfMemory = TooLong

abbrev pub state_gives : Result (List ℕ) PushPullError → Done
state_gives (Ok packet) = record { answer = answers.State; packets = packet ∷ []; events = []; handed = None }
state_gives (Err error) = refused (state_refusal error)

-- the state that an agent sends doesn't have the members' status, which isn't part of the model
abbrev pub sends_state : IdealNode → Applied
sends_state m = does_nothing m (state_gives (send_state (view_of m.agent) [] []))

-- an agent after it received events one after another, what it handed out, and whether its sink failed at one of them
pub record Merged : Type 0 where
  pub agent : IdealAgent
  pub events : List EventOut
  pub failed : Bool

-- the next event, and then the others, unless the sink failed
abbrev pub merges_on : Step (Result Outcome ReceiveError) → (IdealAgent → Merged) → Merged
merges_on step rest = by step.answer
  where
    by : Result Outcome ReceiveError → Merged
    by (Ok outcome) = let m = rest step.agent in record { agent = m.agent; events = handed_by (Ok outcome) ++ m.events; failed = m.failed }
    by (Err error) = record { agent = step.agent; events = []; failed = true }

abbrev pub merges_events : List (TimedEntry EventBody) → IdealAgent → Merged
merges_events [] i = record { agent = i; events = []; failed = false }
merges_events (e ∷ es) i = merges_on (planned i (receive_one i e)) (merges_events es)

abbrev pub merge_refusal_of : MergeError → Refusal
merge_refusal_of merges.Stopped = Stopped
merge_refusal_of (merges.Wire error) = Wire error
merge_refusal_of merges.NotPushPull = NotPushPull
merge_refusal_of merges.SinkError = SinkError
merge_refusal_of merges.OutOfMemory = SinkError

-- if the sink failed, the events before the failure were handed out
abbrev pub merge_gives : IdealNode → Merged → Applied
merge_gives m o = record {
  node = record { agent = o.agent; handed = m.handed };
  done = record { answer = if o.failed then answers.Refused SinkError else answers.Merged; packets = []; events = o.events; handed = None };
}

-- after an agent has merged the clocks of a state, it receives the state's events; if writing the line of the state
-- failed, it receives none
abbrev pub merges_heard : IdealNode → List (TimedEntry EventBody) → Step (Result (Unit {0}) MergeError) → Applied
merges_heard m events step = by step.answer
  where
    by : Result (Unit {0}) MergeError → Applied
    by (Ok done) = merge_gives m (merges_events events step.agent)
    by (Err error) = record { node = record { agent = step.agent; handed = m.handed }; done = refused (merge_refusal_of error) }

abbrev pub merges_as : Option MergeError → IdealNode → Bool → Result Message WireError → Applied
merges_as (Some error) m join r = does_nothing m (refused (merge_refusal_of error))
merges_as None m join (Ok (push_pull p)) = merges_heard m (events_of p.slots) (planned m.agent (hear m.agent p join))
merges_as None m join _ = does_nothing m (refused NotPushPull)

abbrev pub merges_packet : IdealNode → Bool → Result Message WireError → Applied
merges_packet m join r = merges_as (merge_refusal m.agent.snapshot r) m join r

abbrev pub merges_given : IdealNode → Bool → Option (List ℕ) → Applied
merges_given m join None = does_nothing m (refused NoMessage)
merges_given m join (Some packet) = merges_packet m join (decoded packet)

-- Queries

abbrev pub query_refusal : QueryError → Refusal
query_refusal queries.Stopped = Stopped
query_refusal queries.TooLarge = TooLarge
query_refusal queries.ZeroTimeout = ZeroTimeout
query_refusal queries.Exhausted = Exhausted
query_refusal queries.SinkError = SinkError
query_refusal queries.OutOfMemory = SinkError

-- the query is sent before its ack
abbrev pub query_gives : Result FiredQuery QueryError → Done
query_gives (Ok f) = record { answer = answers.Queried f.time; packets = f.packet ∷ option_to_list f.ack; events = []; handed = f.handed }
query_gives (Err error) = refused (query_refusal error)

abbrev pub fires_query : IdealNode → NewQuery → Applied
fires_query m q = called m (planned m.agent (fire_query m.agent q.moment q.id q.name q.payload q.params)) query_gives

abbrev pub respond_refusal : RespondError → Refusal
respond_refusal answering.PastDeadline = PastDeadline
respond_refusal answering.TooLarge = TooLarge
respond_refusal answering.OutOfMemory = TooLarge

abbrev pub responds_as : Option RespondError → IdealNode → ℕ → DeliveredQuery → List ℕ → Applied
responds_as (Some error) m h q payload = does_nothing m (refused (respond_refusal error))
responds_as None m h q payload = record {
  node = record { agent = m.agent; handed = slice_set m.handed h None };
  done = record { answer = answers.Replied; packets = response_packet q payload ∷ []; events = []; handed = None };
}

-- a query is answered at most once
abbrev pub responds : IdealNode → ℕ → Option (Option DeliveredQuery) → ℕ → List ℕ → Applied
responds m h (Some (Some q)) now payload = responds_as (respond_error q now payload) m h q payload
responds m h _ now payload = does_nothing m (refused NoQuery)

abbrev pub closes : IdealNode → ℕ → Applied
closes m now = called m (close_due m.agent now) (λ n. only (answers.Closed n))

-- Snapshots

abbrev pub append_line_refusal : AppendLineError → Refusal
append_line_refusal notes.Stopped = Stopped
append_line_refusal notes.SinkError = SinkError
append_line_refusal notes.OutOfMemory = SinkError

abbrev pub append_line_gives : Answer → Result (Unit {0}) AppendLineError → Done
append_line_gives answer (Ok done) = only answer
append_line_gives answer (Err error) = refused (append_line_refusal error)

abbrev pub saves : IdealNode → Applied
saves m = called m (planned m.agent (save m.agent)) (append_line_gives answers.Saved)

abbrev pub compacts : IdealNode → Applied
compacts m = called m (planned m.agent (compact m.agent)) (append_line_gives answers.Compacted)

-- the text that a restart finds: what the sink keeps, followed by a tail
abbrev pub text_after : IdealAgent → List ℕ → List ℕ
text_after i tail = unwrap_or i.snapshot.durable [] ++ tail

-- the agent in a new life, over a new sink that keeps this text
abbrev pub reopened : IdealAgent → List ℕ → IdealAgent
reopened i text = restarted text (opened text (fresh_device text)) i

abbrev pub restart_gives : IdealAgent → Done
restart_gives i = only (answers.Restarted i.member_clock i.events.clock i.queries.clock)

-- after a restart, the queries of the earlier life can't be answered any more
abbrev pub restarts : IdealNode → List ℕ → Applied
restarts m tail = let i = reopened m.agent (text_after m.agent tail) in record { node = record { agent = i; handed = [] }; done = restart_gives i }

abbrev pub plan_with : SinkCall → ℕ → FailurePlan → FailurePlan
plan_with Append n = append_failing n
plan_with Flush n = flush_failing n
plan_with ReplaceOld n = replace_failing n false
plan_with ReplaceNew n = replace_failing n true

abbrev pub with_plan : (FailurePlan → FailurePlan) → IdealAgent → IdealAgent
with_plan change i = with_snapshot (with_sink i.snapshot.durable change i.snapshot) i

abbrev pub breaks : IdealNode → SinkCall → ℕ → Applied
breaks m call n = record { node = record { agent = with_plan (plan_with call n) m.agent; handed = m.handed }; done = only answers.Broken }

-- One action

-- the result of an agent's act, if these packets were sent before
abbrev pub apply : IdealNode → List (List ℕ) → Act → Applied
apply m sent (acts.Fire name payload coalesce) = fires_event m (event_of name payload) coalesce
apply m sent (acts.Deliver packet now) = delivers m now (slice_get sent packet)
apply m sent acts.State = sends_state m
apply m sent (acts.Merge packet join) = merges_given m join (slice_get sent packet)
apply m sent (acts.Query q) = fires_query m q
apply m sent (acts.Respond h now payload) = responds m h (slice_get m.handed h) now payload
apply m sent (acts.Restart tail) = restarts m tail
apply m sent (acts.Break call n) = breaks m call n
apply m sent (acts.Close now) = closes m now
apply m sent acts.Save = saves m
apply m sent acts.Compact = compacts m

-- The cluster after an action, and the turn of this action.
pub record Stepped : Type 0 where
  pub cluster : Cluster
  pub turn : Turn

-- how a line shows what an agent hands out
abbrev pub event_line : ℕ → EventOut → EventLine
event_line a out = record { agent = a; time = out.time; name = out.name; payload = out.payload; coalesce = out.coalesce }

abbrev pub handed_line : ℕ → ℕ → DeliveredQuery → QueryLine
handed_line a index q = record { agent = a; index = index; time = q.time; id = q.id; name = q.name; payload = q.payload }

-- the agent with one more query that it can answer
abbrev pub with_handed : Option DeliveredQuery → IdealNode → IdealNode
with_handed handed m = record { agent = m.agent; handed = m.handed ++ map (λ q. Some q) (option_to_list handed) }

-- the numbers of these packets, if n packets were sent before
abbrev pub numbers_from : ℕ → List (List ℕ) → List ℕ
numbers_from n [] = []
numbers_from n (packet ∷ packets) = n ∷ numbers_from (n + 1) packets

abbrev pub line_of : Cluster → ℕ → Applied → Line
line_of c a o = record {
  answer = o.done.answer;
  sent = numbers_from (length c.sent) o.done.packets;
  events = map (event_line a) o.done.events;
  handed = option_map (handed_line a (length o.node.handed)) o.done.handed;
}

-- the cluster after an agent acted, and the turn
abbrev pub applied : Cluster → ℕ → Act → Applied → Stepped
applied c a act o = record {
  cluster = record { nodes = slice_set c.nodes a (with_handed o.done.handed o.node); sent = c.sent ++ o.done.packets };
  turn = record { action = actions.Of a act; line = line_of c a o; given = given_by c.sent act; packets = o.done.packets };
}

-- a line with an answer and nothing else
abbrev pub line_only : Answer → Line
line_only answer = record { answer = answer; sent = []; events = []; handed = None }

abbrev pub on_agent : Cluster → ℕ → Act → Option IdealNode → Stepped
on_agent c a act None = record { cluster = c; turn = record { action = actions.Of a act; line = line_only (answers.Refused NoAgent); given = given_by c.sent act; packets = [] } }
on_agent c a act (Some m) = applied c a act (apply m c.sent act)

-- bytes that no agent made are sent
abbrev pub injects : Cluster → List ℕ → Stepped
injects c bytes = record {
  cluster = record { nodes = c.nodes; sent = c.sent ++ bytes ∷ [] };
  turn = record {
    action = actions.Inject bytes;
    line = record { answer = answers.Injected; sent = length c.sent ∷ []; events = []; handed = None };
    given = None;
    packets = bytes ∷ [];
  };
}

abbrev pub step : Cluster → Action → Stepped
step c (actions.Inject bytes) = injects c bytes
step c (actions.Of a act) = on_agent c a act (slice_get c.nodes a)

-- A run

-- the cluster after some actions, and the turns of these actions
pub record Run : Type 0 where
  pub cluster : Cluster
  pub turns : List Turn

-- an agent that was opened for the first time, on an empty text
abbrev pub opened_first : Config → IdealAgent
opened_first config = reopened (unopened config (opened [] (fresh_device []))) []

abbrev pub first_node : Config → IdealNode
first_node config = record { agent = opened_first config; handed = [] }

abbrev pub start : List Config → Run
start configs = record { cluster = record { nodes = map first_node configs; sent = [] }; turns = [] }

abbrev pub after : Run → Action → Run
after r action = record { cluster = (step r.cluster action).cluster; turns = r.turns ++ (step r.cluster action).turn ∷ [] }

abbrev pub run_of : List Config → List Action → Run
run_of configs actions = fold after (start configs) actions

-- what a run shows: a line for each action, and all packets that were sent
abbrev pub trace_of : Run → Shown
trace_of r = record { lines = map (λ t. t.line) r.turns; sent = r.cluster.sent }
