-- What is promised of acks and responses in every run, as statements about its turns. In a promise, `before` are all
-- turns before the turn in question. An answer to a query is an ack or a response. If a definition is about both, a
-- truth value says which is meant: true for acks.
use Rattle.std.specs.Prelude.{◌≡◌, ◌≢◌, ℕ, ◌≤◌, ◌==◌, Bool, true, false, not, if◌then◌else◌, List, [], ◌∷◌, map, filter, Some, Result, Ok, All, AllPairs, Contains, slice_get}
use Rattle.std.specs.List.{flat_map}
use Rattle.std.specs.Option.{option_to_list}
use Rattle.serf_wire.specs.declared.error.WireError.{WireError}
use Rattle.serf_wire.specs.Decoded.{decoded}
use Rattle.serf_wire.specs.Message.{Message, QueryResponse, query_response}
use Rattle.serf_window.specs.Window.{TimedEntry}
use Rattle.serf_agent.specs.declared.config.Config.{Config}
use Rattle.serf_agent.specs.declared.lists.Response.{Response}
use Rattle.serf_agent.specs.declared.open_query.OpenQuery.{OpenQuery}
use Rattle.serf_agent.specs.Queries.{deadline_of, is_ack}
use Rattle.serf_model.specs.declared.action.Act.TheVariants as acts
use Rattle.serf_model.specs.declared.action.Action.{Action}
use Rattle.serf_model.specs.declared.action.Action.TheVariants as actions
use Rattle.serf_model.specs.declared.line.Answer.{Answer}
use Rattle.serf_model.specs.declared.line.Answer.TheVariants as answers
use Rattle.serf_model.specs.declared.line.QueryLine.{QueryLine}
use Rattle.serf_model.specs.Cluster.{IdealNode, Run}
use Rattle.serf_model.specs.Bounds.{present_life}
use Rattle.serf_model.specs.HandOuts.{message_given}
use Rattle.serf_model.specs.Trace.{Turn, AtEach, actor_of, handed_in, sent_in, turns_by}

-- Lives

-- what an agent did in its present life: its own turns in that life
abbrev pub life_of : ℕ → List Turn → List Turn
life_of a turns = turns_by a (present_life a turns)

-- Queries that an agent fired

-- a query's time and ID, the last moment at which an answer to it counts, and whether it requests acks
pub record OwnQuery : Type 0 where
  pub time : ℕ
  pub id : ℕ
  pub deadline : ℕ
  pub wants_ack : Bool

abbrev pub own_query_at : ℕ → Action → List OwnQuery
own_query_at t (actions.Of agent (acts.Query q)) = record { time = t; id = q.id; deadline = deadline_of q.moment q.params.timeout; wants_ack = q.params.want_ack } ∷ []
own_query_at t _ = []

abbrev pub own_query : Action → Answer → List OwnQuery
own_query action (answers.Queried t) = own_query_at t action
own_query action _ = []

-- the queries that were fired in these turns
abbrev pub own_queries : List Turn → List OwnQuery
own_queries turns = flat_map (λ t. own_query t.action t.line.answer) turns

-- Acks and responses

-- the answer to a query, if this message is one
abbrev pub answer_brought : Result Message WireError → List QueryResponse
answer_brought (Ok (query_response r)) = r ∷ []
answer_brought _ = []

-- the answers in these packets
abbrev pub answers_in : List (List ℕ) → List QueryResponse
answers_in packets = flat_map (λ p. answer_brought (decoded p)) packets

-- whether an answer of this kind was counted
abbrev pub is_counted : Bool → Answer → Bool
is_counted ack answers.Ack = ack
is_counted ack answers.Response = not ack
is_counted ack _ = false

-- the answer of a kind that a turn counted, if it counted one: the one in its packet
abbrev pub counted_at : Bool → Turn → List QueryResponse
counted_at ack turn = if is_counted ack turn.line.answer then answers_in (option_to_list turn.given) else []

-- the answers of a kind that an agent counted in all its lives
abbrev pub counted_by : Bool → ℕ → List Turn → List QueryResponse
counted_by ack a turns = flat_map (counted_at ack) (turns_by a turns)

-- those of these answers that belong to the query of a time
abbrev pub to_time : ℕ → List QueryResponse → List QueryResponse
to_time t rs = filter (λ r. r.time == t) rs

-- What is counted

-- Among the acks that an agent counts in all its lives, no two have the same time and the same name. The same holds of
-- the responses.
abbrev pub CountedOnce : List Turn → Type 0
CountedOnce turns = (a : ℕ) (ack : Bool) → AllPairs (λ x y. x.time ≡ y.time → x.from ≢ y.from) (counted_by ack a turns)

-- In this life, a query with the answer's time and ID was fired. Its deadline isn't past at this moment, and if the
-- answer is an ack, the query requested acks.
pub record IsAwaited (life : List Turn) (now : ℕ) (r : QueryResponse) : Type 0 where
  pub query : OwnQuery
  pub fired : Contains (own_queries life) query
  pub time : r.time ≡ query.time
  pub id : r.id ≡ query.id
  pub in_time : now ≤ query.deadline
  pub asks : is_ack r ≡ true → query.wants_ack ≡ true

-- An agent counts an answer only if it belongs to a query that the agent fired in its present life, and only until the
-- deadline.
abbrev pub CountedInTime : List Turn → Type 0
CountedInTime turns =
    AtEach (λ before turn. (a packet now : ℕ) (ack : Bool) → turn.action ≡ actions.Of a (acts.Deliver packet now) → All (IsAwaited (life_of a before) now) (counted_at ack turn)) turns

-- An agent was given a packet that had been sent and that spells an answer of this kind.
pub record IsDelivered (before : List Turn) (turn : Turn) (ack : Bool) : Type 0 where
  pub agent : ℕ
  pub number : ℕ
  pub now : ℕ
  pub action : turn.action ≡ actions.Of agent (acts.Deliver number now)
  pub packet : List ℕ
  pub given : turn.given ≡ Some packet
  pub sent : Contains (sent_in before) packet
  pub answer : QueryResponse
  pub says : decoded packet ≡ Ok (query_response answer)
  pub kind : is_ack answer ≡ ack

-- Each answer that is counted is spelled by a packet that had been sent.
abbrev pub CountedSent : List Turn → Type 0
CountedSent turns = AtEach (λ before turn. (ack : Bool) → is_counted ack turn.line.answer ≡ true → IsDelivered before turn ack) turns

-- what an open query stores of a response
abbrev pub response_held : QueryResponse → Response
response_held r = record { from = r.from; payload = r.payload }

-- an open query with its time, in the form in which it was fired
abbrev pub as_fired : ℕ × OpenQuery → OwnQuery
as_fired q = record { time = q.0; id = q.1.id; deadline = q.1.deadline; wants_ack = q.1.wants_ack }

-- An open query of an agent was fired in the agent's present life. It holds the names of the acks that were counted for
-- its time, and the names and payloads of the responses, in the order in which they arrived, and nothing else.
pub record HoldsCounted (a : ℕ) (turns : List Turn) (q : ℕ × OpenQuery) : Type 0 where
  pub fired : Contains (own_queries (life_of a turns)) (as_fired q)
  pub acks : q.1.acks ≡ map (λ r. r.from) (to_time q.0 (counted_by true a turns))
  pub responses : q.1.responses ≡ map response_held (to_time q.0 (counted_by false a turns))

-- After a run, each open query of each agent holds exactly what the agent's turns counted.
abbrev pub OpenQueriesHold : Run → Type 0
OpenQueriesHold r = (a : ℕ) (m : IdealNode) → slice_get r.cluster.nodes a ≡ Some m → All (HoldsCounted a r.turns) m.agent.fired_queries

-- A packet that was sent spells an answer of this kind, with the time and the ID of an open query.
pub record IsSentTo (turns : List Turn) (q : ℕ × OpenQuery) (ack : Bool) (r : QueryResponse) : Type 0 where
  pub packet : List ℕ
  pub sent : Contains (sent_in turns) packet
  pub says : decoded packet ≡ Ok (query_response r)
  pub kind : is_ack r ≡ ack
  pub time : r.time ≡ q.0
  pub id : r.id ≡ q.1.id

-- Each name that an open query holds for an ack, and each name and payload that it holds for a response, is in an
-- answer of this kind that was sent with the query's time and ID.
pub record HoldsSent (turns : List Turn) (q : ℕ × OpenQuery) : Type 0 where
  pub acks : All (λ name. (r : QueryResponse) × IsSentTo turns q true r × (r.from ≡ name)) q.1.acks
  pub responses : All (λ held. (r : QueryResponse) × IsSentTo turns q false r × (response_held r ≡ held)) q.1.responses

-- After a run, everything that an open query of an agent holds is in answers that were sent.
abbrev pub OpenQueriesSent : Run → Type 0
OpenQueriesSent r = (a : ℕ) (m : IdealNode) → slice_get r.cluster.nodes a ≡ Some m → All (HoldsSent r.turns) m.agent.fired_queries

-- Where an answer comes from

-- the agent with this number has the name of the answer's sender
pub record IsFrom (configs : List Config) (a : ℕ) (r : QueryResponse) : Type 0 where
  pub config : Config
  pub settings : slice_get configs a ≡ Some config
  pub name : r.from ≡ config.name

-- the query to which an answer belongs: its time and its ID
abbrev pub query_answered : QueryResponse → TimedEntry ℕ
query_answered r = record { time = r.time; key = r.id }

-- The turn injected a packet that spells this answer.
pub record IsInjected (turn : Turn) (r : QueryResponse) : Type 0 where
  pub bytes : List ℕ
  pub action : turn.action ≡ actions.Inject bytes
  pub says : decoded bytes ≡ Ok (query_response r)

-- The turn handed the query to an agent with the sender's name, and the answer is its ack.
pub record IsAckOf (configs : List Config) (turn : Turn) (r : QueryResponse) : Type 0 where
  pub agent : ℕ
  pub actor : actor_of turn.action ≡ Some agent
  pub from : IsFrom configs agent r
  pub line : QueryLine
  pub hands : turn.line.handed ≡ Some line
  pub to : line.agent ≡ agent
  pub query : handed_in line ≡ query_answered r
  pub ack : is_ack r ≡ true
  pub empty : r.payload ≡ []

-- the last moment at which the query that a turn hands out can be answered: it follows from the action that fired the
-- query, or from the query's packet
abbrev pub reply_deadline : Turn → List ℕ
reply_deadline turn = by turn.action turn.line.answer
  where
    by : Action → Answer → List ℕ
    by (actions.Of agent (acts.Query q)) (answers.Queried t) = deadline_of q.moment q.params.timeout ∷ []
    by (actions.Of agent (acts.Deliver packet now)) answers.Query = map (λ q. deadline_of now q.timeout) (message_given turn.given)
    by _ _ = []

-- The query was handed in this life to an agent with the sender's name. The agent answered it before its deadline was
-- past, and this is its response.
pub record IsReplyTo (configs : List Config) (before : List Turn) (turn : Turn) (r : QueryResponse) : Type 0 where
  pub agent : ℕ
  pub number : ℕ
  pub now : ℕ
  pub action : turn.action ≡ actions.Of agent (acts.Respond number now r.payload)
  pub replied : turn.line.answer ≡ answers.Replied
  pub from : IsFrom configs agent r
  pub line : QueryLine
  pub handing : Turn
  pub there : Contains (life_of agent before) handing
  pub handed : handing.line.handed ≡ Some line
  pub to : line.agent ≡ agent
  pub deadline : ℕ
  pub until : reply_deadline handing ≡ deadline ∷ []
  pub in_time : now ≤ deadline
  pub index : line.index ≡ number
  pub query : handed_in line ≡ query_answered r
  pub ack : is_ack r ≡ false

-- the origin of an answer that a turn sends
pub data IsMade (configs : List Config) (before : List Turn) (turn : Turn) (r : QueryResponse) : Type 0 where
  injected : IsInjected turn r → IsMade configs before turn r
  acked : IsAckOf configs turn r → IsMade configs before turn r
  replied : IsReplyTo configs before turn r → IsMade configs before turn r

-- Each answer in a packet that is sent was injected, or is the ack of a query that the same turn hands out, or is the
-- response to a query that was handed out before. An answer that an agent sends has this agent's name.
abbrev pub AnswersMade : List Config → List Turn → Type 0
AnswersMade configs turns = AtEach (λ before turn. All (IsMade configs before turn) (answers_in turn.packets)) turns

-- the queries that an agent acked in all its lives
abbrev pub acked_by : ℕ → List Turn → List (TimedEntry ℕ)
acked_by a turns = map query_answered (filter is_ack (flat_map (λ t. answers_in t.packets) (turns_by a turns)))

-- An agent acks a query at most once in all its lives.
abbrev pub AckedOnce : List Turn → Type 0
AckedOnce turns = (a : ℕ) → AllPairs (λ x y. x ≢ y) (acked_by a turns)

-- the queries to which an agent sent responses in all its lives
abbrev pub replied_by : ℕ → List Turn → List (TimedEntry ℕ)
replied_by a turns = map query_answered (filter (λ r. not (is_ack r)) (flat_map (λ t. answers_in t.packets) (turns_by a turns)))

-- An agent responds to a query at most once in all its lives.
abbrev pub RepliedOnce : List Turn → Type 0
RepliedOnce turns = (a : ℕ) → AllPairs (λ x y. x ≢ y) (replied_by a turns)
