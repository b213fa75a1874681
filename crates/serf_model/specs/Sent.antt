-- What every agent sends: what it fires, its whole state, and what is new to it. Like every promise, this is a
-- statement about a run's turns.
use Rattle.std.specs.Prelude.{◌≡◌, ◌+◌, ◌≤◌, ℕ, Bool, true, false, List, [], ◌∷◌, Some, Ok, All, Contains, slice_get}
use Rattle.serf_wire.specs.Decoded.{decoded}
use Rattle.serf_wire.specs.Message.{PushPull, Query, QueryResponse, push_pull, query, query_response, user_event}
use Rattle.serf_agent.specs.declared.config.Config.{Config}
use Rattle.serf_agent.specs.Queries.{ack_flag, has_flag, is_ack, no_broadcast_flag, query_at}
use Rattle.serf_agent.specs.States.{events_of}
use Rattle.serf_model.specs.declared.action.Act.TheVariants as acts
use Rattle.serf_model.specs.declared.action.Action.TheVariants as actions
use Rattle.serf_model.specs.declared.line.Answer.TheVariants as answers
use Rattle.serf_model.specs.declared.line.QueryLine.{QueryLine}
use Rattle.serf_model.specs.declared.query.NewQuery.{NewQuery}
use Rattle.serf_model.specs.Bounds.{events_of_life}
use Rattle.serf_model.specs.HandOuts.{message_entered}
use Rattle.serf_model.specs.NotMissed.{event_clock_of, query_clock_of}
use Rattle.serf_model.specs.Trace.{Turn, AtEach, actor_of}

-- The state that an agent sends after these turns, if the agent has these settings.
pub record IsStateOf (a : ℕ) (c : Config) (before : List Turn) (m : PushPull) : Type 0 where
  -- its clocks are those that the turns show
  pub event_clock : m.event_clock ≡ event_clock_of a before
  pub query_clock : m.query_clock ≡ query_clock_of a before
  -- it has each event that was handed to the agent in its present life and is within the window
  pub carries : All (λ e. m.event_clock ≤ e.time + c.event_buffer → Contains (events_of m.slots) e) (events_of_life a before)

-- what a turn sends, if these turns were before it
pub record SendsAll (configs : List Config) (before : List Turn) (turn : Turn) : Type 0 where
  -- If an agent fires an event, its turn sends one packet. The packet spells exactly this event.
  pub fired : (a t : ℕ) (name payload : List ℕ) (coalesce : Bool) → turn.action ≡ actions.Of a (acts.Fire name payload coalesce) → turn.line.answer ≡ answers.Fired t
      → (packet : List ℕ) × (turn.packets ≡ packet ∷ []) × (decoded packet ≡ Ok (user_event (record { time = t; name = name; payload = payload; coalesce = coalesce })))
  -- If an agent fires a query, the first packet that its turn sends spells exactly this query.
  pub queried : (a t : ℕ) (c : Config) (q : NewQuery) → slice_get configs a ≡ Some c → turn.action ≡ actions.Of a (acts.Query q) → turn.line.answer ≡ answers.Queried t
      → (packet : List ℕ) × (rest : List (List ℕ)) × (turn.packets ≡ packet ∷ rest) × (decoded packet ≡ Ok (query (query_at t c.name q.id q.name q.payload q.params)))
  -- If an agent sends its state, its turn sends one packet, which spells this state.
  pub state : (a : ℕ) (c : Config) → slice_get configs a ≡ Some c → turn.action ≡ actions.Of a acts.State → turn.line.answer ≡ answers.State
      → (packet : List ℕ) × (m : PushPull) × (turn.packets ≡ packet ∷ []) × (decoded packet ≡ Ok (push_pull m)) × IsStateOf a c before m
  -- If the event of a packet is new, the same bytes are sent on, and nothing else.
  pub new : (packet : List ℕ) → turn.line.answer ≡ answers.New → turn.given ≡ Some packet → turn.packets ≡ packet ∷ []
  -- If the query of a packet is new, the same bytes are sent on first, unless the query forbids this.
  pub new_query : (packet : List ℕ) (q : Query) → turn.line.answer ≡ answers.Query → turn.given ≡ Some packet → decoded packet ≡ Ok (query q) → has_flag no_broadcast_flag q.flags ≡ false
      → (rest : List (List ℕ)) × (turn.packets ≡ packet ∷ rest)
  -- If a query is handed out and requests an ack, a packet spells the agent's ack.
  pub acked : (a : ℕ) (c : Config) (q : Query) (h : QueryLine) → slice_get configs a ≡ Some c → actor_of turn.action ≡ Some a → turn.line.handed ≡ Some h → message_entered configs turn ≡ q ∷ [] → has_flag ack_flag q.flags ≡ true
      → (packet : List ℕ) × Contains turn.packets packet × (decoded packet ≡ Ok (query_response (record { time = h.time; id = h.id; from = c.name; flags = ack_flag; payload = [] })))
  -- If an agent answers a query, its turn sends one packet, which spells a response with this payload.
  pub replied : (a number now : ℕ) (payload : List ℕ) (c : Config) → slice_get configs a ≡ Some c → turn.action ≡ actions.Of a (acts.Respond number now payload) → turn.line.answer ≡ answers.Replied
      → (packet : List ℕ) × (r : QueryResponse) × (turn.packets ≡ packet ∷ []) × (decoded packet ≡ Ok (query_response r)) × (r.from ≡ c.name) × (r.payload ≡ payload) × (is_ack r ≡ false)

-- each turn sends what it has to send
abbrev pub Sent : List Config → List Turn → Type 0
Sent configs turns = AtEach (SendsAll configs) turns
