-- The lives of one agent over its own disk: its calls in any order, what its sink does with each line, and the restarts
-- in between; and what is promised about what it hands out. The agent is the ideal one, which the real agent follows by
-- the contract of each public call. Its history continues through its restarts.
use Rattle.std.specs.Prelude.{◌≡◌, ◌≢◌, ℕ, ◌<◌, ◌≤◌, Bool, true, false, List, [], ◌∷◌, ◌++◌, map, Option, Some, None, Result, Ok, Err, All, AllPairs}
use Rattle.serf_lamport.specs.Clock.{max_clock}
use Rattle.serf_wire.specs.declared.texts.EventBody.{EventBody}
use Rattle.serf_wire.specs.Message.{PushPull}
use Rattle.serf_window.specs.Texts.{event_of}
use Rattle.serf_window.specs.Window.{TimedEntry}
use Rattle.serf_snapshot.specs.declared.kind.ClockKind.TheVariants as kinds
use Rattle.serf_snapshot.specs.Clocks.{last_clock}
use Rattle.serf_snapshot.specs.Device.{Device}
use Rattle.serf_snapshot.specs.AppendsLine.{Writing, opened}
use Rattle.serf_agent.specs.declared.config.Config.{Config}
use Rattle.serf_agent.specs.declared.outcome.EventOut.{EventOut}
use Rattle.serf_agent.specs.declared.outcome.Fired.{Fired}
use Rattle.serf_agent.specs.declared.outcome.FiredQuery.{FiredQuery}
use Rattle.serf_agent.specs.declared.outcome.FireError.{FireError}
use Rattle.serf_agent.specs.declared.outcome.QueryError.{QueryError}
use Rattle.serf_agent.specs.declared.outcome.QueryParams.{QueryParams}
use Rattle.serf_agent.specs.declared.outcome.Outcome.{Outcome}
use Rattle.serf_agent.specs.declared.outcome.Outcome.TheVariants as outcomes
use Rattle.serf_agent.specs.declared.outcome.ReceiveError.{ReceiveError}
use Rattle.serf_agent.specs.Calls.{AsksSink, MayEnd, ended}
use Rattle.serf_agent.specs.Config.{is_sound}
use Rattle.serf_agent.specs.Events.{fire}
use Rattle.serf_agent.specs.DeliveredQuery.{DeliveredQuery}
use Rattle.serf_agent.specs.Ideal.{IdealAgent, with_config}
use Rattle.serf_agent.specs.KeptRestart.{HasKept}
use Rattle.serf_agent.specs.Queries.{close_due, fire_query}
use Rattle.serf_agent.specs.Receive.{receive}
use Rattle.serf_agent.specs.Restart.{restarted, unopened}
use Rattle.serf_agent.specs.States.{compact, handed_by, hear, receive_one, save}

-- One step of an agent's life, with what its sink does with the line or the new text. A push/pull is first merged for
-- its clocks, and then its events are received one by one. A packet arrives with the host's verdict on tag filters. A
-- life begins with an opening, with its own settings, on a text that a device keeps.
pub data Act : Type 0 where
  Fires : EventBody → Bool → Writing → Act
  Asks : ℕ → ℕ → List ℕ → List ℕ → QueryParams → Writing → Act
  Gets : Bool → ℕ → List ℕ → Writing → Act
  Hears : PushPull → Bool → Writing → Act
  Takes : TimedEntry EventBody → Writing → Act
  Saves : Writing → Act
  Compacts : Writing → Act
  Closes : ℕ → Act
  Opens : Config → List ℕ → Device → Act

-- the agent after the act
abbrev pub after : IdealAgent → Act → IdealAgent
after i (Fires what coalesce w) = (ended i (fire i what coalesce) w).agent
after i (Asks now id name payload params w) = (ended i (fire_query i now id name payload params) w).agent
after i (Gets tags now packet w) = (ended i (receive tags i now packet) w).agent
after i (Hears m is_join w) = (ended i (hear i m is_join) w).agent
after i (Takes e w) = (ended i (receive_one i e) w).agent
after i (Saves w) = (ended i (save i) w).agent
after i (Compacts w) = (ended i (compact i) w).agent
after i (Closes now) = (close_due i now).agent
after i (Opens config text d) = restarted text (opened text d) (with_config config i)

-- A text has what was flushed: for events and for queries, the last durable line, or a later one. Whatever follows the
-- flushed lines, even a torn line, doesn't change this.
pub record HasFlushed (i : IdealAgent) (text : List ℕ) : Type 0 where
  pub events : i.snapshot.event_clock ≤ last_clock kinds.Event text
  pub queries : i.snapshot.query_clock ≤ last_clock kinds.Query text

-- What may happen. The sink does what a sink may do. A push/pull carries clocks that a packet can contain; if a line is
-- written for it, the agent isn't stopped; and its events are received by an agent that isn't stopped, at valid times.
-- A new life opens on a text that has what was flushed, with any valid settings, whatever they were before. If these
-- keep events, the text has everything that was entered.
abbrev pub MayAct : IdealAgent → Act → Type 0
MayAct i (Fires what coalesce w) = MayEnd i (fire i what coalesce) w
MayAct i (Asks now id name payload params w) = MayEnd i (fire_query i now id name payload params) w
MayAct i (Gets tags now packet w) = MayEnd i (receive tags i now packet) w
MayAct i (Hears m is_join w) = MayEnd i (hear i m is_join) w × (m.member_clock ≤ max_clock) × (AsksSink (hear i m is_join) → i.snapshot.stopped ≡ false)
MayAct i (Takes e w) = (i.snapshot.stopped ≡ false) × (e.time < max_clock) × MayEnd i (receive_one i e) w
MayAct i (Saves w) = MayEnd i (save i) w
MayAct i (Compacts w) = MayEnd i (compact i) w
MayAct i (Closes now) = Unit {0}
MayAct i (Opens config text d) = HasFlushed i text × (is_sound config ≡ true) × (config.keep_events ≡ true → HasKept i text)

-- What is handed out

abbrev pub event_entry : EventOut → TimedEntry EventBody
event_entry out = record { time = out.time; key = event_of out.name out.payload }

abbrev pub fired_entries : Result Fired FireError → List (TimedEntry EventBody)
fired_entries (Ok f) = event_entry f.handed ∷ []
fired_entries (Err error) = []

abbrev pub query_entries : Option DeliveredQuery → List (TimedEntry ℕ)
query_entries (Some h) = record { time = h.time; key = h.id } ∷ []
query_entries None = []

abbrev pub fired_query_entries : Result FiredQuery QueryError → List (TimedEntry ℕ)
fired_query_entries (Ok f) = query_entries f.handed
fired_query_entries (Err error) = []

abbrev pub got_entries : Result Outcome ReceiveError → List (TimedEntry ℕ)
got_entries (Ok (outcomes.Query handed ack rebroadcast)) = query_entries handed
got_entries _ = []

-- the events that are handed out, each as its time, name and payload
abbrev pub events_out : IdealAgent → Act → List (TimedEntry EventBody)
events_out i (Fires what coalesce w) = fired_entries (ended i (fire i what coalesce) w).answer
events_out i (Gets tags now packet w) = map event_entry (handed_by (ended i (receive tags i now packet) w).answer)
events_out i (Takes e w) = map event_entry (handed_by (ended i (receive_one i e) w).answer)
events_out i _ = []

-- the queries that are handed out, each as its time and ID
abbrev pub queries_out : IdealAgent → Act → List (TimedEntry ℕ)
queries_out i (Asks now id name payload params w) = fired_query_entries (ended i (fire_query i now id name payload params) w).answer
queries_out i (Gets tags now packet w) = got_entries (ended i (receive tags i now packet) w).answer
queries_out i _ = []

-- Lives

-- an agent, and everything that it handed out in all its lives
pub record Lived : Type 0 where
  pub agent : IdealAgent
  pub events : List (TimedEntry EventBody)
  pub queries : List (TimedEntry ℕ)

abbrev pub acted : Lived → Act → Lived
acted s a = record { agent = after s.agent a; events = s.events ++ events_out s.agent a; queries = s.queries ++ queries_out s.agent a }

abbrev pub lived : Lived → List Act → Lived
lived s [] = s
lived s (a ∷ rest) = lived (acted s a) rest

abbrev pub MayLive : IdealAgent → List Act → Type 0
MayLive i [] = Unit {0}
MayLive i (a ∷ rest) = MayAct i a × MayLive (after i a) rest

-- the first life of an agent, with these settings, on any text: it has handed out nothing
abbrev pub first_life : Config → List ℕ → Device → Lived
first_life config text d = record { agent = restarted text (opened text d) (unopened config (opened text d)); events = []; queries = [] }

-- What is promised

-- among the events that are handed out in all lives, no two have the same time, name and payload
abbrev pub HandsOutOnce : Type 0
HandsOutOnce = (config : Config) (text : List ℕ) (d : Device) (acts : List Act) → is_sound config ≡ true → let s = first_life config text d in MayLive s.agent acts → AllPairs (λ x y. x ≢ y) (lived s acts).events

-- among the queries, no two have the same time and ID
abbrev pub HandsOutQueriesOnce : Type 0
HandsOutQueriesOnce = (config : Config) (text : List ℕ) (d : Device) (acts : List Act) → is_sound config ≡ true → let s = first_life config text d in MayLive s.agent acts → AllPairs (λ x y. x ≢ y) (lived s acts).queries

-- an event that is fired has a time above those of all events that were handed out before, in any life
abbrev pub FiresLater : Type 0
FiresLater =
    (config : Config) (text : List ℕ) (d : Device) (acts : List Act) (what : EventBody) (coalesce : Bool) (w : Writing) (f : Fired) → is_sound config ≡ true → let s = first_life config text d in MayLive s.agent acts
    → let before = lived s acts in (ended before.agent (fire before.agent what coalesce) w).answer ≡ Ok f → All (λ e. e.time < f.handed.time) before.events

-- a query that is fired has a time above those of all queries that were handed out before, in any life
abbrev pub AsksLater : Type 0
AsksLater =
    (config : Config) (text : List ℕ) (d : Device) (acts : List Act) (now id : ℕ) (name payload : List ℕ) (params : QueryParams) (w : Writing) (f : FiredQuery) → is_sound config ≡ true → let s = first_life config text d in MayLive s.agent acts
    → let before = lived s acts in (ended before.agent (fire_query before.agent now id name payload params) w).answer ≡ Ok f → All (λ e. e.time < f.time) before.queries

-- if the sink exposes its bytes, a text that begins with the durable ones has what was flushed
abbrev pub DurableHasFlushed : Type 0
DurableHasFlushed =
    (config : Config) (text : List ℕ) (d : Device) (acts : List Act) (durable tail : List ℕ) → is_sound config ≡ true → let s = first_life config text d in MayLive s.agent acts
    → (lived s acts).agent.snapshot.durable ≡ Some durable → HasFlushed (lived s acts).agent (durable ++ tail)
