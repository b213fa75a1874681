-- What an agent that keeps its events over a restart doesn't miss. If an event or a query arrives that is new to it and
-- within its window, the agent accepts it, in whatever life it arrives. So a restart refuses nothing that the window
-- would have accepted.
use Rattle.std.specs.Prelude.{◌≡◌, ◌⊎◌, ◌&&◌, ◌+◌, ◌<◌, ◌≤◌, ◌++◌, ◌∷◌, ℕ, max, Bool, true, false, if◌then◌else◌, List, [], map, Option, Some, Result, Ok, All, Contains, slice_get}
use Rattle.std.specs.List.{flat_map, fold}
use Rattle.serf_lamport.specs.Clock.{observed}
use Rattle.serf_wire.specs.declared.error.WireError.{WireError}
use Rattle.serf_wire.specs.declared.texts.EventBody.{EventBody}
use Rattle.serf_wire.specs.Decoded.{decoded}
use Rattle.serf_wire.specs.Message.{Message, push_pull, query, user_event}
use Rattle.serf_window.specs.Window.{TimedEntry}
use Rattle.serf_snapshot.specs.declared.kind.ClockKind.TheVariants as kinds
use Rattle.serf_snapshot.specs.EventLines.{min_in}
use Rattle.serf_agent.specs.declared.config.Config.{Config}
use Rattle.serf_agent.specs.Config.{max_text_bytes}
use Rattle.serf_agent.specs.Events.{texts_len}
use Rattle.serf_agent.specs.Kept.{IsFull, IsMet}
use Rattle.serf_agent.specs.KeptTexts.{kept_queries, whatever}
use Rattle.serf_agent.specs.States.{events_of}
use Rattle.serf_model.specs.declared.action.Act.{Act}
use Rattle.serf_model.specs.declared.action.Act.TheVariants as acts
use Rattle.serf_model.specs.declared.action.Action.{Action}
use Rattle.serf_model.specs.declared.action.Action.TheVariants as actions
use Rattle.serf_model.specs.declared.line.Answer.{Answer}
use Rattle.serf_model.specs.declared.line.Answer.TheVariants as answers
use Rattle.serf_model.specs.declared.line.Refusal.TheVariants as refusals
use Rattle.serf_model.specs.HandOuts.{events_given}
use Rattle.serf_model.specs.Tails.{tails_to}
use Rattle.serf_model.specs.Trace.{Turn, AtEach, actor_of, entered_by, event_in, events_to, queries_at, query_given, turns_by}

-- Clocks, as turns show them

-- an agent's event clock after a message, if this was the clock before: the message is a delivered event, or a state
-- that is merged
abbrev pub clock_told : ℕ → Act → Result Message WireError → ℕ
clock_told clock (acts.Deliver number now) (Ok (user_event e)) = observed clock e.time
clock_told clock (acts.Merge number join) (Ok (push_pull m)) = fold (λ c e. observed c e.time) (max clock m.event_clock) (events_of m.slots)
clock_told clock _ _ = clock

abbrev pub clock_given : ℕ → Action → Option (List ℕ) → ℕ
clock_given clock (actions.Of agent act) (Some packet) = clock_told clock act (decoded packet)
clock_given clock _ _ = clock

-- the event clock after an action with this answer: a restart answers the clock itself
abbrev pub clock_shown : ℕ → Action → Option (List ℕ) → Answer → ℕ
clock_shown clock action given (answers.Restarted member_clock event_clock query_clock) = event_clock
clock_shown clock action given (answers.Fired t) = observed clock t
clock_shown clock action given _ = clock_given clock action given

abbrev pub clock_then : ℕ → Turn → ℕ
clock_then clock turn = clock_shown clock turn.action turn.given turn.line.answer

-- The event clock of an agent after these turns: what its last restart answered, raised above each time that it has
-- fired or received since then. It begins with 1. (If the agent's sink has failed, its clock may be lower. The agent
-- accepts nothing until its next restart.)
abbrev pub event_clock_of : ℕ → List Turn → ℕ
event_clock_of a turns = fold clock_then 1 (turns_by a turns)

-- an agent's query clock after a message, if this was the clock before: the message is a delivered query, or a state
-- that is merged
abbrev pub query_clock_told : ℕ → Act → Result Message WireError → ℕ
query_clock_told clock (acts.Deliver number now) (Ok (query q)) = observed clock q.time
query_clock_told clock (acts.Merge number join) (Ok (push_pull m)) = max clock m.query_clock
query_clock_told clock _ _ = clock

abbrev pub query_clock_given : ℕ → Action → Option (List ℕ) → ℕ
query_clock_given clock (actions.Of agent act) (Some packet) = query_clock_told clock act (decoded packet)
query_clock_given clock _ _ = clock

abbrev pub query_clock_shown : ℕ → Action → Option (List ℕ) → Answer → ℕ
query_clock_shown clock action given (answers.Restarted member_clock event_clock query_clock) = query_clock
query_clock_shown clock action given (answers.Queried t) = observed clock t
query_clock_shown clock action given _ = query_clock_given clock action given

abbrev pub query_clock_then : ℕ → Turn → ℕ
query_clock_then clock turn = query_clock_shown clock turn.action turn.given turn.line.answer

abbrev pub query_clock_of : ℕ → List Turn → ℕ
query_clock_of a turns = fold query_clock_then 1 (turns_by a turns)

-- Minimums, as turns show them

-- the event clock in a state
abbrev pub state_clock : Result Message WireError → ℕ
state_clock (Ok (push_pull m)) = m.event_clock
state_clock _ = 0

-- the minimum for events that an action sets: a restart sets one by the lines of its tail, and a join that ignores old
-- events by the clock in the state
abbrev pub min_written_by : Config → Action → Option (List ℕ) → ℕ
min_written_by c (actions.Of agent (acts.Restart tail)) given = min_in kinds.Event tail
min_written_by c (actions.Of agent (acts.Merge number join)) (Some packet) = if join && c.ignore_old then state_clock (decoded packet) else 0
min_written_by c _ _ = 0

-- the minimum for queries that the tail of a restart sets
abbrev pub min_by_tail : Action → ℕ
min_by_tail (actions.Of agent (acts.Restart tail)) = min_in kinds.Query tail
min_by_tail _ = 0

-- an agent whose sink has failed merges nothing
abbrev pub is_stopped : Answer → Bool
is_stopped (answers.Refused refusals.Stopped) = true
is_stopped _ = false

abbrev pub min_written : Config → Turn → ℕ
min_written c turn = if is_stopped turn.line.answer then 0 else min_written_by c turn.action turn.given

-- the minimum for queries that a turn sets: only the tail of a restart sets one, because no join does
abbrev pub query_min_written : Turn → ℕ
query_min_written turn = min_by_tail turn.action

-- Queries in tails

abbrev pub queries_tailed_by : Action → List (TimedEntry ℕ)
queries_tailed_by (actions.Of agent (acts.Restart tail)) = kept_queries whatever tail
queries_tailed_by _ = []

-- the queries whose lines are in the tails of an agent's restarts
abbrev pub query_tails_to : ℕ → List Turn → List (TimedEntry ℕ)
query_tails_to a turns = flat_map (λ t. queries_tailed_by t.action) (turns_by a turns)

-- What differs between events and queries, so that the promise can be stated once for both

pub record Showing (K : Type 0) : Type 1 where
  -- the clock of an agent after these turns, and the minimum that a turn sets
  pub clock_of : ℕ → List Turn → ℕ
  pub lowest : Config → Turn → ℕ
  -- the number of slots of its window, and which keys aren't too long for it
  pub slots : Config → ℕ
  pub Short : K → Type 0
  -- what a packet carries, and whether this answer shows that the agent processed the packet
  pub given : Option (List ℕ) → List (TimedEntry K)
  pub hears : Answer → Bool
  -- what is new to its agent in a turn; all entries that were new to an agent in some turn; and what is in its tails
  pub taken : Turn → List (TimedEntry K)
  pub entered : ℕ → List Turn → List (TimedEntry K)
  pub tailed : List Config → ℕ → List Turn → List (TimedEntry K)

-- the answer shows that the agent processed the packet: its event is new or is ignored, or its state was merged
abbrev pub hears_of : Answer → Bool
hears_of answers.New = true
hears_of (answers.Ignored reason) = true
hears_of answers.Merged = true
hears_of _ = false

abbrev pub events_shown : Showing EventBody
events_shown = record {
  clock_of = event_clock_of;
  lowest = min_written;
  slots = λ c. c.event_buffer;
  Short = λ what. texts_len what ≤ max_text_bytes;
  given = events_given;
  hears = hears_of;
  taken = λ turn. map event_in turn.line.events;
  entered = events_to;
  tailed = tails_to;
}

-- the answer shows that the agent processed the packet: its query is new, or is ignored
abbrev pub hears_query : Answer → Bool
hears_query answers.Query = true
hears_query (answers.Ignored reason) = true
hears_query _ = false

-- a query also enters if its filters exclude the node, but it isn't handed out then
abbrev pub queries_shown : Showing ℕ
queries_shown = record {
  clock_of = query_clock_of;
  lowest = λ c turn. query_min_written turn;
  slots = λ c. c.query_buffer;
  Short = λ id. Unit {0};
  given = query_given;
  hears = hears_query;
  taken = λ turn. entered_by turn.action turn.given turn.line.answer;
  entered = queries_at;
  tailed = λ configs a turns. query_tails_to a turns;
}

-- The promise

-- The agent, which has these settings, has to accept this entry of the packet that the turn passes to it.
pub record IsToCome {K : Type 0} (shown : Showing K) (configs : List Config) (a : ℕ) (c : Config) (before : List Turn) (turn : Turn) (e : TimedEntry K) : Type 0 where
  -- an agent may have fired it: its time is above 0, as each valid time is, and it isn't too long
  pub some : 0 < e.time
  pub short : shown.Short e.key
  -- it is within the window after the clock has observed everything in the packet that the turn passes to the agent
  pub young : shown.clock_of a (before ++ turn ∷ []) ≤ e.time + shown.slots c
  -- it isn't below a minimum that was set for the agent
  pub told : All (λ turn. shown.lowest c turn ≤ e.time) (turns_by a (before ++ turn ∷ []))
  -- the agent never got it as new before, and it is in no tail on which the agent was opened
  pub new : IsMet (shown.entered a before) (shown.tailed configs a before) e → ⊥

-- If an agent whose settings keep events processes a packet, and its sink doesn't fail, each entry that the agent has
-- to accept is accepted in this turn, unless the entry's time is full: as many entries of this time as the settings
-- allow, or more of a later time, were new to the agent or were in its tails.
abbrev pub KeptOf : {K : Type 0} → Showing K → List Config → List Turn → Type 0
KeptOf {K} shown configs turns =
    AtEach (λ before turn. (a : ℕ) (c : Config) (e : TimedEntry K) → slice_get configs a ≡ Some c → c.keep_events ≡ true → actor_of turn.action ≡ Some a → shown.hears turn.line.answer ≡ true
    → Contains (shown.given turn.given) e → IsToCome shown configs a c before turn e
    → Contains (shown.taken turn) e ⊎ IsFull c.per_time e.time (shown.entered a (before ++ turn ∷ [])) (shown.tailed configs a before)) turns

abbrev pub Kept : List Config → List Turn → Type 0
Kept = KeptOf events_shown

abbrev pub QueriesKept : List Config → List Turn → Type 0
QueriesKept = KeptOf queries_shown
