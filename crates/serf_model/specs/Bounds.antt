-- How much each agent holds of what enters, whatever it is sent. Like every promise, these are statements about a run's
-- turns.
use Rattle.std.specs.Prelude.{◌≡◌, ◌≤◌, ◌+◌, ◌*◌, ℕ, ◌&&◌, Bool, true, false, if◌then◌else◌, List, [], ◌∷◌, ◌++◌, length, Some, All, slice_get}
use Rattle.std.specs.List.{fold}
use Rattle.serf_wire.specs.declared.texts.EventBody.{EventBody}
use Rattle.serf_window.specs.Window.{TimedEntry, count_at, held_count, slots_of}
use Rattle.serf_agent.specs.declared.config.Config.{Config}
use Rattle.serf_agent.specs.Config.{max_text_bytes}
use Rattle.serf_agent.specs.Ideal.{IdealAgent}
use Rattle.serf_agent.specs.Tracks.{of_life}
use Rattle.serf_model.specs.Cluster.{Run}
use Rattle.serf_model.specs.declared.line.Answer.{Answer}
use Rattle.serf_model.specs.declared.line.Answer.TheVariants as answers
use Rattle.serf_model.specs.Trace.{Turn, AtEach, actor_of, is_agent, events_to, queries_at}

-- Lives

-- whether this is the answer of an agent that was opened again
abbrev pub is_restarted : Answer → Bool
is_restarted (answers.Restarted member_clock event_clock query_clock) = true
is_restarted _ = false

-- whether a turn opens an agent again: this agent acts, and the answer says that it was opened
abbrev pub reopens : ℕ → Turn → Bool
reopens a turn = is_agent a (actor_of turn.action) && is_restarted turn.line.answer

-- an agent's life continues with each turn, until a turn opens the agent again: its next life has no turn yet
abbrev pub lived_on : ℕ → List Turn → Turn → List Turn
lived_on a life turn = if reopens a turn then [] else life ++ turn ∷ []

-- the turns of an agent's present life: those of all agents since it was last opened
abbrev pub present_life : ℕ → List Turn → List Turn
present_life a turns = fold (lived_on a) [] turns

-- the events that were handed to an agent in its present life, and the queries that entered at it
abbrev pub events_of_life : ℕ → List Turn → List (TimedEntry EventBody)
events_of_life a turns = events_to a (present_life a turns)

abbrev pub queries_of_life : ℕ → List Turn → List (TimedEntry ℕ)
queries_of_life a turns = queries_at a (present_life a turns)

-- Bounds

-- at most k of these have the same time
abbrev pub AtMostOfOneTime : {K : Type 0} → ℕ → List (TimedEntry K) → Type 0
AtMostOfOneTime k entered = (t : ℕ) → count_at entered t ≤ k

-- At most k of the entries have the same time, and a window of n slots holds at most n * k of them.
pub record IsBounded {K : Type 0} (n k : ℕ) (entered : List (TimedEntry K)) : Type 0 where
  pub of_one_time : AtMostOfOneTime k entered
  pub in_window : held_count (slots_of n entered) ≤ n * k

-- the entries are bounded, and each event is short: it has at most 9,216 bytes of texts
pub record AreEventsBounded (n k : ℕ) (entered : List (TimedEntry EventBody)) : Type 0 where
  pub bounded : IsBounded n k entered
  pub short : All (λ e. length e.key.name + length e.key.payload ≤ max_text_bytes) entered

-- After each turn, the settings of each agent bound the events of its present life by the number of slots of its event
-- window, and by the number of entries of one time that it accepts. Each event has at most 9,216 bytes of texts.
abbrev pub EventsBounded : List Config → List Turn → Type 0
EventsBounded configs turns =
    AtEach (λ before turn. (a : ℕ) (c : Config) → slice_get configs a ≡ Some c → AreEventsBounded c.event_buffer c.per_time (events_of_life a (before ++ turn ∷ []))) turns

-- After each turn, the queries of each agent's present life, each a time and an ID, are bounded in the same way, by the
-- slots of the query window.
abbrev pub QueriesBounded : List Config → List Turn → Type 0
QueriesBounded configs turns =
    AtEach (λ before turn. (a : ℕ) (c : Config) → slice_get configs a ≡ Some c → IsBounded c.query_buffer c.per_time (queries_of_life a (before ++ turn ∷ []))) turns

-- The windows of an agent are bounded, whatever filled them: what a restart restored from the text counts like what
-- entered since. In the agent's present life, at most as many events have the same time as its settings allow, its
-- window holds at most this number for each of its slots, and each event is short. The same holds of queries.
pub record AreWindowsBounded (i : IdealAgent) : Type 0 where
  pub events : AreEventsBounded i.config.event_buffer i.config.per_time (of_life i.life i.events.history)
  pub queries : IsBounded i.config.query_buffer i.config.per_time (of_life i.life i.queries.history)

-- after a run, the windows of each agent are bounded
abbrev pub WindowsBounded : Run → Type 0
WindowsBounded r = All (λ m. AreWindowsBounded m.agent) r.cluster.nodes
