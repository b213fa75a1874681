-- What is promised of every run, whatever was done in it. A promise is about the run's turns, which are read off its
-- actions and its trace. In a promise, `before` are all turns before the turn in question.
use Rattle.std.specs.Prelude.{◌≡◌, ◌≢◌, ◌⊎◌, ℕ, ◌<◌, List, [], ◌∷◌, ◌++◌, Some, Ok, All, AllPairs, Contains}
use Rattle.serf_wire.specs.declared.texts.EventBody.{EventBody}
use Rattle.serf_wire.specs.Decoded.{decoded}
use Rattle.serf_wire.specs.Message.{UserEvent, user_event}
use Rattle.serf_window.specs.Texts.{event_of}
use Rattle.serf_window.specs.Window.{TimedEntry}
use Rattle.serf_agent.specs.declared.config.Config.{Config}
use Rattle.serf_agent.specs.declared.outcome.Reason.TheVariants as reasons
use Rattle.serf_model.specs.declared.line.Answer.TheVariants as answers
use Rattle.serf_model.specs.Tails.{tail_events, tails_to}
use Rattle.serf_model.specs.Trace.{Turn, AtEach, actor_of, event_in, events_to, fired_in, injected_events, events_in_packet, injected_in, queried_in, queries_at, queries_to}

-- Events

-- Each agent is handed an event at most once in all its lives. An event is a time, a name and a payload.
abbrev pub Once : List Turn → Type 0
Once turns = (a : ℕ) → AllPairs (λ x y. x ≢ y) (events_to a turns)

-- some agent fired this event at its time, or an injected packet carries it
abbrev pub WasFired : List Turn → TimedEntry EventBody → Type 0
WasFired turns e = Contains (fired_in turns) e ⊎ Contains (injected_events turns) e

-- Each event that is handed out was fired at its time, in this turn or earlier, or an injected packet carries it.
abbrev pub OnlyFired : List Turn → Type 0
OnlyFired turns = AtEach (λ before turn. All (λ e. WasFired (before ++ turn ∷ []) (event_in e)) turn.line.events) turns

-- An event that an agent fires has a later time than all events that were handed to the agent before, in any life.
abbrev pub Later : List Turn → Type 0
Later turns =
    AtEach (λ before turn. (a t : ℕ) → actor_of turn.action ≡ Some a → turn.line.answer ≡ answers.Fired t → All (λ e. e.time < t) (events_to a before)) turns

-- Each event that a packet carries, also in the whole state of an agent, was fired at its time, or an injected packet
-- carries it.
abbrev pub CarriesOnlyFired : List Turn → Type 0
CarriesOnlyFired turns = AtEach (λ before turn. All (λ packet. All (WasFired (before ++ turn ∷ [])) (events_in_packet packet)) turn.packets) turns

-- An event is ignored as seen only if it was handed to this agent before, in some life.
abbrev pub SeenWasHanded : List Turn → Type 0
SeenWasHanded turns =
    AtEach (λ before turn. (a : ℕ) (packet : List ℕ) (e : UserEvent) → actor_of turn.action ≡ Some a → turn.line.answer ≡ answers.Ignored reasons.Seen
    → turn.given ≡ Some packet → decoded packet ≡ Ok (user_event e) → Contains (events_to a before) (record { time = e.time; key = event_of e.name e.payload })) turns

-- the promises about what packets carry, and about what is ignored as seen
abbrev pub Held : List Turn → Type 0
Held turns = CarriesOnlyFired turns × SeenWasHanded turns

-- Events, if agents keep them over a restart: it is possible that no agent fired an event that a restart restores from
-- its tail.

-- some agent fired this event at its time, or an injected packet carries it, or its line is in the tail of a restart of
-- an agent that keeps its events
abbrev pub WasFiredOrTailed : List Config → List Turn → TimedEntry EventBody → Type 0
WasFiredOrTailed configs turns e = WasFired turns e ⊎ Contains (tail_events configs turns) e

-- Each event that is handed out was fired at its time, or it is in an injected packet, or in the tail of a restart of
-- an agent that keeps its events.
abbrev pub OnlyFiredOrTailed : List Config → List Turn → Type 0
OnlyFiredOrTailed configs turns = AtEach (λ before turn. All (λ e. WasFiredOrTailed configs (before ++ turn ∷ []) (event_in e)) turn.line.events) turns

-- Each event that a packet carries has one of these origins, too.
abbrev pub CarriesOnlyFiredOrTailed : List Config → List Turn → Type 0
CarriesOnlyFiredOrTailed configs turns =
    AtEach (λ before turn. All (λ packet. All (WasFiredOrTailed configs (before ++ turn ∷ [])) (events_in_packet packet)) turn.packets) turns

-- An event is ignored as seen only if it was handed to this agent before, or was in a tail on which the agent was
-- opened.
abbrev pub SeenWasHandedOrTailed : List Config → List Turn → Type 0
SeenWasHandedOrTailed configs turns =
    AtEach (λ before turn. (a : ℕ) (packet : List ℕ) (e : UserEvent) → actor_of turn.action ≡ Some a → turn.line.answer ≡ answers.Ignored reasons.Seen
    → turn.given ≡ Some packet → decoded packet ≡ Ok (user_event e)
    → Contains (events_to a before) (record { time = e.time; key = event_of e.name e.payload })
    ⊎ Contains (tails_to configs a before) (record { time = e.time; key = event_of e.name e.payload })) turns

abbrev pub HeldOrTailed : List Config → List Turn → Type 0
HeldOrTailed configs turns = CarriesOnlyFiredOrTailed configs turns × SeenWasHandedOrTailed configs turns

-- Queries

-- At each agent, a query enters at most once in all its lives. A query is a time and an ID.
abbrev pub QueryOnce : List Turn → Type 0
QueryOnce turns = (a : ℕ) → AllPairs (λ x y. x ≢ y) (queries_at a turns)

-- Each agent is handed a query at most once in all its lives.
abbrev pub QueryHandedOnce : List Turn → Type 0
QueryHandedOnce turns = (a : ℕ) → AllPairs (λ x y. x ≢ y) (queries_to a turns)

-- A query that an agent fires has a later time than all queries that entered at the agent before, in any life.
abbrev pub QueryLater : List Turn → Type 0
QueryLater turns =
    AtEach (λ before turn. (a t : ℕ) → actor_of turn.action ≡ Some a → turn.line.answer ≡ answers.Queried t → All (λ q. q.time < t) (queries_at a before)) turns

-- A query that enters from a packet was fired: exactly these bytes were sent when an agent fired it, or they were
-- injected.
abbrev pub QueryFired : List Turn → Type 0
QueryFired turns =
    AtEach (λ before turn. (packet : List ℕ) → turn.line.answer ≡ answers.Query → turn.given ≡ Some packet → Contains (queried_in before) packet ⊎ Contains (injected_in before) packet) turns
