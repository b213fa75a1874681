-- Which queries were fired. Like every promise, this is a statement about a run's turns.
use Rattle.std.specs.Prelude.{◌⊎◌, ℕ, List, [], ◌∷◌, ◌++◌, All, Contains}
use Rattle.std.specs.List.{flat_map}
use Rattle.serf_wire.specs.Decoded.{decoded}
use Rattle.serf_window.specs.Window.{TimedEntry}
use Rattle.serf_model.specs.declared.action.Action.{Action}
use Rattle.serf_model.specs.declared.line.Answer.{Answer}
use Rattle.serf_model.specs.declared.line.Answer.TheVariants as answers
use Rattle.serf_model.specs.Trace.{Turn, AtEach, entered_by, injected_in, queried_at, query_brought}

-- the query that an action fired, if this is its answer
abbrev pub queried_by : Action → Answer → List (TimedEntry ℕ)
queried_by action (answers.Queried t) = queried_at t action
queried_by action _ = []

-- the queries that were fired, by any agent
abbrev pub queries_fired : List Turn → List (TimedEntry ℕ)
queries_fired turns = flat_map (λ t. queried_by t.action t.line.answer) turns

-- the queries that injected packets carry: no agent has to have fired them
abbrev pub queries_injected : List Turn → List (TimedEntry ℕ)
queries_injected turns = flat_map (λ packet. query_brought (decoded packet)) (injected_in turns)

-- some agent fired a query with this ID at this time, or an injected packet carries it
abbrev pub WasQueried : List Turn → TimedEntry ℕ → Type 0
WasQueried turns q = Contains (queries_fired turns) q ⊎ Contains (queries_injected turns) q

-- Each query that enters, as a time and an ID, was fired in this turn or an earlier one, or an injected packet carries
-- it.
abbrev pub QueryOnlyFired : List Turn → Type 0
QueryOnlyFired turns = AtEach (λ before turn. All (WasQueried (before ++ turn ∷ [])) (entered_by turn.action turn.given turn.line.answer)) turns
