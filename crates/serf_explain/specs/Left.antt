-- The action that set a number of an agent, and the reasons for an event or a query that the agent ignored.
use Rattle.std.specs.Prelude.{◌≡◌, ℕ, ◌+◌, ◌≤◌, List, Option, Some, None, length, map, slice_get, ◌^◌, ◌-◌, ◌++◌, ◌==◌, Bool, true, false, if◌then◌else◌, [], min, codes, decimal}
use Rattle.serf_agent.specs.Ideal.{IdealAgent}
use Rattle.serf_model.specs.Cluster.{Cluster, IdealNode}
use Rattle.serf_wire.specs.declared.texts.EventBody.{EventBody}
use Rattle.serf_agent.specs.declared.outcome.Reason.{Reason}
use Rattle.serf_agent.specs.declared.outcome.Reason.TheVariants.{BelowMinimum, TooOld, TimeFull, Oversize}
use Rattle.serf_agent.specs.Events.{texts_len}

-- A number is `now`, and `before` has its value before each earlier action. It has been the same since action number
-- `since`, counted from 1: that action set it, and no later action changed it. 0 is the start of the run.
pub record IsSince (before : List ℕ) (now since : ℕ) : Type 0 where
  pub inside : since ≤ length before
  pub stands : (k n : ℕ) → since ≤ k → slice_get before k ≡ Some n → n ≡ now
  pub brought : (k n : ℕ) → since ≡ k + 1 → slice_get before k ≡ Some n → n ≡ now → ⊥

-- a number of an agent, or 1 if there is no such agent
abbrev pub number_or_one : (IdealAgent → ℕ) → Option IdealNode → ℕ
number_or_one number None = 1
number_or_one number (Some m) = number m.agent

abbrev pub number_in : (IdealAgent → ℕ) → ℕ → Cluster → ℕ
number_in number a c = number_or_one number (slice_get c.nodes a)

-- a number of agent number `a` in each of these clusters
abbrev pub numbers_in : (IdealAgent → ℕ) → ℕ → List Cluster → List ℕ
numbers_in number a clusters = map (number_in number a) clusters

-- an agent's minimum for events, its minimum for queries, and both clocks
abbrev pub events_min : IdealAgent → ℕ
events_min i = i.events.minimum

abbrev pub queries_min : IdealAgent → ℕ
queries_min i = i.queries.minimum

abbrev pub events_clock : IdealAgent → ℕ
events_clock i = i.events.clock

abbrev pub queries_clock : IdealAgent → ℕ
queries_clock i = i.queries.clock

-- ---- the reasons for what is ignored

-- the length of an event's texts, capped at 2^64 - 1
abbrev pub texts_told : EventBody → ℕ
texts_told what = min (texts_len what) (2 ^ 64 - 1)

unfoldable pub oversize_words : ℕ → List ℕ
oversize_words bytes = codes "its name and payload have " ++ decimal bytes ++ codes " bytes together, more than 9216"

-- the words that say since which action a number has been the same; 0 is the start of the run
unfoldable pub since_words : ℕ → List ℕ
since_words since = if since == 0 then codes ", unchanged since the start" else codes ", unchanged since action " ++ decimal since

unfoldable pub mark_words : ℕ → ℕ → List ℕ
mark_words number since = decimal number ++ since_words since

-- the words for a time that is below the window of a buffer with this number of slots; the clock follows them
unfoldable pub below_words : ℕ → ℕ → List ℕ
below_words time slots = codes "time " ++ decimal time ++ codes " is more than " ++ decimal slots ++ codes " times below the "

unfoldable pub too_old_words : ℕ → ℕ → List ℕ → ℕ → List ℕ
too_old_words time slots clock stands = below_words time slots ++ clock ++ codes " clock " ++ decimal stands

unfoldable pub full_words : ℕ → ℕ → List ℕ
full_words per_time time = decimal per_time ++ codes ", as many as are taken of one time, were taken of time " ++ decimal time

-- the reasons for which an event or a query is ignored although it wasn't seen before
abbrev pub is_left : Reason → Bool
is_left BelowMinimum = true
is_left TooOld = true
is_left TimeFull = true
is_left Oversize = true
is_left _ = false

-- the words before those of a delivered event; a merge has its verdict in their place
abbrev pub first_words : Reason → List ℕ
first_words BelowMinimum = codes "below the minimum time "
first_words _ = []

-- The words for an event or a query with this time and this length of its texts, which was ignored for this reason.
-- They show the agent's limit that applied: its minimum, its clock and its number of slots, or its number of events of
-- one time. `before` has its minimum before each action.
abbrev pub IsLeft : List ℕ → ℕ → ℕ → ℕ → ℕ → List ℕ → ℕ → ℕ → Reason → List ℕ → Type 0
IsLeft name lowest clock slots per_time before time bytes BelowMinimum detail = (since : ℕ) × (detail ≡ mark_words lowest since) × IsSince before lowest since
IsLeft name lowest clock slots per_time before time bytes TooOld detail = detail ≡ too_old_words time slots name clock
IsLeft name lowest clock slots per_time before time bytes TimeFull detail = detail ≡ full_words per_time time
IsLeft name lowest clock slots per_time before time bytes Oversize detail = detail ≡ oversize_words bytes
IsLeft name lowest clock slots per_time before time bytes _ detail = Unit {0}

-- the same for an event, when `i` is the agent after the event arrived
abbrev pub IsEventLeft : IdealAgent → List ℕ → ℕ → EventBody → Reason → List ℕ → Type 0
IsEventLeft i before time what reason detail = IsLeft (codes "event") i.events.minimum i.events.clock i.config.event_buffer i.config.per_time before time (texts_told what) reason detail
