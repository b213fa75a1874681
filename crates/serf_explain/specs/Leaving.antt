-- What is remembered of the agents, why an agent ignored what it received, and what reasons say about queries, as the
-- code has it: private to the crate.
use Rattle.std.specs.Prelude.{◌≡◌, ℕ, ◌+◌, ◌==◌, ◌&&◌, Bool, if◌then◌else◌, is_some, nat_eq, false, List, [], ◌∷◌, ◌++◌, Option, Some, None, length, codes, true, decimal, unwrap_or}
use Rattle.indexmap.specs.IndexMap.{get}
use Rattle.serf_agent.specs.View.{ConcreteState}
use Rattle.serf_model.specs.Cluster.{Cluster}
use Rattle.serf_agent.specs.Ideal.{IdealAgent}
use Rattle.serf_agent.specs.States.{written_min_line}
use Rattle.serf_explain.specs.declared.marks.AllMarks.{AllMarks}
use Rattle.serf_explain.specs.declared.marks.Mark.{Mark}
use Rattle.serf_explain.specs.declared.marks.Marks.{Marks}
use Rattle.serf_explain.specs.declared.marks.Numbers.{Numbers}
use Rattle.serf_wire.specs.declared.texts.EventBody.{EventBody}
use Rattle.serf_wire.specs.Message.{Message, PushPull, push_pull}
use Rattle.serf_window.specs.Window.{TimedEntry, held_count}
use Rattle.serf_agent.specs.declared.outcome.Reason.{Reason}
use Rattle.serf_agent.specs.declared.outcome.Reason.TheVariants.{BelowMinimum, TooOld, TimeFull, Oversize, OtherId, Closed, AckNotRequested, AckTwice}
use Rattle.serf_model.specs.declared.action.Act.{Act}
use Rattle.serf_model.specs.declared.action.Act.TheVariants as acts
use Rattle.serf_model.specs.declared.action.Action.{Action}
use Rattle.serf_world.specs.View.{WorldState, agent_at}
use Rattle.serf_explain.specs.declared.left.Takes.{Takes}
use Rattle.serf_explain.specs.Left.{IsSince, events_clock, events_min, number_in, numbers_in, queries_clock, queries_min, first_words, full_words, is_left, mark_words, oversize_words, texts_told, too_old_words}
use Rattle.serf_explain.specs.Seen.{event_delivered}
use Rattle.serf_text.specs.Quoted.{quoted}
use Rattle.serf_explain.specs.Words.{event_words}

-- the mark of a number that is `now`; `before` has its value before each earlier action
abbrev pub IsMark : List ℕ → ℕ → Mark → Type 0
IsMark before now m = (m.value ≡ now) × IsSince before now m.since

abbrev pub first_mark : Mark
first_mark = record { value = 1; since = 0 }

abbrev pub first_numbers : Numbers
first_numbers = record { event_clock = first_mark; query_clock = first_mark; event_minimum = first_mark; query_minimum = first_mark }

-- the mark after an action that left the number at `value`
abbrev pub mark_after : Mark → ℕ → ℕ → Mark
mark_after m value action = if m.value == value then m else record { value = value; since = action }

-- the marks after an action that left the agent in the state `s`
abbrev pub numbers_after : Numbers → ConcreteState → ℕ → Numbers
numbers_after ns s action = record {
  event_clock = mark_after ns.event_clock s.events.clock action;
  query_clock = mark_after ns.query_clock s.queries.clock action;
  event_minimum = mark_after ns.event_minimum s.events.minimum action;
  query_minimum = mark_after ns.query_minimum s.queries.minimum action;
}

-- the marks that were found for an agent, or those that every agent begins with
abbrev pub marks_or_first : Option Marks → Numbers
marks_or_first None = first_numbers
marks_or_first (Some m) = m.numbers

abbrev pub numbers_of : AllMarks → ℕ → Numbers
numbers_of marks a = marks_or_first (get nat_eq marks.agents a)

-- the marks of this agent were updated after an action that left it in the state `s`, and no other marks changed
pub record IsLooked (old new : AllMarks) (actor : ℕ) (s : ConcreteState) (action : ℕ) : Type 0 where
  pub own : numbers_of new actor ≡ numbers_after (numbers_of old actor) s action
  pub others : (a : ℕ) → nat_eq actor a ≡ false → numbers_of new a ≡ numbers_of old a

-- the mark of one number of an agent, in a cluster and before each of the earlier actions
abbrev pub IsMarkOf : (IdealAgent → ℕ) → ℕ → List Cluster → Cluster → Mark → Type 0
IsMarkOf number a before c m = IsMark (numbers_in number a before) (number_in number a c) m

pub record AreNumbers (a : ℕ) (before : List Cluster) (c : Cluster) (ns : Numbers) : Type 0 where
  pub event_clock : IsMarkOf events_clock a before c ns.event_clock
  pub query_clock : IsMarkOf queries_clock a before c ns.query_clock
  pub event_minimum : IsMarkOf events_min a before c ns.event_minimum
  pub query_minimum : IsMarkOf queries_min a before c ns.query_minimum

-- the marks are right for all agents
abbrev pub HoldMarks : List Cluster → Cluster → AllMarks → Type 0
HoldMarks before c marks = (a : ℕ) → AreNumbers a before c (numbers_of marks a)

-- ---- the reasons for what is ignored

-- the limits of an agent with these numbers after action number `action`; `old` is the mark of its minimum before the
-- action
abbrev pub takes_by : Mark → ℕ → ℕ → ℕ → ℕ → ℕ → Takes
takes_by old lowest clock slots per_time action = record { lowest = mark_after old lowest action; clock = clock; slots = slots; per_time = per_time }

abbrev pub takes_events : Mark → ConcreteState → ℕ → Takes
takes_events old s action = takes_by old s.events.minimum s.events.clock s.config.event_buffer s.config.per_time action

abbrev pub takes_queries : Mark → ConcreteState → ℕ → Takes
takes_queries old s action = takes_by old s.queries.minimum s.queries.clock s.config.query_buffer s.config.per_time action

-- the words that these limits lead to
abbrev pub left_words : Takes → List ℕ → ℕ → ℕ → Reason → List ℕ
left_words takes name time bytes BelowMinimum = mark_words takes.lowest.value takes.lowest.since
left_words takes name time bytes TooOld = too_old_words time takes.slots name takes.clock
left_words takes name time bytes TimeFull = full_words takes.per_time time
left_words takes name time bytes Oversize = oversize_words bytes
left_words takes name time bytes _ = []

-- the same for a delivered event
abbrev pub ignored_words : Takes → ℕ → EventBody → Reason → List ℕ
ignored_words takes time what r = event_words time what ++ codes ": " ++ first_words r ++ left_words takes (codes "event") time (texts_told what) r

-- ---- a state of which nothing was processed

-- the number of bytes that a disk keeps
abbrev pub bytes_kept : ConcreteState → ℕ
bytes_kept s = length (unwrap_or s.snapshot.durable [])

-- whether an agent in the state `s` wrote nothing in a merge whose first line is that of the minimum for events;
-- `before` is the number of bytes that its disk kept before the merge
abbrev pub hears_nothing : ConcreteState → ℕ → Bool → PushPull → Bool
hears_nothing s before join p = is_some (written_min_line s.config p join) && bytes_kept s == before

-- the event clock of the state that a packet carries, if it carries one
abbrev pub state_event_clock : Option Message → Option ℕ
state_event_clock (Some (push_pull p)) = Some p.event_clock
state_event_clock _ = None

-- The minimum for events whose line failed, so that nothing of the state was processed. It is the state's event clock,
-- if its line is written first.
abbrev pub unheard_min : ConcreteState → ℕ → Act → Option Message → Option ℕ
unheard_min s before (acts.Merge packet join) (Some (push_pull p)) = if hears_nothing s before join p then Some p.event_clock else None
unheard_min s before _ _ = None

-- ---- queries, and what a restart found

-- how a query reached an agent that knows it: at this action, or through a text if the agent keeps its events, or else
-- at an unnamed earlier action
abbrev pub way_words : Option ℕ → Bool → List ℕ
way_words (Some action) keeps = codes " took it at action " ++ decimal action
way_words None true = codes " was opened on a text with its line"
way_words None false = codes " took it before"

unfoldable pub took_words : List ℕ → Option ℕ → Bool → List ℕ
took_words name entered keeps = quoted name ++ way_words entered keeps

-- the words about an open query if an answer to it is ignored; a number or a name follows them
abbrev pub uncounted_words : Reason → List ℕ
uncounted_words OtherId = codes " has ID "
uncounted_words Closed = codes " took answers until "
uncounted_words AckNotRequested = codes " requested no acks"
uncounted_words AckTwice = codes " has an ack of "
uncounted_words _ = codes " has a response of "

-- the words for the buffers of an agent in the state `s`
unfoldable pub buffers_words : ConcreteState → List ℕ
buffers_words s = codes ", and its buffers are restored, events held: " ++ decimal (held_count s.events.slots) ++ codes ", event clock " ++ decimal s.events.clock ++ codes ", query clock " ++ decimal s.queries.clock
