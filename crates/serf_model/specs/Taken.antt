-- What every agent accepts in its present life, whether it keeps its events over a restart or not. If an event arrives
-- in a packet or in a state, the agent is handed it, or the turns show why not.
use Rattle.std.specs.Prelude.{◌≡◌, ◌⊎◌, ◌+◌, ◌<◌, ◌≤◌, ◌++◌, ◌∷◌, ℕ, max, Bool, true, List, [], map, Some, Contains, slice_get}
use Rattle.std.specs.List.{fold}
use Rattle.serf_wire.specs.declared.texts.EventBody.{EventBody}
use Rattle.serf_window.specs.Window.{TimedEntry, count_at}
use Rattle.serf_agent.specs.declared.config.Config.{Config}
use Rattle.serf_agent.specs.Config.{max_text_bytes}
use Rattle.serf_agent.specs.Events.{texts_len}
use Rattle.serf_model.specs.declared.action.Act.TheVariants as acts
use Rattle.serf_model.specs.declared.action.Action.TheVariants as actions
use Rattle.serf_model.specs.declared.line.Answer.{Answer}
use Rattle.serf_model.specs.declared.line.Answer.TheVariants as answers
use Rattle.serf_model.specs.declared.line.Refusal.{Refusal}
use Rattle.serf_model.specs.Bounds.{events_of_life}
use Rattle.serf_model.specs.HandOuts.{events_given}
use Rattle.serf_model.specs.NotMissed.{event_clock_of, hears_of, min_written}
use Rattle.serf_model.specs.Trace.{Turn, AtEach, actor_of, event_in, turns_by}

-- Minimums of one life, as turns show them

-- the minimum after an answer, if this was the minimum before and the turn sets this one: a restart begins with the
-- event clock that it answers
abbrev pub minimum_shown : ℕ → ℕ → Answer → ℕ
minimum_shown minimum sets (answers.Restarted member_clock event_clock query_clock) = event_clock
minimum_shown minimum sets _ = max minimum sets

abbrev pub minimum_then : Config → ℕ → Turn → ℕ
minimum_then c minimum turn = minimum_shown minimum (min_written c turn) turn.line.answer

-- The minimum of an agent after these turns: the event clock that its last restart answered, or the clock of a state
-- since then, if the agent merged the state at a join and ignores old events. It begins with 1. An agent that keeps its
-- events may also accept events below it (`Kept`).
abbrev pub event_minimum_of : Config → ℕ → List Turn → ℕ
event_minimum_of c a turns = fold (minimum_then c) 1 (turns_by a turns)

-- What is accepted

-- The agent, which has these settings, has to accept this event of the packet that the turn passes to it.
pub record IsDue (a : ℕ) (c : Config) (before : List Turn) (turn : Turn) (e : TimedEntry EventBody) : Type 0 where
  -- it isn't too long
  pub short : texts_len e.key ≤ max_text_bytes
  -- it is within the window after the clock has observed everything in the packet
  pub young : event_clock_of a (before ++ turn ∷ []) ≤ e.time + c.event_buffer
  -- it isn't below the minimum
  pub above : event_minimum_of c a (before ++ turn ∷ []) ≤ e.time
  -- the agent wasn't handed it in its present life
  pub new : Contains (events_of_life a before) e → ⊥

-- as many events of a time were handed to the agent in its present life as its settings allow
abbrev pub IsTimeFull : ℕ → Config → List Turn → ℕ → Type 0
IsTimeFull a c turns t = c.per_time ≤ count_at (events_of_life a turns) t

-- If an agent processes a packet, and its sink doesn't fail, each event that the agent has to accept is handed out in
-- this turn, or the event's time is full.
abbrev pub Taken : List Config → List Turn → Type 0
Taken configs turns =
    AtEach (λ before turn. (a : ℕ) (c : Config) (e : TimedEntry EventBody) → slice_get configs a ≡ Some c → actor_of turn.action ≡ Some a → hears_of turn.line.answer ≡ true → Contains (events_given turn.given) e → IsDue a c before turn e
    → Contains (map event_in turn.line.events) e ⊎ IsTimeFull a c (before ++ turn ∷ []) e.time) turns

-- Merges

-- why an agent isn't handed an event of a state that it merges
pub data WhyNot (a : ℕ) (c : Config) (before : List Turn) (turn : Turn) (e : TimedEntry EventBody) : Type 0 where
  -- the merge was refused, and the answer says why
  refused : (why : Refusal) → turn.line.answer ≡ answers.Refused why → WhyNot a c before turn e
  -- the event is too long
  too_long : max_text_bytes < texts_len e.key → WhyNot a c before turn e
  -- it is further back than the window, once the clock has observed everything in the state
  too_old : e.time + c.event_buffer < event_clock_of a (before ++ turn ∷ []) → WhyNot a c before turn e
  -- it is below the minimum
  below : e.time < event_minimum_of c a (before ++ turn ∷ []) → WhyNot a c before turn e
  -- its time is full
  full : IsTimeFull a c (before ++ turn ∷ []) e.time → WhyNot a c before turn e

-- After an agent has merged a state, it has been handed each event of the state in its present life, in this turn or
-- earlier, or there is one of these reasons.
abbrev pub MergedIsHanded : List Config → List Turn → Type 0
MergedIsHanded configs turns =
    AtEach (λ before turn. (a number : ℕ) (join : Bool) (c : Config) (e : TimedEntry EventBody) → slice_get configs a ≡ Some c → turn.action ≡ actions.Of a (acts.Merge number join) → Contains (events_given turn.given) e
    → Contains (events_of_life a (before ++ turn ∷ [])) e ⊎ WhyNot a c before turn e) turns
