-- The events that were handed out so far, each with its action: private to the crate.
use Rattle.std.specs.Prelude.{◌≡◌, ◌⊎◌, ℕ, ◌+◌, ◌==◌, ◌++◌, ◌&&◌, Bool, true, false, List, [], ◌∷◌, Option, Some, None, IfSome, codes, decimal, drop, map, slice_get, take}
use Rattle.std.specs.List.{list_any}
use Rattle.serf_wire.specs.declared.texts.EventBody.{EventBody}
use Rattle.serf_window.specs.Texts.{event_of, same_texts}
use Rattle.serf_window.specs.Window.{TimedEntry}
use Rattle.serf_agent.specs.declared.config.Config.{Config}
use Rattle.serf_agent.specs.declared.outcome.Reason.TheVariants.{Seen}
use Rattle.serf_agent.specs.View.{ConcreteState}
use Rattle.serf_model.specs.declared.action.Action.{Action}
use Rattle.serf_model.specs.declared.line.Answer.TheVariants as answers
use Rattle.serf_model.specs.declared.line.EventLine.{EventLine}
use Rattle.serf_model.specs.declared.line.Line.{Line}
use Rattle.serf_model.specs.Tails.{keeps}
use Rattle.serf_world.specs.View.{WorldState, agent_at}
use Rattle.serf_explain.specs.declared.deliveries.Delivery.{Delivery}
use Rattle.serf_explain.specs.Seen.{event_delivered, tailed_words}
use Rattle.serf_text.specs.Quoted.{quoted}
use Rattle.serf_explain.specs.Words.{event_words}

-- an event that the action with this number, counted from 1, handed to an agent
pub record Record : Type 0 where
  pub action : ℕ
  pub agent : ℕ
  pub time : ℕ
  pub what : EventBody

abbrev pub record_of : ℕ → EventLine → Record
record_of n e = record { action = n; agent = e.agent; time = e.time; what = event_of e.name e.payload }

-- the records of these lines, whose actions are numbered from `n` on
abbrev pub records_from : ℕ → List Line → List Record
records_from n [] = []
records_from n (line ∷ lines) = map (record_of n) line.events ++ records_from (n + 1) lines

-- the record that a stored delivery stands for
abbrev pub record_in : Delivery → Record
record_in h = record { action = h.action; agent = h.agent; time = h.time; what = event_of (take h.name h.texts.items) (drop h.name h.texts.items) }

abbrev pub records_in : List Delivery → List Record
records_in deliveries = map record_in deliveries

-- whether this event was handed to this agent
abbrev pub is_record : ℕ → ℕ → EventBody → Record → Bool
is_record a time what record_turn = record_turn.agent == a && (record_turn.time == time && same_texts record_turn.what what)

-- a record says that action number `n` handed this event to this agent
pub record RecordedAt (records : List Record) (n a time : ℕ) (what : EventBody) : Type 0 where
  pub place : ℕ
  pub record_turn : Record
  pub at : slice_get records place ≡ Some record_turn
  pub action_is : record_turn.action ≡ n
  pub hands : is_record a time what record_turn ≡ true

-- whether the record exists, and says that this event was handed to this agent
abbrev pub is_recorded : ℕ → ℕ → EventBody → Option Record → Bool
is_recorded a time what None = false
is_recorded a time what (Some record_turn) = is_record a time what record_turn

abbrev pub stands_at : List Record → ℕ → ℕ → ℕ → EventBody → Bool
stands_at records place a time what = is_recorded a time what (slice_get records place)

-- the number of an action that handed this event to this agent, if there is one
pub record IsRecorded (records : List Record) (a time : ℕ) (what : EventBody) (number : Option ℕ) : Type 0 where
  pub right : IfSome number (λ n. RecordedAt records n a time what)
  pub none : number ≡ None → list_any (is_record a time what) records ≡ false

-- the action that a merge names for an event that was seen: an earlier action that handed the event to this agent, or
-- the merge itself, which is action `number`, if the event entered in it
pub record IsNamed (records : List Record) (number a time : ℕ) (what : EventBody) (entered : Bool) (handed : Option ℕ) : Type 0 where
  pub right : IfSome handed (λ n. RecordedAt records n a time what ⊎ ((n ≡ number) × (entered ≡ true)))
  pub none : handed ≡ None → entered ≡ false

-- the words for an event that was seen: at which action it was handed to the agent, or that the agent was opened on a
-- text with its line
unfoldable pub handed_words : List ℕ → ℕ → EventBody → Option ℕ → List ℕ
handed_words name time what (Some number) = quoted name ++ codes " was handed " ++ event_words time what ++ codes " at action " ++ decimal number
handed_words name time what None = tailed_words name time what

-- the name of an agent that a world stores, or an empty name if there is no such agent
abbrev pub name_stored : Option ConcreteState → List ℕ
name_stored None = []
name_stored (Some state) = state.config.name

abbrev pub name_at : WorldState → ℕ → List ℕ
name_at w a = name_stored (agent_at w a)

-- the reason names an action that handed this event to this agent, or if there is none, it says that the agent was
-- opened on a text with the event's line
abbrev pub NamesSeen : List Record → List ℕ → ℕ → ℕ → EventBody → List ℕ → Type 0
NamesSeen records name a time what reason = (handed : Option ℕ) × IsRecorded records a time what handed × (reason ≡ handed_words name time what handed)

-- the event that an action delivers was handed to its agent before, or the agent's settings keep events
abbrev pub IsKnown : List Config → List Record → List (List ℕ) → Action → Type 0
IsKnown configs records sent action = (a : ℕ) (e : TimedEntry EventBody) → event_delivered sent action ≡ Some (a, e)
    → (list_any (is_record a e.time e.key) records ≡ true) ⊎ (keeps (slice_get configs a) ≡ true)

-- this is known of every delivered event for which the answer is that it was seen
abbrev pub KnowsSeen : List Config → List Record → List (List ℕ) → Action → Line → Type 0
KnowsSeen configs records sent action line = line.answer ≡ answers.Ignored Seen → IsKnown configs records sent action
