-- The reason for a delivered event that was ignored.
use Rattle.std.specs.Prelude.{◌≡◌, ◌⊎◌, ℕ, ◌+◌, ◌==◌, ◌++◌, ◌&&◌, Bool, true, false, List, [], ◌∷◌, Option, Some, None, Result, Ok, codes, decimal, slice_get}
use Rattle.std.specs.List.{list_any}
use Rattle.std.specs.Option.{option_map}
use Rattle.serf_wire.specs.declared.error.WireError.{WireError}
use Rattle.serf_wire.specs.declared.texts.EventBody.{EventBody}
use Rattle.serf_wire.specs.Decoded.{decoded}
use Rattle.serf_wire.specs.Message.{Message, user_event}
use Rattle.serf_window.specs.Texts.{event_of, same_texts}
use Rattle.serf_window.specs.Window.{TimedEntry}
use Rattle.serf_agent.specs.declared.config.Config.{Config}
use Rattle.serf_model.specs.declared.action.Act.TheVariants as acts
use Rattle.serf_model.specs.declared.action.Action.{Action}
use Rattle.serf_model.specs.declared.action.Action.TheVariants as actions
use Rattle.serf_model.specs.Cluster.{Cluster, IdealNode}
use Rattle.serf_model.specs.declared.line.EventLine.{EventLine}
use Rattle.serf_model.specs.declared.line.Line.{Line}
use Rattle.serf_model.specs.Tails.{keeps}
use Rattle.serf_agent.specs.declared.outcome.Reason.{Reason}
use Rattle.serf_explain.specs.Left.{IsEventLeft, events_min, first_words, numbers_in}
use Rattle.serf_text.specs.Quoted.{quoted}
use Rattle.serf_explain.specs.Words.{event_words}

-- whether an event line hands this event to this agent
abbrev pub is_hand_out : ℕ → ℕ → EventBody → EventLine → Bool
is_hand_out a time what e = e.agent == a && (e.time == time && same_texts (event_of e.name e.payload) what)

-- whether the line of an action hands this event to this agent
abbrev pub hands_out : ℕ → ℕ → EventBody → Line → Bool
hands_out a time what line = list_any (is_hand_out a time what) line.events

-- one of these lines hands this event to this agent: line number `k`, counted from 0
pub record HandsOut (lines : List Line) (k a time : ℕ) (what : EventBody) : Type 0 where
  pub line : Line
  pub at : slice_get lines k ≡ Some line
  pub hands : hands_out a time what line ≡ true

-- the words for an event that was handed to an agent at action number `k + 1`, because actions are numbered from 1
unfoldable pub seen_words : List ℕ → ℕ → EventBody → ℕ → List ℕ
seen_words name time what k = quoted name ++ codes " was handed " ++ event_words time what ++ codes " at action " ++ decimal (k + 1)

-- the name of an agent, or an empty name if there is no such agent
abbrev pub name_or_empty : Option IdealNode → List ℕ
name_or_empty None = []
name_or_empty (Some node) = node.agent.config.name

abbrev pub name_in : Cluster → ℕ → List ℕ
name_in c a = name_or_empty (slice_get c.nodes a)

-- the words for an event that was never handed to the agent, but whose line was in a text on which the agent was opened
unfoldable pub tailed_words : List ℕ → ℕ → EventBody → List ℕ
tailed_words name time what = quoted name ++ codes " was opened on a text with the line of " ++ event_words time what

-- The reason names one of these earlier actions, which handed this event to the agent called `name`.
pub record IsHanded (lines : List Line) (name : List ℕ) (a time : ℕ) (what : EventBody) (reason : List ℕ) : Type 0 where
  pub action : ℕ
  pub delivery : HandsOut lines action a time what
  pub words : reason ≡ seen_words name time what action

-- The reason says that the agent was opened on a text with the event's line. The agent's settings keep events, and no
-- earlier action handed it the event.
pub record IsTailed (lines : List Line) (keeps_events : Bool) (name : List ℕ) (a time : ℕ) (what : EventBody) (reason : List ℕ) : Type 0 where
  pub kept : keeps_events ≡ true
  pub none : list_any (hands_out a time what) lines ≡ false
  pub words : reason ≡ tailed_words name time what

-- The reason for an event that was seen. If the agent's settings keep no events, it always names an earlier action.
abbrev pub IsSeen : List Line → Bool → List ℕ → ℕ → ℕ → EventBody → List ℕ → Type 0
IsSeen lines keeps_events name a time what reason = IsHanded lines name a time what reason ⊎ IsTailed lines keeps_events name a time what reason

-- the event in a message, if it is a user event
abbrev pub event_read : Result Message WireError → Option (TimedEntry EventBody)
event_read (Ok (user_event e)) = Some (record { time = e.time; key = event_of e.name e.payload })
event_read _ = None

abbrev pub event_given : Option (List ℕ) → Option (TimedEntry EventBody)
event_given None = None
event_given (Some packet) = event_read (decoded packet)

-- the agent to which an action delivers an event, and this event; `sent` has the packets that were sent
abbrev pub event_delivered : List (List ℕ) → Action → Option (ℕ × TimedEntry EventBody)
event_delivered sent (actions.Of agent (acts.Deliver packet now)) = option_map (λ e. (agent, e)) (event_given (slice_get sent packet))
event_delivered sent _ = None

-- if an action delivers an event to an agent of the cluster `c`, its only reason is that of an event that was seen
abbrev pub OfSeen : List Config → List Line → List (List ℕ) → Cluster → Action → List (List ℕ) → Type 0
OfSeen configs lines sent c action reasons = (a : ℕ) (e : TimedEntry EventBody) → event_delivered sent action ≡ Some (a, e)
    → (reason : List ℕ) × (reasons ≡ reason ∷ []) × IsSeen lines (keeps (slice_get configs a)) (name_in c a) a e.time e.key reason

-- If an action delivers an event to an agent of the cluster `c`, which is the cluster after the action, its only reason
-- says why the event was ignored. `before` has the cluster before each earlier action and before this one.
abbrev pub OfLeftEvent : Reason → List Cluster → List (List ℕ) → Cluster → Action → List (List ℕ) → Type 0
OfLeftEvent r before sent c action reasons = (a : ℕ) (e : TimedEntry EventBody) (m : IdealNode) → event_delivered sent action ≡ Some (a, e) → slice_get c.nodes a ≡ Some m
    → (detail : List ℕ) × (reasons ≡ (event_words e.time e.key ++ codes ": " ++ first_words r ++ detail) ∷ []) × IsEventLeft m.agent (numbers_in events_min a before) e.time e.key r detail
