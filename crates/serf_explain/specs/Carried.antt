-- The reasons for the events that a merged state carries.
use Rattle.std.specs.Prelude.{◌≡◌, ◌⊎◌, ◌^◌, ◌-◌, ℕ, ◌+◌, ◌++◌, Bool, true, false, nat_lt, if◌then◌else◌, List, [], ◌∷◌, Option, Some, None, Ok, codes, decimal, drop, length, map, min, slice_get}
use Rattle.serf_snapshot.specs.AppendsLine.{Kept}
use Rattle.serf_wire.specs.declared.texts.EventBody.{EventBody}
use Rattle.serf_window.specs.Texts.{same_texts}
use Rattle.serf_window.specs.Window.{TimedEntry}
use Rattle.serf_agent.specs.declared.outcome.Reason.{Reason}
use Rattle.serf_agent.specs.declared.outcome.Reason.TheVariants.{BelowMinimum, TooOld, Seen, TimeFull, Oversize}
use Rattle.serf_agent.specs.Calls.{ended}
use Rattle.serf_agent.specs.Events.{admission}
use Rattle.serf_agent.specs.Ideal.{IdealAgent}
use Rattle.serf_agent.specs.States.{after_event, events_of_slot, hear}
use Rattle.serf_agent.specs.Tracks.{was_ever_entered}
use Rattle.serf_wire.specs.Decoded.{decoded}
use Rattle.serf_wire.specs.Message.{PushPull, push_pull}
use Rattle.serf_wire.specs.Slots.{SlotContent}
use Rattle.serf_model.specs.declared.action.Act.TheVariants as acts
use Rattle.serf_model.specs.declared.action.Action.{Action}
use Rattle.serf_model.specs.declared.action.Action.TheVariants as actions
use Rattle.serf_model.specs.declared.line.Line.{Line}
use Rattle.serf_model.specs.Cluster.{Cluster, IdealNode}
use Rattle.serf_explain.specs.Left.{IsEventLeft, events_min, is_left, numbers_in}
use Rattle.serf_explain.specs.Seen.{IsHanded, seen_words, tailed_words}
use Rattle.serf_explain.specs.Words.{event_words}

-- the first words for a verdict on an event, which differ for any two verdicts
abbrev pub verdict_words : Option Reason → List ℕ
verdict_words None = codes "new, and handed out"
verdict_words (Some Oversize) = codes "too large: "
verdict_words (Some BelowMinimum) = codes "below the minimum time "
verdict_words (Some TooOld) = codes "too old: "
verdict_words (Some Seen) = codes "seen: "
verdict_words (Some TimeFull) = codes "too many of its time: "
verdict_words (Some _) = codes "left: "

-- the words for an event of a state: its slot, the event itself, and the verdict on it
unfoldable pub slot_words : ℕ → List ℕ
slot_words slot = codes "slot " ++ decimal slot ++ codes " carries "

unfoldable pub carried_words : ℕ → ℕ → EventBody → Option Reason → List ℕ → List ℕ
carried_words slot time what verdict detail = slot_words slot ++ event_words time what ++ codes ": " ++ verdict_words verdict ++ detail

-- an event that a state carries, and the number of its slot
pub record SlotEntry : Type 0 where
  pub slot : ℕ
  pub entry : TimedEntry EventBody

abbrev pub slot_entries : ℕ → List (TimedEntry EventBody) → List SlotEntry
slot_entries slot es = map (λ e. record { slot = slot; entry = e }) es

-- the number after this slot number, which is at most 2^64 - 1
abbrev pub next_slot : ℕ → ℕ
next_slot slot = min (slot + 1) (2 ^ 64 - 1)

-- the events of slots that are numbered from `slot` on
abbrev pub slot_entries_from : ℕ → List SlotContent → List SlotEntry
slot_entries_from slot [] = []
slot_entries_from slot (s ∷ ss) = slot_entries slot (events_of_slot s) ++ slot_entries_from (next_slot slot) ss

-- What is known of an agent before a merge: its number, its minimum for events before each earlier action and before
-- this one, the lines of the earlier actions, and how many events had entered it.
pub record Known : Type 0 where
  pub agent : ℕ
  pub before : List ℕ
  pub lines : List Line
  pub entered : ℕ

abbrev pub known_of : ℕ → List Line → List Cluster → IdealAgent → Known
known_of a lines before i = record { agent = a; before = numbers_in events_min a before; lines = lines; entered = length i.events.history }

-- whether an event entered this agent after its first `n` events
abbrev pub entered_since : ℕ → IdealAgent → TimedEntry EventBody → Bool
entered_since n i e = was_ever_entered same_texts (drop n i.events.history) e.time e.key

-- The words for an event that was seen. They say that an earlier action handed it to this agent; or that this merge
-- did, because the event entered in this merge; or else that the agent was opened on a text with its line.
abbrev pub IsSeenIn : Known → IdealAgent → TimedEntry EventBody → List ℕ → Type 0
IsSeenIn k i e detail =
    IsHanded k.lines i.config.name k.agent e.time e.key detail
    ⊎ (((entered_since k.entered i e ≡ true) × (detail ≡ seen_words i.config.name e.time e.key (length k.lines)))
    ⊎ ((entered_since k.entered i e ≡ false) × (detail ≡ tailed_words i.config.name e.time e.key)))

-- The reason for an event of a state, with this verdict. If the event was ignored, the reason shows the agent's limits
-- after the event arrived.
pub record IsCarried (k : Known) (i : IdealAgent) (p : SlotEntry) (verdict : Option Reason) (reason : List ℕ) : Type 0 where
  pub detail : List ℕ
  pub words : reason ≡ carried_words p.slot p.entry.time p.entry.key verdict detail
  pub new : verdict ≡ None → detail ≡ []
  pub seen : verdict ≡ Some Seen → IsSeenIn k i p.entry detail
  pub left : (r : Reason) → verdict ≡ Some r → is_left r ≡ true → IsEventLeft (after_event i p.entry) k.before p.entry.time p.entry.key r detail

-- There is one reason for each event, in the order of the events. The verdicts are those of an agent that receives the
-- events one after another.
abbrev pub AreCarried : Known → List SlotEntry → IdealAgent → List (List ℕ) → Type 0
AreCarried k [] i reasons = reasons ≡ []
AreCarried k (p ∷ ps) i reasons = (reason : List ℕ) × (others : List (List ℕ)) × (reasons ≡ reason ∷ others) × IsCarried k i p (admission i p.entry.time p.entry.key) reason × AreCarried k ps (after_event i p.entry) others

-- the agent after it has received these events
abbrev pub after_events : List SlotEntry → IdealAgent → IdealAgent
after_events [] i = i
after_events (p ∷ ps) i = after_events ps (after_event i p.entry)

-- the agent after it has heard of a state, if the line for this is durable or there is no such line
unfoldable pub heard : PushPull → Bool → IdealAgent → IdealAgent
heard p is_join i = (ended i (hear i p is_join) Kept).agent

-- the reasons for the events of a merged state: if there are none, one reason says so
abbrev pub AreOfState : Known → List SlotEntry → IdealAgent → List (List ℕ) → Type 0
AreOfState k [] i reasons = reasons ≡ codes "the state carries no event" ∷ []
AreOfState k (p ∷ ps) i reasons = AreCarried k (p ∷ ps) i reasons

-- the words of a join that raises the minimum for events to `lowest`
unfoldable pub raised_words : ℕ → List ℕ
raised_words lowest = codes "the join ignores old events: the minimum time rises to " ++ decimal lowest

-- the minimum for events after a merge, if it is above the minimum before the merge
abbrev pub raised_min : IdealAgent → IdealAgent → Option ℕ
raised_min before following = if nat_lt before.events.minimum following.events.minimum then Some following.events.minimum else None

-- one reason says to what the minimum is raised; there is none if it isn't raised
abbrev pub raised_reasons : Option ℕ → List (List ℕ)
raised_reasons None = []
raised_reasons (Some lowest) = raised_words lowest ∷ []

-- The reasons of a merge. `old` is the agent before the merge, and `i` is the agent after it has heard of the state.
-- The first reason is about the minimum for events, if the merge raises it. The reasons for the state's events follow.
abbrev pub AreMerged : Known → List SlotEntry → IdealAgent → IdealAgent → List (List ℕ) → Type 0
AreMerged k ps old i reasons = (others : List (List ℕ)) × (reasons ≡ raised_reasons (raised_min old (after_events ps i)) ++ others) × AreOfState k ps i others

-- what is found out about a merge: the minimum for events that it raises, if it does, and the reasons for its events
abbrev pub IsFound : Option ℕ → Known → List SlotEntry → IdealAgent → IdealAgent → List (List ℕ) → Type 0
IsFound raised k ps old i carried = (raised ≡ raised_min old (after_events ps i)) × AreCarried k ps i carried

-- the reasons of a merge that was done, made from what was found out about it
abbrev pub TellsMerged : Option ℕ → List (List ℕ) → List (List ℕ) → Type 0
TellsMerged raised carried reasons = (k : Known) (ps : List SlotEntry) (old i : IdealAgent) → IsFound raised k ps old i carried → AreMerged k ps old i reasons

-- If the action merges a state, `TurnContext` holds of the agent, of the state and of these reasons. `lines` are the
-- lines of the earlier actions, and `before` has the cluster before each of them and before this one.
abbrev pub OfMerge : (Known → List SlotEntry → IdealAgent → IdealAgent → List (List ℕ) → Type 0) → List Line → List Cluster → Cluster → Action → List (List ℕ) → Type 0
OfMerge TurnContext lines before c (actions.Of agent (acts.Merge packet join)) reasons =
    (m : IdealNode) (bytes : List ℕ) (p : PushPull) → slice_get c.nodes agent ≡ Some m → slice_get c.sent packet ≡ Some bytes → decoded bytes ≡ Ok (push_pull p)
    → TurnContext (known_of agent lines before m.agent) (slot_entries_from 0 p.slots) m.agent (heard p join m.agent) reasons
OfMerge TurnContext lines before c _ reasons = Unit {0}

abbrev pub TellsMerge : List Line → List Cluster → Cluster → Action → Option ℕ → List (List ℕ) → Type 0
TellsMerge lines before c action raised carried = OfMerge (IsFound raised) lines before c action carried
