-- What is kept while the events of a merge are judged: private to the crate.
use Rattle.std.specs.Prelude.{◌≡◌, ℕ, ◌+◌, ◌-◌, ◌^◌, ◌<◌, ◌≤◌, ◌++◌, Bool, true, false, if◌then◌else◌, List, [], ◌∷◌, length, map, Option, Some, None, Result, Ok, All, codes, decimal, min}
use Rattle.std.specs.List.{flat_map}
use Rattle.serf_wire.specs.declared.error.WireError.{WireError}
use Rattle.serf_wire.specs.declared.texts.EventBody.{EventBody}
use Rattle.serf_wire.specs.Message.{Message, push_pull}
use Rattle.serf_window.specs.declared.verdict.Verdict.{Verdict}
use Rattle.serf_window.specs.declared.verdict.Verdict.TheVariants as verdicts
use Rattle.serf_window.specs.Window.{TimedEntry, slots_of}
use Rattle.serf_agent.specs.declared.outcome.Reason.{Reason}
use Rattle.serf_agent.specs.declared.outcome.Reason.TheVariants as reasons
use Rattle.serf_agent.specs.Ideal.{IdealAgent, Past}
use Rattle.serf_agent.specs.Sound.{IsSound}
use Rattle.serf_agent.specs.View.{view_of}
use Rattle.serf_explain.specs.declared.verdict_reason.Judge.{Judge}
use Rattle.serf_explain.specs.declared.left.Takes.{Takes}
use Rattle.serf_explain.specs.declared.merge_reasons.Cursor.{Cursor}
use Rattle.serf_explain.specs.declared.merge_line.Merging.{Merging}
use Rattle.serf_model.specs.declared.action.Action.{Action}
use Rattle.serf_model.specs.declared.line.Line.{Line}
use Rattle.serf_model.specs.Cluster.{Cluster}
use Rattle.serf_explain.specs.Because.{because_line}
use Rattle.serf_explain.specs.Carried.{AreCarried, Known, SlotEntry, TellsMerge, after_events, carried_words, entered_since, heard, slot_entries_from, raised_min}
use Rattle.serf_explain.specs.Deliveries.{IsNamed, handed_words, records_from, records_in}
use Rattle.serf_explain.specs.Leaving.{IsMark, left_words, takes_by}
use Rattle.serf_explain.specs.Left.{texts_told}

abbrev pub past : ℕ → TimedEntry EventBody → Past EventBody
past life e = record { life = life; entry = e }

-- `i` is an ideal agent before the events of a merge, `j` is the same agent after it has received some of them, and
-- `entered` are those that entered it
pub record IsJudging (i j : IdealAgent) (judge : Judge) : Type 0 where
  pub entered : List (TimedEntry EventBody)
  pub config_same : j.config ≡ i.config
  pub life_same : j.life ≡ i.life
  pub clock_is : j.events.clock ≡ judge.clock
  pub minimum_is : j.events.minimum ≡ judge.minimum
  pub history_is : j.events.history ≡ i.events.history ++ map (past i.life) entered
  pub slots_are : judge.entered.slots ≡ slots_of i.config.event_buffer entered
  pub per_time_is : judge.entered.per_time ≡ i.config.per_time
  pub below : All (λ e. e.time < judge.clock) entered
  pub clock_up : i.events.clock ≤ judge.clock
  pub minimum_up : i.events.minimum ≤ judge.minimum

-- an agent is merging a state: `i` is this agent before the merge, and `k` is what is known of it
pub record IsMerging (k : Known) (i : IdealAgent) (merging : Merging) : Type 0 where
  pub sound : IsSound i
  pub agent_is : merging.agent.now.concrete ≡ view_of i
  pub agent : merging.agent_number ≡ k.agent
  pub entered : k.entered ≡ length i.events.history
  pub records : records_in merging.history.now.deliveries.outs.items ≡ records_from 1 k.lines
  pub count : merging.number ≡ length k.lines + 1
  pub earlier : List ℕ
  pub lowest : ℕ
  pub before_are : k.before ≡ earlier ++ lowest ∷ []
  pub mark : IsMark earlier lowest merging.lowest
  pub number : merging.number ≡ length earlier + 1

-- the agent's limits for events, after these events of the merge were judged
abbrev pub judge_takes : Merging → Judge → Takes
judge_takes merging judge = takes_by merging.lowest judge.minimum judge.clock merging.agent.now.concrete.config.event_buffer merging.agent.now.concrete.config.per_time merging.number

-- the words that follow the first ones of a verdict, made from the agent's limits and from the action that is named
abbrev pub detail_words : List ℕ → Takes → Option ℕ → ℕ → EventBody → Option Reason → List ℕ
detail_words name takes handed time what None = []
detail_words name takes handed time what (Some reasons.Seen) = handed_words name time what handed
detail_words name takes handed time what (Some r) = left_words takes (codes "event") time (texts_told what) r

abbrev pub judged_detail : Merging → Judge → Option ℕ → ℕ → EventBody → Option Reason → List ℕ
judged_detail merging judge handed time what verdict = detail_words merging.agent.now.concrete.config.name (judge_takes merging judge) handed time what verdict

-- the line of the reason for an event of a merge
abbrev pub judged_line : Merging → Judge → Option ℕ → ℕ → ℕ → EventBody → Option Reason → List ℕ
judged_line merging judge handed slot time what verdict = because_line merging.number (carried_words slot time what verdict (judged_detail merging judge handed time what verdict))

-- the action that is named for an event that was seen: `i` is the agent before the merge, and `j` is the agent at which
-- the event arrives
abbrev pub IsHandedIn : IdealAgent → IdealAgent → Merging → TimedEntry EventBody → Option ℕ → Type 0
IsHandedIn i j merging e handed =
    IsNamed (records_in merging.history.now.deliveries.outs.items) merging.number merging.agent_number e.time e.key (entered_since (length i.events.history) j e) handed

-- a text grew by the line of an event of a merge
pub record AddsJudged (merging : Merging) (judge : Judge) (i j : IdealAgent) (slot : ℕ) (e : TimedEntry EventBody) (verdict : Option Reason) (old new : List ℕ) : Type 0 where
  pub handed : Option ℕ
  pub added : new ≡ old ++ judged_line merging judge handed slot e.time e.key verdict
  pub named : verdict ≡ Some reasons.Seen → IsHandedIn i j merging e handed

-- a text grew by lines of action number `n`, one for each of these events, with the verdicts of an agent that receives
-- them one after another
pub record AddsLines (k : Known) (n : ℕ) (ps : List SlotEntry) (i : IdealAgent) (old new : List ℕ) : Type 0 where
  pub added : List (List ℕ)
  pub new_is : new ≡ old ++ flat_map (because_line n) added
  pub carried : AreCarried k ps i added

-- the events of a merge are judged up to the events `left`, and the text grew by the lines of those that were judged
pub record HasJudged (k : Known) (n : ℕ) (i j : IdealAgent) (all left : List SlotEntry) (old new : List ℕ) (judge : Judge) : Type 0 where
  pub done : List SlotEntry
  pub split : done ++ left ≡ all
  pub lines : AddsLines k n done j old new
  pub judging : IsJudging i (after_events done j) judge

-- a text grew by the lines of a state's events, as they arrive at the agent `j`, which is `i` after it has heard of the
-- state; and the minimum for events rises to `raised`, if it does
pub record AddsState (k : Known) (n : ℕ) (ps : List SlotEntry) (i j : IdealAgent) (raised : Option ℕ) (old new : List ℕ) : Type 0 where
  pub lines : AddsLines k n ps j old new
  pub raises : raised ≡ raised_min i (after_events ps j)

-- a text grew by the lines of the state that a packet carries, or by nothing if it carries none
abbrev pub AddsMerge : Known → ℕ → IdealAgent → Bool → Result Message WireError → Option ℕ → List ℕ → List ℕ → Type 0
AddsMerge k n i join (Ok (push_pull p)) raised old new = AddsState k n (slot_entries_from 0 p.slots) i (heard p join i) raised old new
AddsMerge k n i join _ raised old new = new ≡ old

-- the text has the lines of the reasons for the events that action number `n` is about to merge, if it merges a state,
-- and `raised` is the minimum for events after it, if the merge raises it
pub record TellsText (n : ℕ) (lines : List Line) (before : List Cluster) (c : Cluster) (action : Action) (raised : Option ℕ) (text : List ℕ) : Type 0 where
  pub carried : List (List ℕ)
  pub text_is : text ≡ flat_map (because_line n) carried
  pub tells : TellsMerge lines before c action raised carried

-- the reasons for the events of a merged state, made from the reason for each event
abbrev pub merged_of : List (List ℕ) → List (List ℕ)
merged_of [] = codes "the state carries no event" ∷ []
merged_of (reason ∷ reasons) = reason ∷ reasons

-- the two halves of the line of an event that was seen: up to the end of the event's words, and from there on
unfoldable pub seen_front : List ℕ → ℕ → List ℕ → List ℕ
seen_front front slot words = front ++ decimal slot ++ codes " carries " ++ words

unfoldable pub seen_after : List ℕ → List ℕ → ℕ → List ℕ
seen_after named words action = codes ": seen: " ++ named ++ words ++ codes " at action " ++ decimal action ++ codes "\n"

-- The place at which the search for the next delivery begins. It is as far from the delivery that was just found as
-- this one is from the delivery named before it, because the events of a state were mostly handed out one after
-- another.
abbrev pub near_after : Cursor → ℕ → Cursor
near_after cursor place = record { named = place; next = min (place + (place - cursor.named)) (2 ^ 64 - 1) }

-- whether a verdict says that the event entered before
abbrev pub is_seen : Verdict → Bool
is_seen verdicts.Seen = true
is_seen _ = false

-- the verdict that results from the verdict of the agent before the merge, from the verdict against what entered in the
-- merge, and from whether both together have too many events of this time
abbrev pub both_verdicts : Option Reason → Verdict → Bool → Option Reason
both_verdicts before verdicts.BelowMinimum full = Some reasons.BelowMinimum
both_verdicts before verdicts.TooOld full = Some reasons.TooOld
both_verdicts before verdicts.Seen full = Some reasons.Seen
both_verdicts (Some reasons.Seen) verdicts.TimeFull full = Some reasons.Seen
both_verdicts before verdicts.TimeFull full = Some reasons.TimeFull
both_verdicts None verdicts.New full = if full then Some reasons.TimeFull else None
both_verdicts (Some before) verdicts.New full = Some before
