-- A trace with its reasons.
use Rattle.std.specs.Prelude.{◌≡◌, ℕ, ◌+◌, ◌<◌, ◌++◌, Bool, true, if◌then◌else◌, List, [], ◌∷◌, Option, Some, Ok, length, map}
use Rattle.std.specs.List.{flat_map}
use Rattle.serf_agent.specs.declared.config.Config.{Config}
use Rattle.serf_agent.specs.declared.outcome.Reason.{Reason}
use Rattle.serf_agent.specs.declared.outcome.Reason.TheVariants.{Seen}
use Rattle.serf_model.specs.declared.action.Action.{Action}
use Rattle.serf_model.specs.declared.line.Line.{Line}
use Rattle.serf_model.specs.declared.line.Answer.TheVariants as answers
use Rattle.serf_model.specs.Cluster.{Cluster, Run, run_of, start, step, trace_of}
use Rattle.serf_model.specs.Trace.{Turn, actor_of}
use Rattle.serf_wire.specs.declared.texts.EventBody.{EventBody}
use Rattle.serf_window.specs.Window.{TimedEntry}
use Rattle.serf_agent.specs.View.{ConcreteState}
use Rattle.serf_world.specs.View.{WorldState, agent_at}
use Rattle.serf_schedule.specs.Line.{Parsed}
use Rattle.serf_schedule.specs.Output.{output_of}
use Rattle.serf_schedule.specs.Schedule.{schedule_of}
use Rattle.serf_schedule.specs.Show.{action_text, trace_text}
use Rattle.serf_explain.specs.declared.history.History.{History}
use Rattle.serf_explain.specs.declared.range.Range.{Range}
use Rattle.serf_explain.specs.Because.{because_line}
use Rattle.serf_explain.specs.Carried.{AreMerged, OfMerge, TellsMerged}
use Rattle.serf_explain.specs.Deliveries.{NamesSeen, Record, name_at, records_from, records_in}
use Rattle.serf_explain.specs.Leaving.{ignored_words, numbers_of, takes_events}
use Rattle.serf_explain.specs.Left.{is_left}
use Rattle.serf_explain.specs.Range.{is_shown}
use Rattle.serf_explain.specs.Seen.{OfLeftEvent, OfSeen, event_delivered}

-- a turn of a run, the cluster before it, and its reasons
pub record Explained : Type 0 where
  pub before : Cluster
  pub turn : Turn
  pub reasons : List (List ℕ)

-- the lines of an action exactly as its trace has them, followed by a line for each of its reasons
abbrev pub lines_text : List (List ℕ) → ℕ → Line → List (List ℕ) → List ℕ
lines_text sent n line reasons = action_text sent n line ++ flat_map (because_line n) reasons

-- the text of an action, which is empty if the action isn't shown
abbrev pub turn_text : Range → List (List ℕ) → ℕ → Action → Line → List (List ℕ) → List ℕ
turn_text range sent n action line reasons = if is_shown range n (actor_of action) then lines_text sent n line reasons else []

-- the text of these actions, which are numbered from `n` on
abbrev pub turns_text : Range → List (List ℕ) → ℕ → List Explained → List ℕ
turns_text range sent n [] = []
turns_text range sent n (e ∷ es) = turn_text range sent n e.turn.action e.turn.line e.reasons ++ turns_text range sent (n + 1) es

-- the cluster before each of these actions
abbrev pub clusters_from : Cluster → List Action → List Cluster
clusters_from c [] = []
clusters_from c (action ∷ rest) = c ∷ clusters_from (step c action).cluster rest

abbrev pub clusters_before : List Config → List Action → List Cluster
clusters_before configs actions = clusters_from (start configs).cluster actions

-- the cluster after a turn
abbrev pub cluster_after : Explained → Cluster
cluster_after e = (step e.before e.turn.action).cluster

-- the lines of these turns, and the cluster before each of them
abbrev pub lines_written : List Explained → List Line
lines_written done = map (λ (e : Explained). e.turn.line) done

abbrev pub clusters_told : List Explained → List Cluster
clusters_told done = map (λ (e : Explained). e.before) done

-- the cluster before each of the turns `done` and before the turn `e`
abbrev pub clusters_to : List Explained → Explained → List Cluster
clusters_to done e = clusters_told done ++ e.before ∷ []

-- whether the turn `e`, which follows the turns `done`, is shown
abbrev pub shows : Range → List Explained → Explained → Bool
shows range done e = is_shown range (length done + 1) (actor_of e.turn.action)

-- What the reasons of a turn say, after the turns `done`. There is at least one. The first reason of a merge says to
-- what the minimum for events rises, exactly when it is larger after the merge than before it. Then follows one reason
-- for each event that the state carries, in their order. It names the event's slot, and the verdict of the ideal agent
-- that receives the events one after another. It also shows the agent's limits at that point, or the action that handed
-- out an event that was seen. If the disk failed during a merge, the reasons are covered by tests only. They too begin
-- with the minimum for events, if it rises, except for a join of which nothing was processed, because the line of its
-- minimum failed. If a delivered event was seen, the reason names the agent, and an earlier turn that handed the event
-- to it. If there is no such turn and the agent's settings keep events, it says that the agent was opened on a text
-- with the event's line. If a delivered event was ignored for another reason, it shows the agent's limits.
pub record IsReasoned (configs : List Config) (range : Range) (done : List Explained) (e : Explained) : Type 0 where
  pub some : 0 < length e.reasons
  pub merged : e.turn.line.answer ≡ answers.Merged → OfMerge AreMerged (lines_written done) (clusters_to done e) e.before e.turn.action e.reasons
  pub seen : shows range done e ≡ true → e.turn.line.answer ≡ answers.Ignored Seen → OfSeen configs (lines_written done) e.before.sent (cluster_after e) e.turn.action e.reasons
  pub left : (r : Reason) → shows range done e ≡ true → e.turn.line.answer ≡ answers.Ignored r → is_left r ≡ true
      → OfLeftEvent r (clusters_to done e) e.before.sent (cluster_after e) e.turn.action e.reasons

-- each of these turns has reasons of this kind
abbrev pub AreReasoned : List Config → Range → List Explained → List Explained → Type 0
AreReasoned configs range done [] = Unit {0}
AreReasoned configs range done (e ∷ es) = IsReasoned configs range done e × AreReasoned configs range (done ++ e ∷ []) es

-- The turns of a run of agents with these settings, each with the cluster before it and its reasons.
pub record IsExplained (configs : List Config) (range : Range) (turns : List Turn) (clusters : List Cluster) (explained : List Explained) : Type 0 where
  pub turns_are : map (λ (e : Explained). e.turn) explained ≡ turns
  pub clusters_are : map (λ (e : Explained). e.before) explained ≡ clusters
  pub reasons : AreReasoned configs range [] explained

-- The text of the run of these actions: for each action in the range, exactly the lines of its trace, followed by a
-- line for each of its reasons.
pub record TellsRun (range : Range) (configs : List Config) (actions : List Action) (text : List ℕ) : Type 0 where
  pub explained : List Explained
  pub whole : IsExplained configs range (run_of configs actions).turns (clusters_before configs actions) explained
  pub text_is : text ≡ turns_text range (run_of configs actions).cluster.sent 1 explained

-- The input is a schedule of `count` actions, and the text shows its run. What `replay` writes for the input is the
-- trace of this run.
pub record Explains (range : Range) (input text : List ℕ) (count : ℕ) : Type 0 where
  pub schedule : Parsed
  pub reads : schedule_of input ≡ Ok schedule
  pub replayed : output_of input ≡ Ok (trace_text (trace_of (run_of schedule.configs schedule.actions)))
  pub tells : TellsRun range schedule.configs schedule.actions text
  pub counted : count ≡ length schedule.actions

-- The records are those of the events that the lines of a run handed out. The text is that of the run's turns, no
-- matter what else will be sent.
pub record IsWritable (configs : List Config) (range : Range) (r : Run) (clusters : List Cluster) (records : List Record) (text : List ℕ) : Type 0 where
  pub records_are : records ≡ records_from 1 (map (λ t. t.line) r.turns)
  pub explained : List Explained
  pub whole : IsExplained configs range r.turns clusters explained
  pub told : (more : List (List ℕ)) → turns_text range (r.cluster.sent ++ more) 1 explained ≡ text

-- the same for the run of the actions `done`
abbrev pub HasTold : Range → List Config → List Action → List Record → List ℕ → Type 0
HasTold range configs done records text = IsWritable configs range (run_of configs done) (clusters_before configs done) records text

-- The reason for a delivered event that is ignored, from what is remembered of the actions before action number `n`. It
-- names the action that handed the event out, or says that the agent was opened on a text with its line, or shows the
-- agent's limits.
pub record IsIgnored (r : Reason) (past : History) (n : ℕ) (w : WorldState) (a : ℕ) (e : TimedEntry EventBody) (text : List ℕ) : Type 0 where
  pub seen : r ≡ Seen → NamesSeen (records_in past.deliveries.outs.items) (name_at w a) a e.time e.key text
  pub left : (s : ConcreteState) → is_left r ≡ true → agent_at w a ≡ Some s → text ≡ ignored_words (takes_events (numbers_of past.marks a).event_minimum s n) e.time e.key r

-- if an action delivers an event, this is its only reason
abbrev pub OfIgnored : Reason → History → ℕ → WorldState → Action → List (List ℕ) → Type 0
OfIgnored r past n w action reasons = (a : ℕ) (e : TimedEntry EventBody) → event_delivered w.sent action ≡ Some (a, e) → (text : List ℕ) × (reasons ≡ text ∷ []) × IsIgnored r past n w a e text

pub record TellsAll (shown : Bool) (raised : Option ℕ) (carried : List (List ℕ)) (past : History) (n : ℕ) (w : WorldState) (action : Action) (line : Line) (reasons : List (List ℕ)) : Type 0 where
  pub merged : line.answer ≡ answers.Merged → TellsMerged raised carried reasons
  pub ignored : (r : Reason) → shown ≡ true → line.answer ≡ answers.Ignored r → OfIgnored r past n w action reasons

-- a text grew by the lines of an action and of one or more reasons, or by nothing if the action isn't shown
pub record AddsTurn (P : List (List ℕ) → Type 0) (is_shown : Bool) (sent : List (List ℕ)) (n : ℕ) (line : Line) (old new : List ℕ) : Type 0 where
  pub reasons : List (List ℕ)
  pub some : 0 < length reasons
  pub such : P reasons
  pub added : new ≡ old ++ (if is_shown then lines_text sent n line reasons else [])
