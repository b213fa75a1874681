-- The objects of a run.
use Rattle.std.specs.Prelude.{◌≡◌, ℕ, ◌+◌, ◌++◌, ◌==◌, Bool, false, if◌then◌else◌, List, [], ◌∷◌, Ok, codes, length}
use Rattle.std.specs.List.{flat_map}
use Rattle.serf_agent.specs.declared.config.Config.{Config}
use Rattle.serf_explain.specs.declared.range.Range.{Range}
use Rattle.serf_explain.specs.Range.{is_shown}
use Rattle.serf_json.specs.Object.{object_text}
use Rattle.serf_model.specs.declared.action.Action.{Action}
use Rattle.serf_model.specs.declared.line.Line.{Line}
use Rattle.serf_model.specs.Cluster.{Cluster, start, step}
use Rattle.serf_model.specs.Trace.{actor_of}
use Rattle.serf_schedule.specs.Line.{Parsed}
use Rattle.serf_schedule.specs.Schedule.{schedule_of}
use Rattle.serf_run_json.specs.Members.{settings_in}
use Rattle.serf_run_json.specs.Results.{results_text}
use Rattle.serf_run_json.specs.Settings.{agents_text}

-- What explains an action: the members of the objects of its reasons, and of the state of the agent that acted.
pub record Explanation : Type 0 where
  pub reasons : List (List ℕ)
  pub states : List (List ℕ)

abbrev pub no_explanation : Explanation
no_explanation = record { reasons = []; states = [] }

abbrev pub explanation_text : Explanation → List ℕ
explanation_text e = flat_map (object_text (codes "reason")) e.reasons ++ flat_map (object_text (codes "state")) e.states

-- objects of a kind were appended to a text
pub record AddsObjects (kind old new : List ℕ) : Type 0 where
  pub members : List (List ℕ)
  pub added : new ≡ old ++ flat_map (object_text kind) members

-- an action's explanation was appended to a text, if the action is shown
pub record AddsExplanation (is_shown : Bool) (old new : List ℕ) : Type 0 where
  pub explanation : Explanation
  pub added : new ≡ old ++ (if is_shown then explanation_text explanation else [])

-- The objects of action number `n`, after which the agents have these settings and these packets were sent. Before the
-- first action there are those of the settings, even if the action isn't in the range.
abbrev pub turn_text : Range → ℕ → List Config → List (List ℕ) → Action → Line → Explanation → List ℕ
turn_text range n settings sent action line e =
    (if n == 1 then agents_text 0 settings else [])
    ++ (if is_shown range n (actor_of action) then results_text settings sent n action line ++ explanation_text e else [])

-- The text has the objects of these actions, which a cluster does one after another, and which are numbered from `n`
-- on. Unless reasons are requested (`explains`), there are no explanations.
abbrev pub TellsFrom : Range → Bool → ℕ → Cluster → List Action → List ℕ → Type 0
TellsFrom range explains n c [] text = text ≡ []
TellsFrom range explains n c (action ∷ actions) text =
    (e : Explanation) × (rest : List ℕ) × (explains ≡ false → e ≡ no_explanation)
    × (text ≡ turn_text range n (settings_in (step c action).cluster) (step c action).cluster.sent action (step c action).turn.line e ++ rest)
    × TellsFrom range explains (n + 1) (step c action).cluster actions rest

-- the text has the objects of the run of these actions, by agents with these settings
abbrev pub TellsObjects : Range → Bool → List Config → List Action → List ℕ → Type 0
TellsObjects range explains configs actions text = TellsFrom range explains 1 (start configs).cluster actions text

-- the input is a schedule of `count` actions, and the text has the objects of its run
pub record ReportsObjects (range : Range) (explains : Bool) (input text : List ℕ) (count : ℕ) : Type 0 where
  pub schedule : Parsed
  pub reads : schedule_of input ≡ Ok schedule
  pub tells : TellsObjects range explains schedule.configs schedule.actions text
  pub counted : count ≡ length schedule.actions
