-- The result of a run.
use Rattle.std.specs.Prelude.{◌≡◌, ◌<◌, ◌≤◌, ◌⊎◌, ℕ, ◌++◌, Bool, true, if◌then◌else◌, not, List, [], ◌∷◌, length, take, position, Option, Some, None, Result, Ok, Err}
use Rattle.std.specs.List.{AllByRecursion, list_any}
use Rattle.std.specs.Str.{bytes_eq}
use Rattle.serf_agent.specs.declared.config.Config.{Config}
use Rattle.serf_agent.specs.Config.{is_sound}
use Rattle.serf_model.specs.declared.action.Action.{Action}
use Rattle.serf_model.specs.declared.error.NewError.{NewError}
use Rattle.serf_model.specs.declared.error.NewError.TheVariants as news
use Rattle.serf_model.specs.declared.error.RunError.{RunError}
use Rattle.serf_model.specs.declared.error.RunError.TheVariants as runs
use Rattle.serf_model.specs.declared.trace.Trace.{Trace}
use Rattle.serf_model.specs.Cluster.{run_of, trace_of}
use Rattle.serf_model.specs.Kept.{KeepsPromises}
use Rattle.serf_model.specs.Trace.{Outcome, outcome_of, turns_of}

-- whether one of these agents has this name
abbrev pub has_name : List Config → List ℕ → Bool
has_name configs name = list_any (λ c. bytes_eq c.name name) configs

-- the number of the first agent that has an earlier agent's name, if `before` are the agents that were compared already
abbrev pub twice_after : List Config → List Config → Option ℕ
twice_after before [] = None
twice_after before (c ∷ cs) = if has_name before c.name then Some (length before) else twice_after (before ++ c ∷ []) cs

abbrev pub first_twice : List Config → Option ℕ
first_twice configs = twice_after [] configs

-- the number of the first agent whose settings are out of bounds
abbrev pub first_bad : List Config → Option ℕ
first_bad configs = position (λ c. not (is_sound c)) configs

-- these agents can make a cluster
pub record AreConfigs (configs : List Config) : Type 0 where
  pub names : first_twice configs ≡ None
  pub sound : first_bad configs ≡ None

-- the settings don't allow a query that is longer than a packet can be
abbrev pub HasShortQueries : Config → Type 0
HasShortQueries c = c.query_limit ≤ 9216

-- if none of the settings is bad, each of them is sound
abbrev pub NoneBadIsSound : Type 0
NoneBadIsSound = (configs : List Config) → first_bad configs ≡ None → AllByRecursion (λ c. is_sound c ≡ true) configs

-- why a cluster can't be made
abbrev pub IsNewError : List Config → NewError → Type 0
IsNewError configs (news.NameTwice n) = first_twice configs ≡ Some n
IsNewError configs (news.BadConfig n) = (first_twice configs ≡ None) × (first_bad configs ≡ Some n)
IsNewError configs news.OutOfMemory = Unit {0}

-- The trace is that of the run. An error names the first agent with this error. If memory ran out, the trace is that of
-- the actions that were done before: either none, or some but not all.
abbrev pub IsRun : List Config → List Action → Result Trace RunError → Type 0
IsRun configs actions (Ok trace) = AreConfigs configs × (outcome_of trace ≡ trace_of (run_of configs actions))
IsRun configs actions (Err (runs.NameTwice n)) = first_twice configs ≡ Some n
IsRun configs actions (Err (runs.BadConfig n)) = (first_twice configs ≡ None) × (first_bad configs ≡ Some n)
IsRun configs actions (Err (runs.OutOfMemory trace)) =
    (n : ℕ) × ((n ≡ 0) ⊎ (n < length actions)) × ((n ≡ 0) ⊎ AreConfigs configs) × (outcome_of trace ≡ trace_of (run_of configs (take n actions)))

-- A trace is that of the first few of these actions. The turns that the actions and the trace show are the turns of the
-- run of these actions, and this run keeps all promises.
pub record ShowsRun (configs : List Config) (actions : List Action) (trace : Outcome) : Type 0 where
  pub count : ℕ
  pub trace_is : trace ≡ trace_of (run_of configs (take count actions))
  pub turns : turns_of actions trace ≡ (run_of configs (take count actions)).turns
  pub keeps : KeepsPromises configs (run_of configs (take count actions))

-- each trace that a run returns shows a run that keeps all promises
abbrev pub ShowsKept : List Config → List Action → Result Trace RunError → Type 0
ShowsKept configs actions (Ok trace) = ShowsRun configs actions (outcome_of trace)
ShowsKept configs actions (Err (runs.OutOfMemory trace)) = ShowsRun configs actions (outcome_of trace)
ShowsKept configs actions (Err _) = Unit {0}
