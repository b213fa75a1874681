-- A run that is summarized turn by turn.
use Rattle.std.specs.Prelude.{◌≡◌, ℕ, List, [], map}
use Rattle.serf_agent.specs.declared.config.Config.{Config}
use Rattle.serf_model.specs.declared.action.Action.{Action}
use Rattle.serf_model.specs.Cluster.{run_of}
use Rattle.serf_replay.specs.Summaries.{IsSummary}
use Rattle.serf_replay.specs.declared.summary.Summary.{Summary}

-- the summary has what the lines of these actions show, and the text is empty
abbrev pub sums_up : Summary → List Config → List Action → List ℕ → Type 0
sums_up summary configs actions text = IsSummary summary (map (λ t. t.line) (run_of configs actions).turns) × (text ≡ [])
