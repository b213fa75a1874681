-- How the code represents a run that is written with its reasons: private to the crate.
use Rattle.std.specs.Prelude.{◌≡◌, ℕ, ◌+◌, ◌++◌, List, [], ◌∷◌, length, map}
use Rattle.serf_agent.specs.declared.config.Config.{Config}
use Rattle.serf_model.specs.declared.action.Action.{Action}
use Rattle.serf_model.specs.declared.line.Line.{Line}
use Rattle.serf_model.specs.Cluster.{Run, run_of}
use Rattle.serf_model.specs.Trace.{Turn}
use Rattle.serf_explain.specs.declared.range.Range.{Range}
use Rattle.serf_explain.specs.declared.reasoning.Reasoning.{Reasoning}
use Rattle.serf_explain.specs.Explained.{HasTold, clusters_before}
use Rattle.serf_explain.specs.Deliveries.{records_in}
use Rattle.serf_explain.specs.Judging.{TellsText}
use Rattle.serf_explain.specs.Leaving.{HoldMarks}

-- the text has the actions `done` of agents with these settings, with their reasons, as far as the range shows them
abbrev pub Reasoned : Range → Reasoning → List Config → List Action → List ℕ → Type 0
Reasoned range r configs done text =
    (r.range ≡ range) × HasTold range configs done (records_in r.history.deliveries.outs.items) text × HoldMarks (clusters_before configs done) (run_of configs done).cluster r.history.marks

-- the lines of a run so far
abbrev pub lines_of : Run → List Line
lines_of r = map (λ (t : Turn). t.line) r.turns

-- the same, and the lines for what the next action merges are ready
abbrev pub FoundMerge : Range → Reasoning → List Config → List Action → Action → List ℕ → Type 0
FoundMerge range r configs done action text = Reasoned range r configs done text × TellsText (length done + 1) (lines_of (run_of configs done)) (clusters_before configs done ++ (run_of configs done).cluster ∷ []) (run_of configs done).cluster action r.lines.raised r.lines.text.items
