use Rattle.serf_run_json.proofs.Names.{true, all_actions}
use Rattle.serf_run_json.proofs.streaming.ReasonedObjectsTurns.inspect.Goals as goal

pub returns : goal.returns
returns c = λ options configs done lines text told has counted. c.inspect.ensures (all_actions, true) configs done lines text told has counted
