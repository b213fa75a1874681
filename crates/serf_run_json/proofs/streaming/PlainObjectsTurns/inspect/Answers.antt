use Rattle.serf_run_json.proofs.Names.{false, all_actions}
use Rattle.serf_run_json.proofs.streaming.PlainObjectsTurns.inspect.Goals as goal

pub returns : goal.returns
returns c = λ options configs done lines text told has counted. c.inspect.ensures (all_actions, false) configs done lines text told has counted
