use Rattle.std.specs.Prelude.{false}
use Rattle.serf_model.proofs.Names.{admission}
use Rattle.serf_model.proofs.InvariantKept.{hears-on, runs-on, times-spelled}
use Rattle.serf_model.proofs.MergedAgents.{heard-representable, received-representable}
use Rattle.serf_model.proofs.laws.merged_agents.Goals as goal

pub returns : goal.returns
returns c = record {
  hears = (heard-representable c.laws_below.ensures);
  hears_on = hears-on;
  times = (times-spelled c.laws_below.ensures);
  received = (received-representable c.laws_below.ensures);
  goes_on = λ i e outcome runs is. runs-on i e.time e.key false (admission i e.time e.key) outcome runs is;
}
