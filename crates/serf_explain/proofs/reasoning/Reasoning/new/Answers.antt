use Rattle.serf_explain.proofs.Names.{refl, records_in}
use Rattle.serf_explain.proofs.MarkLaws.{hold-first}
use Rattle.serf_explain.proofs.TellLaws.{told-first}
use Rattle.serf_explain.proofs.reasoning.Reasoning.new.Goals as goal

pub returns : goal.returns
returns c = λ configs. (refl, told-first c.args.range configs (records_in c.new.result.deliveries.outs.items) c.new.ensures.records, hold-first configs c.new.result.marks c.new.ensures.marks)
