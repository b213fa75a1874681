use Rattle.serf_world.proofs.ResultLaws.{shows-kept}
use Rattle.serf_world.proofs.running.run.Goals as goal

pub returns-clause-promises : goal.returns-clause-promises
returns-clause-promises c =
    let laws = c.run_promises.ensures in
    shows-kept c.turns_shown.ensures laws.promises laws.start c.args.configs.items c.args.actions.now c.run_exactly.result c.read_all_numbers.ensures c.inspect_all.ensures c.run_exactly.ensures
