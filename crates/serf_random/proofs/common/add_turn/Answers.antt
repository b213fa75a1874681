use Rattle.serf_random.proofs.Names.{rules, IfOk-weaker, run_of, IsSayable, GoesOn, MayAdd}
use Rattle.serf_random.proofs.CutLemmas.{IsCommonTurn, may-keep}
use Rattle.serf_random.proofs.common.add_turn.Goals as goal

pub returns-clause-along : goal.returns-clause-along
returns-clause-along c = λ first h.
    let sayable : IsSayable c.args.action = search rules in
    let common : IsCommonTurn c.args.configs.now c.args.action c.in_ok-line.line = search rules in
    let took = c.in_ok-line.ensures.step (run_of c.args.configs.now c.args.kept.now.items).cluster h.view h.representable in
    IfOk-weaker c.add_line.result
    (λ added. MayAdd added c.args.action c.args.text.now.items c.add_line.new.text.items c.args.kept.now.items c.add_line.new.kept.items)
    (λ more. GoesOn more c.args.configs.now first c.add_line.new.text.items c.add_line.new.kept.items c.step.new.self)
    (λ added adds. may-keep c.args.configs.now first c.args.text.now.items c.add_line.new.text.items c.args.kept.now.items c.add_line.new.kept.items c.args.action c.in_ok-line.line c.args.world.now c.step.new.self h sayable common took added adds)
    c.add_line.ensures
