use Rattle.serf_draw.proofs.Names.{subst, IfOk-weaker, run_of, IsFound, DrawOptions}
use Rattle.serf_draw.proofs.rows.RowsTurns.inspect.Goals as goal

pub returns : goal.returns
returns c = λ options configs done lines text told h counted.
    let self = c.args.self.now in
    let cluster = (run_of configs done).cluster in
    IfOk-weaker c.find.result _ _
    (λ found is. (told, subst (λ (q : DrawOptions). IsFound q cluster self.packets.items c.args.action.now found) told.0 is))
    (c.find.ensures cluster h.view)
