use Rattle.serf_world.proofs.Names.{[], ◌++◌, ◌∷◌, on_ok_weaker, run_of}
use Rattle.serf_world.proofs.turns.act.Goals as goal

pub returns : goal.returns
returns g c = λ options configs done lines front h told number.
    let seen = c.in_ok-seen.ensures options configs done lines (front ++ c.args.out.now.items) told h number in
    let now = c.in_ok-line.ensures.done configs done lines h in
    let stepped = c.in_ok-line.ensures.step (run_of configs done).cluster h.view h.representable in
    on_ok_weaker c.tell.result
    (λ t. record { lines = lines ++ c.in_ok-line.line ∷ []; done = now; tells = t })
    (c.tell.ensures options configs done (lines ++ c.in_ok-line.line ∷ []) front seen now stepped number)
