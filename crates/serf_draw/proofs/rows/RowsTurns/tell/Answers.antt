use Rattle.serf_draw.proofs.Names.{ap, subst, sym, ◌+◌, ◌∙◌, ◌≡◌, fold_push, on_ok_weaker, Cluster, step, TakesStep, Drawing, IsDrawn, blank, drawing_of, drawn, IsFound, DrawOptions}
use Rattle.serf_draw.proofs.RowLaws.{cluster-drawn, count-drawn}
use Rattle.serf_draw.proofs.rows.RowsTurns.tell.Goals as goal

pub returns : goal.returns
returns c = λ options configs done lines front saw h took counted.
    let self = c.args.self.now in
    let action = c.args.action.now in
    let d : Drawing = drawing_of options configs done in
    let same : self.options.now ≡ options = saw.0.0 in
    let cluster = sym (cluster-drawn options configs done) in
    let number : c.args.number ≡ d.count + 1 = counted ∙ ap (λ n. n + 1) (sym (count-drawn options configs done)) in
    let found = subst (λ (q : DrawOptions). IsFound q d.cluster self.packets.items action c.args.found) (sym same) (subst (λ (x : Cluster). IsFound options x self.packets.items action c.args.found) cluster saw.1) in
    let takes = subst (λ (x : Cluster). TakesStep (step x action) c.args.world.now c.args.line) cluster took in
    on_ok_weaker c.add_turn.result
    (λ is. (
      ap (λ q. q.now) c.add_turn.ensures.options ∙ same,
      subst (λ (x : Drawing). IsDrawn x c.add_turn.new.self.packets.items c.add_turn.new.self.rows.items) (sym (fold_push (drawn options) (blank configs) done action))
          (subst (λ (q : DrawOptions). IsDrawn (drawn q d action) c.add_turn.new.self.packets.items c.add_turn.new.self.rows.items) same is),
    ))
    (c.add_turn.ensures.drawn d saw.0.1 found takes number)
