use Rattle.serf_explain.proofs.Names.{List, [], ap, filter, get_or, subst, sym, take, take_all, ◌++◌, ◌+◌, ◌∙◌, ◌∷◌, ◌≡◌, take_more, get, ended_among, same_moment, stays_open, Moment}
use Rattle.serf_explain.proofs.MemoryLaws.{ended-more, pending-more}
use Rattle.serf_explain.proofs.memory.Memory.end_queries.Goals as goal

pub loop-moment-preserved : goal.loop-moment-preserved
loop-moment-preserved c =
    let w = c.args.world.now in
    let a = c.args.agent in
    let e = c.args.ended in
    let moments : List Moment = c.as_slice-moments.result.now in
    let i = c.loop-moment.moment-index in
    let none : Moment = record { agent = 0; time = 0 } in
    let k : Moment = get_or moments i none in
    let first = c.args.self.now in
    let old = c.loop-moment.self in
    let new = c.end_or_keep.new.self in
    let more : take (i + 1) moments ≡ take i moments ++ k ∷ [] = take_more moments i none c.loop-moment-test.true in
    let ends = c.in_ok-end_or_keep.ensures in
    record {
      entered = ends.entered ∙ c.loop-moment.invariant.entered;
      fired_queries = λ m. subst (λ (ks : List Moment). get same_moment new.fired_queries m ≡ ended_among w a e ks m (get same_moment first.fired_queries m)) (sym more)
          (ended-more w a e (take i moments) k m (get same_moment first.fired_queries m) (get same_moment old.fired_queries m) (get same_moment new.fired_queries m) (c.loop-moment.invariant.fired_queries m) (ends.fired_queries m));
      pending = subst (λ (ks : List Moment). new.pending.items ≡ filter (stays_open w a) ks) (sym more)
          (pending-more w a (take i moments) k old.pending.items new.pending.items c.loop-moment.invariant.pending ends.pending);
    }
