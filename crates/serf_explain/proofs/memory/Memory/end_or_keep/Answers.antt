use Rattle.serf_explain.proofs.Names.{sym, ◌∙◌, get, same_moment}
use Rattle.serf_explain.proofs.MemoryLaws.{ended-stays}
use Rattle.serf_explain.proofs.memory.Memory.end_or_keep.Goals as goal

pub returns-then-stays_open-clause-fired_queries : goal.returns-then-stays_open-clause-fired_queries
returns-then-stays_open-clause-fired_queries c = λ m. sym (ended-stays c.args.world.now c.args.agent c.args.ended c.args.moment m (get same_moment c.args.self.now.fired_queries m) (sym c.stays_open.ensures ∙ c.if-stays_open.true))
