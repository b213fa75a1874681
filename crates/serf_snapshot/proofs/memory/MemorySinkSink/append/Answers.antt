use Rattle.serf_snapshot.proofs.Names.{arith, length, rules, ◌≤◌, common_steps, HasFailed}
use Rattle.serf_snapshot.proofs.FailLemmas.{fails-dropped}
use Rattle.serf_snapshot.proofs.memory.MemorySinkSink.append.Goals as goal

pub returns-then-fails-clause-error : goal.returns-then-fails-clause-error
returns-then-fails-clause-error c =
    let counted : HasFailed c.self.inside.failures c.saturating_add-self-inside-then-fails.result = grind (arith, common_steps) in
    let within : c.self.inside.durable ≤ length c.self.inside.bytes.items = search rules in
    rw (← c.self.view_is, c.truncate.ensures.items) (fails-dropped c.self.inside.bytes.items c.self.inside.durable c.self.inside.failures c.saturating_add-self-inside-then-fails.result _ _ _ _ c.args.bytes.now counted within)
