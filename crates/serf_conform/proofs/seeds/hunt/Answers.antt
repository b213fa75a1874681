use Rattle.serf_conform.proofs.Names.{arith, ◌-◌, is_serf}
use Rattle.serf_conform.proofs.HuntLemmas.{hunt_done, next_ends, next_on}
use Rattle.serf_conform.proofs.seeds.hunt.Goals as goal

pub returns-in-Some : goal.returns-in-Some
returns-in-Some g c =
    next_ends (g.M.ScheduleSource.makes c.args.schedule_source.now) (is_serf c.args.rules) _ _ _ _ _ _ _ c.args.end c.loop-seed.seed c.loop-seed.counts _ c.in-Ok.held c.in-Some.other
    (omega arith) c.loop-seed.invariant c.in-Ok.ensures c.in-Some.is c.sum_of-counts.ensures

pub loop-seed-preserved : goal.loop-seed-preserved
loop-seed-preserved g c =
    next_on (g.M.ScheduleSource.makes c.args.schedule_source.now) (is_serf c.args.rules) _ _ _ _ _ _ _ c.args.end c.loop-seed.seed c.loop-seed.counts _ c.in-Ok.held
    (omega arith) c.loop-seed.invariant c.in-Ok.ensures c.in_default.is c.sum_of-counts.ensures

pub returns : goal.returns
returns g c =
    hunt_done (g.M.ScheduleSource.makes c.args.schedule_source.now) (is_serf c.args.rules) _ _ _ _ _ (c.args.end - c.loop-seed.seed) c.loop-seed.seed c.loop-seed.counts
    c.loop-seed.invariant (omega arith)
