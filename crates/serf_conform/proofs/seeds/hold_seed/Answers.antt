use Rattle.serf_conform.proofs.Names.{parsed_of, is_serf}
use Rattle.serf_conform.proofs.HuntLemmas.{holds_seed}
use Rattle.serf_conform.proofs.seeds.hold_seed.Goals as goal

pub returns : goal.returns
returns g c =
    holds_seed (g.M.ScheduleSource.makes c.args.schedule_source.now c.args.seed) (is_serf c.args.rules) _ _ _ _ (parsed_of c.in_ok-schedule.schedule) c.hold_each.result c.in_ok-schedule.ensures
    (c.hold_each.ensures (parsed_of c.in_ok-schedule.schedule) c.in_ok-case.ensures)
