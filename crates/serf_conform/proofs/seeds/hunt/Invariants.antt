use Rattle.serf_conform.proofs.Names.{[], ◌-◌, is_serf, Hunts, IsHunting, no_counts}
use Rattle.serf_conform.proofs.seeds.hunt.Given as goal

-- The seeds that are left, with what is left of the input, complete a hunt over all seeds.
abbrev pub invariant-loop-seed : goal.invariant-loop-seed
invariant-loop-seed g l = IsHunting (g.R.Read.remaining l.fn.pipe.reader) (g.R.Read.remaining l.pipe.reader) (g.W.Write.contents l.fn.pipe.writer) (g.W.Write.contents l.pipe.writer)
    (λ input h. Hunts (g.M.ScheduleSource.makes l.fn.schedule_source) (is_serf l.rules) (l.end - l.fn.first) l.fn.first no_counts [] input h)
    (λ w rest h. Hunts (g.M.ScheduleSource.makes l.fn.schedule_source) (is_serf l.rules) (l.end - l.seed) l.seed l.counts w rest h)
