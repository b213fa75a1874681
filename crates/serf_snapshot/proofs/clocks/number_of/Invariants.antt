use Rattle.serf_snapshot.proofs.Names.{drop, min, ◌-◌, ◌<◌, ◌^◌, ◌≡◌, read_on}
use Rattle.serf_snapshot.proofs.clocks.number_of.Given as goal

abbrev pub invariant-loop-d : goal.invariant-loop-d
invariant-loop-d l = record {
  fits : l.n < 2 ^ 64;
  same : min (read_on l.n (drop l.d-index l.digits)) (2 ^ 64 - 1) ≡ min (read_on 0 l.digits) (2 ^ 64 - 1);
}
