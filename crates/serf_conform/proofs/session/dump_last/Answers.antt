use Rattle.serf_conform.proofs.Names.{is_serf}
use Rattle.serf_conform.proofs.SessionLemmas.{last_concludes}
use Rattle.serf_conform.proofs.session.dump_last.Goals as goal

pub returns : goal.returns
returns g c = λ agent config made w held solo first.
    last_concludes (is_serf c.args.rules) agent config made c.args.action c.args.tally c.in_ok-dump.dump c.in_ok-dumped.dumped c.last_ending.result _ _ held _ _ w
    (c.in_ok-dump.ensures config made solo) c.last_ending.ensures first c.in_ok-dumped.ensures.written c.in_ok-dumped.ensures.outcome
