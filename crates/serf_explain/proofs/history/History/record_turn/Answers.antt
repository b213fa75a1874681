use Rattle.serf_explain.proofs.Names.{on_ok_weaker}
use Rattle.serf_explain.proofs.history.History.record_turn.Goals as goal

pub returns-clause-marks : goal.returns-clause-marks
returns-clause-marks c = λ before d hold view count. on_ok_weaker c.record_all.result (λ is. c.in_ok-record_turn-2.ensures before d hold view count) c.record_all.ensures

pub returns-clause-memory : goal.returns-clause-memory
returns-clause-memory c = on_ok_weaker c.record_all.result (λ is. c.in_ok-record_turn.ensures) c.record_all.ensures
