use Rattle.serf_explain.proofs.Names.{map, take, ◌++◌, ◌≡◌, record_of, records_in}
use Rattle.serf_explain.proofs.deliveries.Deliveries.record_all.Given as goal

abbrev pub invariant-loop-event : goal.invariant-loop-event
invariant-loop-event l = records_in l.self.outs.items ≡ records_in l.fn.self.outs.items ++ map (record_of l.action) (take l.event-index l.line.events)
