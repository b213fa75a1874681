use Rattle.std.proofs.Common.{length, ◌+◌, ◌-◌, ◌^◌, ◌≡◌, ◌≤◌}
use Rattle.std.specs.Prelude.{min}
use Rattle.serf_wire.specs.Lists.{events_left}
use Rattle.serf_run_json.proofs.readable.count_of.Given as goal

-- the events so far and the rest are all events
abbrev pub invariant-loop-event : goal.invariant-loop-event
invariant-loop-event l = record {
  bounded : l.count ≤ 2 ^ 64 - 1;
  all : min (l.count + length (events_left l._event-iterator)) (2 ^ 64 - 1) ≡ min (length (events_left l.fn.events)) (2 ^ 64 - 1);
}
