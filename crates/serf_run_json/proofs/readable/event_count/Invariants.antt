use Rattle.std.proofs.Common.{◌+◌, ◌-◌, ◌^◌, ◌≡◌, ◌≤◌}
use Rattle.std.specs.Prelude.{min, sum_by}
use Rattle.serf_wire.specs.Lists.{slots_left}
use Rattle.serf_run_json.specs.Readable.{count_in}
use Rattle.serf_run_json.proofs.readable.event_count.Given as goal

-- the events so far and those in the rest of the slots are all events
abbrev pub invariant-loop-slot : goal.invariant-loop-slot
invariant-loop-slot l = record {
  bounded : l.count ≤ 2 ^ 64 - 1;
  all : min (l.count + sum_by count_in (slots_left l.slot-iterator)) (2 ^ 64 - 1) ≡ min (sum_by count_in (slots_left l.fn.slots)) (2 ^ 64 - 1);
}
