use Rattle.std.proofs.Common.{take, ◌++◌, ◌≡◌}
use Rattle.std.specs.List.{flat_map}
use Rattle.serf_run_json.specs.Members.{settings_of}
use Rattle.serf_run_json.specs.Readable.{event_line}
use Rattle.serf_run_json.proofs.readable.write_event_lines.Given as goal

-- the lines so far
abbrev pub invariant-loop-event : goal.invariant-loop-event
invariant-loop-event l = l.out.items ≡ l.fn.out.items ++ flat_map (event_line (settings_of l.world) l.number) (take l.event-index l.events)
