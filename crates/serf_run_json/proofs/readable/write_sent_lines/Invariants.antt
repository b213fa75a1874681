use Rattle.std.proofs.Common.{take, ◌++◌, ◌≡◌}
use Rattle.std.specs.List.{flat_map}
use Rattle.serf_run_json.specs.Readable.{sent_line}
use Rattle.serf_run_json.proofs.readable.write_sent_lines.Given as goal

-- the lines so far
abbrev pub invariant-loop-packet : goal.invariant-loop-packet
invariant-loop-packet l = l.out.items ≡ l.fn.out.items ++ flat_map (sent_line l.world.sent l.number) (take l.packet-index l.packets)
