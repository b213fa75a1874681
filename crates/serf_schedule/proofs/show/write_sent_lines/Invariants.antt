use Rattle.serf_schedule.proofs.Names.{take, ◌++◌, ◌≡◌, flat_map, sent_line}
use Rattle.serf_schedule.proofs.show.write_sent_lines.Given as goal

abbrev pub invariant-loop-k : goal.invariant-loop-k
invariant-loop-k l = l.out.items ≡ l.fn.out.items ++ flat_map (sent_line l.sent l.action.number) (take l.k-index l.packets)
