use Rattle.serf_run_json.proofs.Names.{take, ◌++◌, ◌≡◌, flat_map, sent_object}
use Rattle.serf_run_json.proofs.results.write_all_sent.Given as goal

-- the objects of the first packets were written
abbrev pub invariant-loop-packet : goal.invariant-loop-packet
invariant-loop-packet l = l.out.items ≡ l.fn.out.items ++ flat_map (sent_object l.sent l.number) (take l.packet-index l.packets)
