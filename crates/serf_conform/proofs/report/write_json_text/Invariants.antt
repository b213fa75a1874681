use Rattle.serf_conform.proofs.Names.{take, ◌++◌, ◌≡◌, flat_map, json_byte}
use Rattle.serf_conform.proofs.report.write_json_text.Given as goal

abbrev pub invariant-loop-byte : goal.invariant-loop-byte
invariant-loop-byte l = l.out.items ≡ l.initial.out.items ++ flat_map json_byte (take l.byte-index l.text)
