use Rattle.serf_json.proofs.Names.{take, ◌++◌, ◌≡◌, flat_map, json_byte}
use Rattle.serf_json.proofs.text.write_text.Given as goal

-- the front of the text was written
abbrev pub invariant-loop-byte : goal.invariant-loop-byte
invariant-loop-byte l = l.out.items ≡ l.initial.out.items ++ flat_map json_byte (take l.byte-index l.text)
