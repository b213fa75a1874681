use Rattle.serf_text.proofs.Names.{take, ◌++◌, ◌≡◌, flat_map, byte_text}
use Rattle.serf_text.proofs.quoted.write_printable.Given as goal

abbrev pub invariant-loop-byte : goal.invariant-loop-byte
invariant-loop-byte l = l.out.items ≡ l.fn.out.items ++ flat_map byte_text (take l.byte-index l.text)
