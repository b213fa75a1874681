use Rattle.serf_text.proofs.Names.{take, ◌++◌, ◌≡◌, flat_map, quoted_byte}
use Rattle.serf_text.proofs.quoted.write_quoted_bytes.Given as goal

abbrev pub invariant-loop-byte : goal.invariant-loop-byte
invariant-loop-byte l = l.out.items ≡ l.fn.out.items ++ flat_map quoted_byte (take l.byte-index l.bytes)
