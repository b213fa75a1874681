use Rattle.serf_timeline.proofs.Names.{take, ◌++◌, ◌≡◌, flat_map, address_byte}
use Rattle.serf_timeline.proofs.escape.write_address.Given as goal

-- the front of the file was written
abbrev pub invariant-loop-byte : goal.invariant-loop-byte
invariant-loop-byte l = l.out.items ≡ l.fn.out.items ++ flat_map address_byte (take l.byte-index l.file)
