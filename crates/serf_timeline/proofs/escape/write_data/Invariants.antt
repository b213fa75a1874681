use Rattle.serf_timeline.proofs.Names.{take, ◌++◌, ◌≡◌, flat_map, data_byte}
use Rattle.serf_timeline.proofs.escape.write_data.Given as goal

-- the front of the objects was written
abbrev pub invariant-loop-byte : goal.invariant-loop-byte
invariant-loop-byte l = l.out.items ≡ l.fn.out.items ++ flat_map data_byte (take l.byte-index l.objects)
