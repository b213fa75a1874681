use Rattle.serf_text.proofs.Names.{masked, take, ◌++◌, ◌≡◌}
use Rattle.serf_text.proofs.quoted.write_masked.Given as goal

-- what was written is the front of the text, masked
abbrev pub invariant-loop-byte : goal.invariant-loop-byte
invariant-loop-byte l = l.out.items ≡ l.fn.out.items ++ masked (take l.byte-index l.text)
