use Rattle.serf_write.proofs.Names.{drop, ◌≡◌, tokens_from, tokens_of}
use Rattle.serf_write.proofs.scanner.tokens.Given as goal

-- the line so far, and after it the remaining bytes, make up the result
abbrev pub invariant-loop-byte : goal.invariant-loop-byte
invariant-loop-byte l = tokens_from l.scanner (drop l.byte-index l.bytes) ≡ tokens_of l.fn.line
