use Rattle.serf_write.proofs.Names.{drop, ◌≡◌, pieces_from, pieces_of}
use Rattle.serf_write.proofs.filters.pieces.Given as goal

-- the pieces so far, and after them the remaining bytes, make up the result
abbrev pub invariant-loop-byte : goal.invariant-loop-byte
invariant-loop-byte l = pieces_from l.pieces.items l.is_quoted l.piece.items (drop l.byte-index l.word) ≡ pieces_of l.fn.word
