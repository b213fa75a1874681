use Rattle.serf_write.proofs.Names.{[], drop, ◌≡◌, names_from}
use Rattle.serf_write.proofs.filters.names.Given as goal

-- the names so far, and after them the remaining pieces, make up the result
abbrev pub invariant-loop-one : goal.invariant-loop-one
invariant-loop-one l = names_from l.fn.place l.names.items (drop l.one-index l.pieces) ≡ names_from l.fn.place [] l.fn.pieces
