use Rattle.serf_judge.proofs.Names.{map, take, handed_seen, AreTallied}
use Rattle.serf_judge.proofs.tally.table_of.Given as goal

abbrev pub invariant-loop-line : goal.invariant-loop-line
invariant-loop-line l = AreTallied (map handed_seen (take l.line-index l.lines)) l.table
