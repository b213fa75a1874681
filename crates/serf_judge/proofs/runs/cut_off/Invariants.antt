use Rattle.serf_judge.proofs.Names.{List, length, map, reverse, ℕ, ◌++◌, ◌≡◌, handed_seen, AreCounted, Run, cut_off_of, run_seen}
use Rattle.serf_judge.proofs.runs.cut_off.Given as goal

-- the lines that are left, followed by those that are counted, of which those that are found were cut off
abbrev pub invariant-runs : goal.invariant-runs
invariant-runs l = (later : List (ℕ × Run)) × (map run_seen l.rest ++ later ≡ map run_seen l.fn.runs) × AreCounted later l.counts × (reverse (map handed_seen l.found.items) ≡ cut_off_of later)

abbrev pub decreases-runs : goal.decreases-runs
decreases-runs l = length l.rest
