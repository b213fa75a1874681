use Rattle.serf_text.proofs.Names.{length, take, ◌-◌, ◌≤◌, Appends}
use Rattle.serf_text.proofs.put.write_output.Given as goal

-- what was written so far is a prefix of the text
abbrev pub invariant-loop-at : goal.invariant-loop-at
invariant-loop-at g l = (l.at ≤ length l.text)
    × Appends (g.W.Write.contents l.fn.writer) (g.W.Write.contents l.writer) (take l.at l.text)

abbrev pub decreases-loop-at : goal.decreases-loop-at
decreases-loop-at g l = length l.text - l.at
