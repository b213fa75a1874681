use Rattle.serf_agent_c.proofs.Names.{map, ◌++◌, ◌≡◌, texts_left, left_head}
use Rattle.serf_agent_c.proofs.state_members.write_left_heads.Given as goal

-- what was written so far, followed by what is left
abbrev pub invariant-loop-name : goal.invariant-loop-name
invariant-loop-name l = l.out.items ++ map left_head (texts_left l.name-iterator) ≡ l.fn.out.items ++ map left_head (texts_left l.fn.left)
