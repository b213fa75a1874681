use Rattle.serf_world.proofs.Names.{drop, take, ◌≡◌, first_twice, twice_after, AreNames}
use Rattle.serf_world.proofs.roster.Roster.from_vec.Given as goal

-- the names of the agents so far; the agents that are left decide the result
abbrev pub invariant-loop-number : goal.invariant-loop-number
invariant-loop-number l = AreNames l.names (take l.number l.fn.configs.items)
    × (twice_after (take l.number l.fn.configs.items) (drop l.number l.fn.configs.items) ≡ first_twice l.fn.configs.items)
