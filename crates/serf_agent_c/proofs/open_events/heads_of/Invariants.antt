use Rattle.serf_agent_c.proofs.Names.{map, take, ◌≡◌}
use Rattle.serf_agent_c.specs.OpenEvents.{open_event_head}
use Rattle.serf_agent_c.proofs.open_events.heads_of.Given as goal

-- the heads of the events so far
abbrev pub invariant-loop-entry : goal.invariant-loop-entry
invariant-loop-entry l = l.heads.items ≡ map open_event_head (take l.entry-index l.fn.events)
