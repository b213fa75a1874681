use Rattle.serf_agent_c.proofs.Names.{flat_map, take, ◌≡◌}
use Rattle.serf_agent_c.specs.OpenEvents.{open_event_text}
use Rattle.serf_agent_c.proofs.open_events.texts_of.Given as goal

-- the texts of the events so far
abbrev pub invariant-loop-entry : goal.invariant-loop-entry
invariant-loop-entry l = l.texts.items ≡ flat_map open_event_text (take l.entry-index l.fn.events)
