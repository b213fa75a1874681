use Rattle.serf_agent.proofs.Names.{map, take, ◌≡◌, entries_offered, event_of, event_entry}
use Rattle.serf_agent.proofs.reopening.event_offers.Given as goal

abbrev pub invariant-loop-event : goal.invariant-loop-event
invariant-loop-event l = entries_offered (λ e. event_of e.name.now e.payload.now) l.offers.items ≡ map event_entry (take l.event-index l.events)
