use Rattle.serf_agent.proofs.Names.{List, subst, sym, ◌+◌, ◌<◌, All, EventView, event_of, Offer, event_entry}
use Rattle.serf_agent.proofs.RecalledOffers.{offers-below}
use Rattle.serf_agent.proofs.reopening.restored_events.Goals as goal

pub recalled-requires-clause-times : goal.recalled-requires-clause-times
recalled-requires-clause-times c =
    let last = c.args.last in
    subst (λ (l : List (Offer EventView)). All (λ offer. offer.time < last + 1) l) (sym c.as_slice.ensures.value)
    (offers-below (λ (e : EventView). event_of e.name.now e.payload.now) event_entry last c.in_ok-offers.offers.items c.args.events.now c.in_ok-offers.ensures c.requires.times)
