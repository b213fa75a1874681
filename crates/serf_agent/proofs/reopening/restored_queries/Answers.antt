use Rattle.serf_agent.proofs.Names.{List, subst, sym, ℕ, ◌+◌, ◌<◌, All, Offer, query_entry}
use Rattle.serf_agent.proofs.RecalledOffers.{offers-below}
use Rattle.serf_agent.proofs.reopening.restored_queries.Goals as goal

pub recalled-requires-clause-times : goal.recalled-requires-clause-times
recalled-requires-clause-times c =
    let last = c.args.last in
    subst (λ (l : List (Offer ℕ)). All (λ offer. offer.time < last + 1) l) (sym c.as_slice.ensures.value)
    (offers-below (λ (id : ℕ). id) query_entry last c.in_ok-offers.offers.items c.args.queries.now c.in_ok-offers.ensures c.requires.times)
