use Rattle.serf_agent.proofs.Names.{List, ap, subst, sym, ◌+◌, ◌<◌, ◌∙◌, All, events_in, queries_in, EntryFilter, KeptQuery, TimedEvent, IsIdShort, IsShort, event_entry, query_entry, within_reach}
use Rattle.serf_agent.proofs.RecalledOffers.{kept-below}
use Rattle.serf_agent.proofs.reopening.read_opening_tracks.Goals as goal

pub restored_events-requires-clause-times : goal.restored_events-requires-clause-times
restored_events-requires-clause-times c =
    let n = c.args.config.now.event_buffer in
    let last = c.read_times-times.result.clocks.event_clock in
    let lowest = c.read_times-times.result.lowest.events in
    let text = c.args.text.now in
    let read = c.as_slice.ensures.value ∙ c.in_ok-kept.ensures.events ∙ ap (λ (w : EntryFilter). events_in w text) c.within_reach-event_reach.ensures in
    subst (λ (l : List TimedEvent). All (λ e. e.time < last + 1) l) (sym read)
    (kept-below event_entry (λ e. IsShort 9216 e.key) last (events_in (within_reach n last lowest) text) (c.kept_text_laws.ensures.events.inside n last lowest text))

pub restored_queries-requires-clause-times : goal.restored_queries-requires-clause-times
restored_queries-requires-clause-times c =
    let n = c.args.config.now.query_buffer in
    let last = c.read_times-times.result.clocks.query_clock in
    let lowest = c.read_times-times.result.lowest.queries in
    let text = c.args.text.now in
    let read = c.as_slice-2.ensures.value ∙ c.in_ok-kept.ensures.queries ∙ ap (λ (w : EntryFilter). queries_in w text) c.within_reach-query_reach.ensures in
    subst (λ (l : List KeptQuery). All (λ e. e.time < last + 1) l) (sym read)
    (kept-below query_entry (λ e. IsIdShort 9216 e.key) last (queries_in (within_reach n last lowest) text) (c.kept_text_laws.ensures.queries.inside n last lowest text))
