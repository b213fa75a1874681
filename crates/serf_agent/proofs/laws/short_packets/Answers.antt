use Rattle.serf_agent.proofs.WireLaws.{event-not_long, query-not_long, response-not_long, response-short}
use Rattle.serf_agent.proofs.laws.short_packets.Goals as goal

pub returns : goal.returns
returns c = record { event_fits = event-not_long; query_fits = query-not_long; response_fits = response-not_long; texts_short = response-short }
