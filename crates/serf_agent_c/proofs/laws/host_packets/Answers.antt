use Rattle.serf_agent_c.proofs.PacketLaws as packets
use Rattle.serf_agent_c.proofs.laws.host_packets.Goals as goal

laws : goal.After-exact_decoding → packets.Packets
laws c = record { spelled = c.exact_decoding.ensures.spells; canonical = c.canonical_packets.ensures; short = c.short_packets.ensures }

pub returns-clause-events : goal.returns-clause-events
returns-clause-events c = packets.sends_events (laws c) c.host_steps.ensures.steps c.host_promises.ensures.exactly

pub returns-clause-events_in_bursts : goal.returns-clause-events_in_bursts
returns-clause-events_in_bursts c = packets.sends_events_in_bursts (laws c) c.host_steps.ensures.steps c.host_promises.ensures.exactly

pub returns-clause-queries : goal.returns-clause-queries
returns-clause-queries c = packets.sends_queries (laws c) c.host_steps.ensures.steps c.host_promises.ensures.exactly

pub returns-clause-queries_in_bursts : goal.returns-clause-queries_in_bursts
returns-clause-queries_in_bursts c = packets.sends_queries_in_bursts (laws c) c.host_steps.ensures.steps c.host_promises.ensures.exactly
