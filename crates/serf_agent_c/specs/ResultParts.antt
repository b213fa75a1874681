-- What C reads of the agent's last answer.
use Rattle.std.specs.Prelude.{ℕ, List, [], ◌∷◌, Option, Some, None, Ok}
use Rattle.serf_agent.specs.DeliveredQuery.{DeliveredQuery}
use Rattle.serf_agent.specs.declared.open_query.OpenQuery.{OpenQuery}
use Rattle.serf_agent.specs.declared.outcome.EventOut.{EventOut}
use Rattle.serf_agent.specs.declared.outcome.Outcome.TheVariants as outcomes
use Rattle.serf_agent_c.specs.declared.call_result.CallResult.{CallResult}
use Rattle.serf_agent_c.specs.declared.call_result.CallResult.TheVariants.{Kept, Received, Fired, QueryFired, Merged, State, Replied, Closed}

-- the events that are handed out, in order
abbrev pub events_in : CallResult → List EventOut
events_in (Received (Ok (outcomes.Event event))) = event ∷ []
events_in (Fired (Ok fired)) = fired.handed ∷ []
events_in (Merged events error) = events.items
events_in _ = []

-- the query that is handed out
abbrev pub handed_in : CallResult → Option DeliveredQuery
handed_in (Received (Ok (outcomes.Query handed ack rebroadcast))) = handed
handed_in (QueryFired (Ok fired)) = fired.handed
handed_in _ = None

-- the query that was handed out last, as long as it isn't among those that wait; either the last call handed it out, or
-- an earlier one, and there was no memory since then to add it to them
abbrev pub unsettled_in : CallResult → Option DeliveredQuery
unsettled_in (Kept query) = query
unsettled_in call_result = handed_in call_result

-- the packet to send
abbrev pub packet_in : CallResult → Option (List ℕ)
packet_in (Fired (Ok fired)) = Some fired.packet
packet_in (QueryFired (Ok fired)) = Some fired.packet
packet_in (State (Ok packet)) = Some packet
packet_in (Replied (Ok reply)) = Some reply.packet
packet_in _ = None

-- the ack to send for a query that is handed out here
abbrev pub ack_in : CallResult → Option (List ℕ)
ack_in (Received (Ok (outcomes.Query handed ack rebroadcast))) = ack
ack_in (QueryFired (Ok fired)) = fired.ack
ack_in _ = None

-- the queries that were closed, with their times, in the order in which they were fired
abbrev pub closed_in : CallResult → List (ℕ × OpenQuery)
closed_in (Closed queries) = queries.items
closed_in _ = []
