-- What C reads of a session.
use Rattle.std.specs.Prelude.{◌≢◌, ◌<◌, ◌↔◌, filter, ◌≡◌, ℕ, Bool, true, false, length, [], Option, Some, None, Ok}
use Rattle.serf_agent.specs.DeliveredQuery.{DeliveredQuery}
use Rattle.serf_agent.specs.declared.outcome.EventOut.{EventOut}
use Rattle.serf_agent.specs.declared.outcome.Reason.{Reason}
use Rattle.serf_agent.specs.declared.outcome.Reason.TheVariants as reasons
use Rattle.serf_agent.specs.declared.outcome.Outcome.{Outcome}
use Rattle.serf_agent.specs.declared.outcome.Outcome.TheVariants as outcomes
use Rattle.serf_agent.specs.Queries.{is_due}
use Rattle.serf_agent.specs.View.{ConcreteState}
use Rattle.serf_agent_c.specs.declared.code.Code.{Code}
use Rattle.serf_agent_c.specs.declared.code.Code.TheVariants.{Done, Pending, Nothing, NotPending}
use Rattle.serf_agent_c.specs.declared.call_result.CallResult.{CallResult}
use Rattle.serf_agent_c.specs.declared.call_result.CallResult.TheVariants as call_results
use Rattle.serf_agent_c.specs.declared.heads.EventHead.{EventHead}
use Rattle.serf_agent_c.specs.declared.heads.PendingQueryHead.{PendingQueryHead}
use Rattle.serf_agent_c.specs.declared.heads.ClocksHead.{ClocksHead}
use Rattle.serf_agent_c.specs.ResultParts.{ack_in, closed_in, events_in, handed_in, packet_in}

-- C can read something if it is there, as soon as the host's file has all of the agent's text.
abbrev pub ReadsAs : {A : Type 0} → Bool → Option A → (A → Type 0) → Code → Type 0
ReadsAs false found P code = code ≡ Pending
ReadsAs true None P code = code ≡ Nothing
ReadsAs true (Some x) P code = (code ≡ Done) × P x

-- C reads a query that was handed out by its number, as long as it isn't answered.
abbrev pub ReadsQuery : Bool → Option DeliveredQuery → (DeliveredQuery → Type 0) → Code → Type 0
ReadsQuery false found P code = code ≡ Pending
ReadsQuery true None P code = code ≡ NotPending
ReadsQuery true (Some q) P code = (code ≡ Done) × P q

-- The first of the open queries is due after the deadline. There is no deadline if no query is ever due.
abbrev pub TellsDeadline : ConcreteState → ℕ → Code → Type 0
TellsDeadline a deadline code =
    (code ≢ Done → code ≡ Nothing)
    × ((now : ℕ) → ((code ≡ Done) × (deadline < now)) ↔ (0 < length (filter (is_due now) a.fired_queries)))

abbrev pub event_head : EventOut → EventHead
event_head o = record { time = o.time; name_len = length o.name; payload_len = length o.payload; coalesce = o.coalesce }

abbrev pub pending_query_head : DeliveredQuery → PendingQueryHead
pending_query_head q =
    record {
      time = q.time;
      deadline = q.deadline;
      name_len = length q.name;
      payload_len = length q.payload;
      source_len = length q.source;
      addr_len = length q.addr;
      id = q.id;
      port = q.port;
      relay_factor = q.relay_factor;
    }

abbrev pub clocks_head : ConcreteState → ClocksHead
clocks_head a = record { member = a.member_clock; event = a.events.clock; query = a.queries.clock; event_minimum = a.events.minimum; query_minimum = a.queries.minimum }

-- the numbers of `enum serf_agent_kind`
abbrev pub outcome_kind : Outcome → ℕ
outcome_kind (outcomes.Event event) = 1
outcome_kind (outcomes.Query handed ack rebroadcast) = 2
outcome_kind outcomes.Ack = 3
outcome_kind outcomes.Response = 4
outcome_kind (outcomes.Ignored reason) = 5
outcome_kind (outcomes.Foreign type) = 6
outcome_kind outcomes.PushPull = 7

abbrev pub kind_of : CallResult → ℕ
kind_of (call_results.Received (Ok outcome)) = outcome_kind outcome
kind_of (call_results.Fired (Ok fired)) = 8
kind_of (call_results.QueryFired (Ok fired)) = 9
kind_of (call_results.Merged events error) = 10
kind_of (call_results.State (Ok packet)) = 11
kind_of (call_results.Replied (Ok reply)) = 12
kind_of (call_results.Closed queries) = 13
kind_of _ = 0

-- the numbers of `enum serf_agent_reason`
abbrev pub reason_number : Reason → ℕ
reason_number reasons.Oversize = 1
reason_number reasons.BelowMinimum = 2
reason_number reasons.TooOld = 3
reason_number reasons.Seen = 4
reason_number reasons.TimeFull = 5
reason_number reasons.NotOpen = 6
reason_number reasons.OtherId = 7
reason_number reasons.Closed = 8
reason_number reasons.AckNotRequested = 9
reason_number reasons.AckTwice = 10
reason_number reasons.ResponseTwice = 11

-- why the last packet was ignored, the type of a foreign message, and whether to send the packet on; 0 and false for
-- all other results
abbrev pub reason_of : CallResult → ℕ
reason_of (call_results.Received (Ok (outcomes.Ignored reason))) = reason_number reason
reason_of _ = 0

abbrev pub foreign_of : CallResult → ℕ
foreign_of (call_results.Received (Ok (outcomes.Foreign type))) = type
foreign_of _ = 0

abbrev pub rebroadcast_of : CallResult → Bool
rebroadcast_of (call_results.Received (Ok (outcomes.Event event))) = true
rebroadcast_of (call_results.Received (Ok (outcomes.Query handed ack rebroadcast))) = rebroadcast
rebroadcast_of _ = false

-- C reads `SERF_AGENT_RESULT_NOTHING`, and no event, query, packet, ack or closed query.
pub record GivesNothing (g : CallResult) : Type 0 where
  pub kind : kind_of g ≡ 0
  pub events : events_in g ≡ []
  pub handed : handed_in g ≡ None
  pub packet : packet_in g ≡ None
  pub ack : ack_in g ≡ None
  pub closed : closed_in g ≡ []
