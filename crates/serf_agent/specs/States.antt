-- What the ideal agent does with the whole states that agents exchange (Serf's internals page, "Lamport Clocks";
-- `delegate.go`, `LocalState` and `MergeRemoteState`), with its member clock's line, and with a compaction.
use Rattle.std.specs.Prelude.{◌≡◌, ℕ, ◌-◌, ◌&&◌, max, Bool, false, if◌then◌else◌, List, [], ◌∷◌, ◌++◌, ◌⊎◌, map, Option, Some, None, Result, Ok, Err}
use Rattle.serf_wire.specs.declared.error.WireError.{WireError}
use Rattle.serf_wire.specs.declared.texts.EventBody.{EventBody}
use Rattle.serf_wire.specs.Canonical.{canonical, has_long}
use Rattle.serf_wire.specs.Message.{Message, PushPull, push_pull}
use Rattle.serf_wire.specs.Slots.{SlotContent, empty, held}
use Rattle.serf_window.specs.Window.{TimedEntry, SlotOf}
use Rattle.serf_snapshot.specs.declared.kind.ClockKind.TheVariants as kinds
use Rattle.serf_snapshot.specs.declared.snapshot.AppendLineError.{AppendLineError}
use Rattle.serf_snapshot.specs.declared.snapshot.AppendLineError.TheVariants as notes
use Rattle.serf_snapshot.specs.Device.{Device}
use Rattle.serf_snapshot.specs.EventLines.{min_line}
use Rattle.serf_snapshot.specs.AppendsLine.{SnapshotView, Kept}
use Rattle.serf_agent.specs.declared.config.Config.{Config}
use Rattle.serf_agent.specs.declared.outcome.EventOut.{EventOut}
use Rattle.serf_agent.specs.declared.outcome.Outcome.{Outcome}
use Rattle.serf_agent.specs.declared.outcome.Outcome.TheVariants.{Event}
use Rattle.serf_agent.specs.declared.outcome.ReceiveError.{ReceiveError}
use Rattle.serf_agent.specs.declared.outcome.ReceiveError.TheVariants.{SinkError}
use Rattle.serf_agent.specs.declared.outcome.MergeError.{MergeError}
use Rattle.serf_agent.specs.declared.outcome.MergeError.TheVariants as merges
use Rattle.serf_agent.specs.declared.outcome.PushPullError.{PushPullError}
use Rattle.serf_agent.specs.declared.outcome.PushPullError.TheVariants as states
use Rattle.serf_agent.specs.Ideal.{IdealAgent}
use Rattle.serf_agent.specs.KeptLines.{kept_lines}
use Rattle.serf_agent.specs.Tracks.{track_raised}
use Rattle.serf_agent.specs.Calls.{Call, Ends, AppendsLine, Replaces, MayEnd, AsksSink, answers, ended}
use Rattle.serf_agent.specs.Devices.{device_after}
use Rattle.serf_agent.specs.Events.{receive_event}
use Rattle.serf_agent.specs.Sound.{IsSound}
use Rattle.serf_agent.specs.Steps.{Steps}
use Rattle.serf_agent.specs.View.{AgentState, ConcreteState, view_of}

-- Sending

-- a slot as a push/pull carries it
abbrev pub slot_sent : SlotOf EventBody → SlotContent
slot_sent s = held s.time s.held

-- the whole state of an agent that stores this, with these status times and members that left
abbrev pub state_of : ConcreteState → List (List ℕ × ℕ) → List (List ℕ) → PushPull
state_of a status left =
    record { member_clock = a.member_clock; status = status; left = left; event_clock = a.events.clock; slots = map slot_sent a.events.slots; query_clock = a.queries.clock }

-- what an agent sends of its state; the agent doesn't change
abbrev pub send_state : ConcreteState → List (List ℕ × ℕ) → List (List ℕ) → Result (List ℕ) PushPullError
send_state a status left =
    if a.snapshot.stopped then Err states.Stopped else
    if has_long (push_pull (state_of a status left)) then Err states.TooLong else
    Ok (canonical (push_pull (state_of a status left)))

-- Receiving

-- The agent after it has merged the clocks of another agent: its own clocks become at least these. If it joins and its
-- settings ignore old events, its minimum time of events becomes at least the other's event clock.
abbrev pub joined : PushPull → Bool → IdealAgent → IdealAgent
joined m is_join i =
    record {
      config = i.config;
      life = i.life;
      member_clock = max i.member_clock m.member_clock;
      events = track_raised m.event_clock (if is_join && i.config.ignore_old then m.event_clock else 0) i.events;
      queries = track_raised m.query_clock 0 i.queries;
      snapshot = i.snapshot;
      fired_queries = i.fired_queries;
    }

-- The line of the minimum time that a join sets, if the settings ignore old events and keep events. With it, this is
-- the minimum time of later lives too.
abbrev pub written_min_line : Config → PushPull → Bool → Option (List ℕ)
written_min_line config m is_join = if config.keep_events && (is_join && config.ignore_old) then Some (min_line kinds.Event m.event_clock) else None

-- How the clocks of another agent's state are merged, before any of its events: its line is written first, if it has
-- one.
abbrev pub heard_by : Option (List ℕ) → IdealAgent → PushPull → Bool → Call (Result (Unit {0}) MergeError)
heard_by None i m is_join = Ends record { agent = joined m is_join i; answer = Ok tt }
heard_by (Some line) i m is_join = AppendsLine kinds.Event 0 (Some line) (record { agent = joined m is_join i; answer = Ok tt }) (Err merges.SinkError)

abbrev pub hear : IdealAgent → PushPull → Bool → Call (Result (Unit {0}) MergeError)
hear i m is_join = heard_by (written_min_line i.config m is_join) i m is_join

-- the events of a time, of a slot, and of slots, in order
abbrev pub at_time : ℕ → List EventBody → List (TimedEntry EventBody)
at_time t events = map (λ e. record { time = t; key = e }) events

abbrev pub events_of_slot : SlotContent → List (TimedEntry EventBody)
events_of_slot empty = []
events_of_slot (held t events) = at_time t events

abbrev pub events_of : List SlotContent → List (TimedEntry EventBody)
events_of [] = []
events_of (s ∷ ss) = events_of_slot s ++ events_of ss

-- an event of a push/pull is received like an event in a packet, but is never marked as one to coalesce
abbrev pub receive_one : IdealAgent → TimedEntry EventBody → Call (Result Outcome ReceiveError)
receive_one i e = receive_event i e.time e.key false

-- what a result hands out
abbrev pub handed_by : Result Outcome ReceiveError → List EventOut
handed_by (Ok (Event out)) = out ∷ []
handed_by _ = []

-- the agent after it has received an event whose line is durable, if it has one, and what is handed out then
abbrev pub after_event : IdealAgent → TimedEntry EventBody → IdealAgent
after_event i e = (ended i (receive_one i e) Kept).agent

abbrev pub delivered : IdealAgent → TimedEntry EventBody → List EventOut
delivered i e = handed_by (ended i (receive_one i e) Kept).answer

-- How a list of events ends at one of them: by an allocation failure, if this event is new, and then the agent and its
-- device are unchanged; or with a line that failed.
abbrev pub EndsAt : IdealAgent → TimedEntry EventBody → Device → AgentState → MergeError → Type 0
EndsAt i e old new merges.OutOfMemory = AsksSink (receive_one i e) × (new.concrete ≡ view_of i) × (new.device ≡ old) × IsSound i
EndsAt i e old new merges.SinkError = Steps i (receive_one i e) (Err SinkError) old new
EndsAt i e old new _ = ⊥

-- Events are received one after another over a device, and exactly what is delivered is handed out. If none is left,
-- all were received. Otherwise the first event is received, its line is durable if it has one, and the others follow
-- over the device with this line; or receiving ends at the first event, and nothing more is handed out.
abbrev pub Receives : IdealAgent → List (TimedEntry EventBody) → Device → List EventOut → AgentState → Option MergeError → Type 0
Receives i [] old deliveries new error = (deliveries ≡ []) × (new.concrete ≡ view_of i) × (new.device ≡ old) × IsSound i × (error ≡ None)
Receives i (e ∷ es) old deliveries new error =
    (MayEnd i (receive_one i e) Kept × ((rest : List EventOut) × (deliveries ≡ delivered i e ++ rest) × Receives (after_event i e) es (device_after i (receive_one i e) old) rest new error))
    ⊎ ((deliveries ≡ []) × ((f : MergeError) × (error ≡ Some f) × EndsAt i e old new f))

-- How a call that merges the clocks of a push/pull fails: by an allocation failure for its line, and then the agent and
-- its device are unchanged; or with the line that failed. Nothing was merged.
abbrev pub EndsHearing : IdealAgent → Call (Result (Unit {0}) MergeError) → Device → AgentState → MergeError → Type 0
EndsHearing i call old new merges.OutOfMemory = AsksSink call × (new.concrete ≡ view_of i) × (new.device ≡ old) × IsSound i
EndsHearing i call old new merges.SinkError = Steps i call (Err merges.SinkError) old new
EndsHearing i call old new _ = ⊥

-- This call merges the clocks of a push/pull, and then the events are received over the device with the call's line, if
-- it has one; or the call failed, and nothing was handed out.
abbrev pub ReceivesAfter : IdealAgent → Call (Result (Unit {0}) MergeError) → List (TimedEntry EventBody) → Device → List EventOut → AgentState → Option MergeError → Type 0
ReceivesAfter i call events old deliveries new error =
    (MayEnd i call Kept × Receives (ended i call Kept).agent events (device_after i call old) deliveries new error)
    ⊎ ((deliveries ≡ []) × ((f : MergeError) × (error ≡ Some f) × EndsHearing i call old new f))

-- A push/pull was merged over this device: its clocks were merged, and its events were received; or the merge ended at
-- one of the lines.
pub record Merges (i : IdealAgent) (m : PushPull) (is_join : Bool) (before after : List EventOut) (old : Device) (new : AgentState) (error : Option MergeError) : Type 0 where
  pub deliveries : List EventOut
  pub out : after ≡ before ++ deliveries
  pub receives : ReceivesAfter i (hear i m is_join) (events_of m.slots) old deliveries new error

-- the error of a result, if it is one
abbrev pub error_in : {R E : Type 0} → Result R E → Option E
error_in (Ok x) = None
error_in (Err e) = Some e

-- why a packet isn't merged: the first reason that applies
abbrev pub merge_refusal : SnapshotView → Result Message WireError → Option MergeError
merge_refusal s (Err f) = if s.stopped then Some merges.Stopped else Some (merges.Wire f)
merge_refusal s (Ok (push_pull m)) = if s.stopped then Some merges.Stopped else None
merge_refusal s (Ok m) = if s.stopped then Some merges.Stopped else Some merges.NotPushPull

-- The member clock's line, and a compaction

-- the member clock's last time is written
abbrev pub save : IdealAgent → Call (Result (Unit {0}) AppendLineError)
save i = if i.snapshot.stopped then answers i (Err notes.Stopped) else AppendsLine kinds.Member (i.member_clock - 1) None (record { agent = i; answer = Ok tt }) (Err notes.SinkError)

-- the lines that a compaction writes in addition to the last clock lines, if the settings keep events
abbrev pub written_lines : ConcreteState → Option (List ℕ)
written_lines a = if a.config.keep_events then Some (kept_lines a) else None

-- the snapshot's text is replaced by its last lines
abbrev pub compact : IdealAgent → Call (Result (Unit {0}) AppendLineError)
compact i = if i.snapshot.stopped then answers i (Err notes.Stopped) else Replaces (written_lines (view_of i)) (record { agent = i; answer = Ok tt }) (Err notes.SinkError)
