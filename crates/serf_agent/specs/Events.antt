-- What the ideal agent does with user events (Serf's internals page, "Lamport Clocks"; `serf.go`, `UserEvent` and
-- `handleUserEvent`).
use Rattle.std.specs.Prelude.{ℕ, ◌+◌, ◌||◌, min, nat_lt, nat_le, Bool, if◌then◌else◌, length, List, Option, Some, None, Result, Ok, Err}
use Rattle.serf_lamport.specs.Clock.{max_clock, last_time}
use Rattle.serf_wire.specs.declared.texts.EventBody.{EventBody}
use Rattle.serf_wire.specs.Canonical.{canonical}
use Rattle.serf_wire.specs.Message.{user_event}
use Rattle.serf_window.specs.Texts.{same_texts}
use Rattle.serf_snapshot.specs.declared.kind.ClockKind.TheVariants as kinds
use Rattle.serf_agent.specs.Config.{max_text_bytes}
use Rattle.serf_agent.specs.declared.config.Config.{Config}
use Rattle.serf_agent.specs.declared.outcome.EventOut.{EventOut}
use Rattle.serf_agent.specs.declared.outcome.Fired.{Fired}
use Rattle.serf_agent.specs.declared.outcome.FireError.{FireError}
use Rattle.serf_agent.specs.declared.outcome.FireError.TheVariants as errors
use Rattle.serf_agent.specs.declared.outcome.Outcome.{Outcome}
use Rattle.serf_agent.specs.declared.outcome.Outcome.TheVariants.{Event, Ignored}
use Rattle.serf_agent.specs.declared.outcome.Reason.{Reason}
use Rattle.serf_agent.specs.declared.outcome.Reason.TheVariants.{Oversize}
use Rattle.serf_agent.specs.declared.outcome.ReceiveError.{ReceiveError}
use Rattle.serf_agent.specs.declared.outcome.ReceiveError.TheVariants.{SinkError}
use Rattle.serf_agent.specs.Ideal.{IdealAgent, with_events}
use Rattle.serf_agent.specs.KeptTexts.{line_of_event}
use Rattle.serf_agent.specs.Tracks.{track_reason, track_observed, track_entered}
use Rattle.serf_agent.specs.Calls.{Call, Ends, AppendsLine, answers}

-- the number of bytes of an event's name and payload together
abbrev pub texts_len : EventBody → ℕ
texts_len what = length what.name + length what.payload

-- Why an event of time t is ignored, or None if it is new. Oversize comes first and is this project's own rule: the
-- event's name and payload have more than 9,216 bytes.
abbrev pub admission : IdealAgent → ℕ → EventBody → Option Reason
admission i t what =
    if nat_lt max_text_bytes (texts_len what) then Some Oversize else
    track_reason same_texts i.config.event_buffer i.config.per_time i.life i.events t what

-- the agent after it has observed an event's time
abbrev pub event_observed : ℕ → IdealAgent → IdealAgent
event_observed t i = with_events (track_observed t i.events) i

-- the agent after an event has entered, apart from its clock line
abbrev pub event_entered : ℕ → EventBody → IdealAgent → IdealAgent
event_entered t what i = with_events (track_entered i.life t what i.events) i

-- an event as it is handed out
abbrev pub event_out : ℕ → EventBody → Bool → EventOut
event_out t what coalesce = record { time = t; name = what.name; payload = what.payload; coalesce = coalesce }

-- the event's own line, which is written in addition to its clock line if the settings keep events
abbrev pub written_event : Config → ℕ → EventBody → Option (List ℕ)
written_event config t what = if config.keep_events then Some (line_of_event t what) else None

-- An event is received: if it is new, its line is written, and then it enters and is handed out.
abbrev pub received_as : Option Reason → IdealAgent → ℕ → EventBody → Bool → Call (Result Outcome ReceiveError)
received_as (Some reason) i t what coalesce = Ends record { agent = event_observed t i; answer = Ok (Ignored reason) }
received_as None i t what coalesce = AppendsLine kinds.Event t (written_event i.config t what) (record { agent = event_entered t what i; answer = Ok (Event (event_out t what coalesce)) }) (Err SinkError)

abbrev pub receive_event : IdealAgent → ℕ → EventBody → Bool → Call (Result Outcome ReceiveError)
receive_event i t what coalesce = received_as (admission i t what) i t what coalesce

-- the time that a clock draws; if the clock is at its maximum, which isn't a time, a packet is measured with the last
-- time
abbrev pub drawn : ℕ → ℕ
drawn clock = min clock last_time

-- the canonical packet of an event
abbrev pub event_packet : ℕ → EventBody → Bool → List ℕ
event_packet t what coalesce = canonical (user_event (record { time = t; name = what.name; payload = what.payload; coalesce = coalesce }))

-- whether an event is too large to be fired: its name and payload together, or its packet, are longer than the limit
abbrev pub is_too_large : ℕ → ℕ → EventBody → Bool → Bool
is_too_large limit t what coalesce = nat_lt limit (texts_len what) || nat_lt limit (length (event_packet t what coalesce))

-- why an event isn't fired: the first reason that applies
abbrev pub fire_error : IdealAgent → EventBody → Bool → Option FireError
fire_error i what coalesce =
    if i.snapshot.stopped then Some errors.Stopped else
    if is_too_large i.config.event_limit (drawn i.events.clock) what coalesce then Some errors.TooLarge else
    if nat_le max_clock i.events.clock then Some errors.Exhausted else None

-- An event is fired: its line is written at the clock's time, and then it enters and is handed out.
abbrev pub fired_as : Option FireError → IdealAgent → EventBody → Bool → Call (Result Fired FireError)
fired_as (Some error) i what coalesce = answers i (Err error)
fired_as None i what coalesce =
    AppendsLine kinds.Event i.events.clock (written_event i.config i.events.clock what) (record {
      agent = event_entered i.events.clock what i;
      answer = Ok record { packet = event_packet i.events.clock what coalesce; handed = event_out i.events.clock what coalesce };
    }) (Err errors.SinkError)

abbrev pub fire : IdealAgent → EventBody → Bool → Call (Result Fired FireError)
fire i what coalesce = fired_as (fire_error i what coalesce) i what coalesce
