-- Events as the code has them, and the messages in packets: private to the crate.
use Rattle.std.specs.Prelude.{ℕ, List, Option, Some, None, Result, Ok, Err}
use Rattle.serf_wire.specs.declared.error.WireError.{WireError}
use Rattle.serf_wire.specs.declared.texts.EventBody.{EventBody}
use Rattle.serf_wire.specs.Decoded.{decoded}
use Rattle.serf_wire.specs.Message.{Message}
use Rattle.serf_window.specs.Texts.{event_of}
use Rattle.serf_window.specs.Window.{TimedEntry}
use Rattle.serf_explain.specs.declared.deliveries.Event.{Event}
use Rattle.serf_explain.specs.declared.seen.Delivered.{Delivered}

abbrev pub event_as : Event → TimedEntry EventBody
event_as e = record { time = e.time; key = event_of e.name.now e.payload.now }

abbrev pub delivered_as : Delivered → ℕ × TimedEntry EventBody
delivered_as d = (d.to, event_as d.event)

-- the message in a packet, if there is a packet and it is well-formed
abbrev pub message_read : Result Message WireError → Option Message
message_read (Ok message) = Some message
message_read (Err error) = None

abbrev pub message_given : Option (List ℕ) → Option Message
message_given None = None
message_given (Some packet) = message_read (decoded packet)
