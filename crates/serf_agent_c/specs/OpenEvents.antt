-- What C reads of the events that a text leaves open.
use Rattle.std.specs.Prelude.{◌++◌, ℕ, List, map, length}
use Rattle.std.specs.List.{flat_map}
use Rattle.serf_snapshot.specs.Handlers.{is_tracked, open_events}
use Rattle.serf_snapshot.specs.declared.handlers.OpenEvent.{OpenEvent}
use Rattle.serf_agent_c.specs.declared.open_events.OpenEventHead.{OpenEventHead}
use Rattle.serf_agent_c.specs.declared.open_events.OpenEventsHead.{OpenEventsHead}

-- an open event, apart from its texts
abbrev pub open_event_head : OpenEvent → OpenEventHead
open_event_head o = record { time = o.event.time; name_len = length o.event.name; payload_len = length o.event.payload; begun = o.has_begun }

abbrev pub open_event_heads : List OpenEvent → List OpenEventHead
open_event_heads events = map open_event_head events

-- the texts of an open event, and those of all, one event after another
abbrev pub open_event_text : OpenEvent → List ℕ
open_event_text o = o.event.name ++ o.event.payload

abbrev pub open_event_texts : List OpenEvent → List ℕ
open_event_texts events = flat_map open_event_text events

abbrev pub open_events_head : List ℕ → OpenEventsHead
open_events_head text = record {
  events = length (open_event_heads (open_events text));
  texts_len = length (open_event_texts (open_events text));
  tracked = is_tracked text;
}
