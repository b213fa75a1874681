-- The texts of the events in a message.
use Rattle.std.specs.Prelude.{◌<◌, ℕ, List, slice_index}
use Rattle.std.specs.List.{AllByRecursion}
use Rattle.serf_wire.specs.declared.texts.EventBody.{EventBody}
use Rattle.serf_wire.specs.Message.{Message, user_event, push_pull}
use Rattle.serf_wire.specs.Slots.{SlotContent, empty, held}

-- each number is a byte
abbrev pub AreBytes : List ℕ → Type 0
AreBytes xs = (i : ℕ) → slice_index xs i < 256

pub record HasBytes (e : EventBody) : Type 0 where
  pub name : AreBytes e.name
  pub payload : AreBytes e.payload

abbrev pub SlotHasBytes : SlotContent → Type 0
SlotHasBytes empty = Unit {0}
SlotHasBytes (held t events) = AllByRecursion HasBytes events

-- the texts of the message's event, or of the events in its slots, are bytes
abbrev pub EventsHaveBytes : Message → Type 0
EventsHaveBytes (user_event e) = HasBytes (record { name = e.name; payload = e.payload })
EventsHaveBytes (push_pull m) = AllByRecursion SlotHasBytes m.slots
EventsHaveBytes _ = Unit {0}
