-- Lists that are read in place: what hasn't been read yet.
use Rattle.std.specs.Prelude.{ℕ, List, [], ◌∷◌, map, Option, Some, None}
use Rattle.serf_pack.specs.declared.walk.Items.{Items}
use Rattle.serf_pack.specs.declared.walk.Pairs.{Pairs}
use Rattle.serf_pack.specs.Walk.{items_left, pairs_left}
use Rattle.serf_wire.specs.declared.texts.EventBody.{EventBody}
use Rattle.serf_wire.specs.declared.lists.Texts.{Texts}
use Rattle.serf_wire.specs.declared.lists.StatusTime.{StatusTime}
use Rattle.serf_wire.specs.declared.lists.StatusTimes.{StatusTimes}
use Rattle.serf_wire.specs.declared.lists.EventView.{EventView}
use Rattle.serf_wire.specs.declared.lists.EventViews.{EventViews}
use Rattle.serf_wire.specs.declared.lists.SlotView.{SlotView}
use Rattle.serf_wire.specs.declared.lists.SlotView.TheVariants.{Empty, Single, Held}
use Rattle.serf_wire.specs.declared.lists.SlotViews.{SlotViews}
use Rattle.serf_wire.specs.declared.fast.slots.FoundEvents.{FoundEvents}
use Rattle.serf_wire.specs.declared.fast.slots.FoundEvents.TheVariants.{One, Many}
use Rattle.serf_wire.specs.Slots.{SlotContent, empty, held}
use Rattle.serf_wire.specs.Lookups.{text_in, status_time_in, event_body_in, slot_in}

abbrev pub texts_walk : Option Items → List (List ℕ)
texts_walk None = []
texts_walk (Some walk) = map text_in (items_left walk)

-- the texts that haven't been read yet
abbrev pub texts_left : Texts → List (List ℕ)
texts_left texts = texts_walk texts.items

abbrev pub status_walk : Option Pairs → List (List ℕ × ℕ)
status_walk None = []
status_walk (Some walk) = map status_time_in (pairs_left walk)

-- the names with their times that haven't been read yet
abbrev pub status_left : StatusTimes → List (List ℕ × ℕ)
status_left status = status_walk status.pairs

abbrev pub status_of : StatusTime → List ℕ × ℕ
status_of s = (s.name.now, s.time)

-- the events that haven't been read yet
abbrev pub events_left : EventViews → List EventBody
events_left events = map event_body_in (items_left events.items)

abbrev pub event_of_view : EventView → EventBody
event_of_view e = record { name = e.name.now; payload = e.payload.now }

-- the slots that haven't been read yet
abbrev pub slots_left : SlotViews → List SlotContent
slots_left slots = map slot_in (items_left slots.items)

abbrev pub slot_of_view : SlotView → SlotContent
slot_of_view Empty = empty
slot_of_view (Single time event) = held time (event_of_view event ∷ [])
slot_of_view (Held time events) = held time (events_left events)

-- the events of a compact list: its only event, or those that haven't been read yet
abbrev pub events_found : FoundEvents → List EventBody
events_found (One event) = event_of_view event ∷ []
events_found (Many events) = events_left events
