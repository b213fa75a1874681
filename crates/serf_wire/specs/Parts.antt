-- The meaning of a push/pull that is passed in to be written.
use Rattle.std.specs.Prelude.{ℕ, List, [], ◌∷◌, ◌++◌, length, codes, map}
use Rattle.std.specs.List.{flat_map}
use Rattle.serf_pack.specs.Canonical.{map_head, raw_bytes, uint_bytes}
use Rattle.serf_wire.specs.declared.texts.EventBody.{EventBody}
use Rattle.serf_wire.specs.declared.texts.TimeSlot.{TimeSlot}
use Rattle.serf_wire.specs.declared.message.PushPullParts.{PushPullParts}
use Rattle.serf_wire.specs.Slots.{SlotContent, held}
use Rattle.serf_wire.specs.Buffers.{slots_borrowed}
use Rattle.serf_wire.specs.Lists.{status_of}
use Rattle.serf_wire.specs.Message.{PushPull}
use Rattle.serf_wire.specs.Canonical.{entry, list_bytes, status_time_bytes, slot_bytes}

abbrev pub slot_content : TimeSlot EventBody → SlotContent
slot_content s = held s.time s.held.items

abbrev pub push_pull_of : PushPullParts → PushPull
push_pull_of p = record {
  member_clock = p.member_clock;
  status = map status_of p.status.now;
  left = map (λ t. t.now) p.left.now;
  event_clock = p.event_clock;
  slots = map slot_content (slots_borrowed p.slots);
  query_clock = p.query_clock;
}

-- the canonical packet of a push/pull, made from its parts
abbrev pub parts_bytes : PushPullParts → List ℕ
parts_bytes p =
    2 ∷ [] ++ map_head 6 ++ entry (codes "LTime") (uint_bytes p.member_clock) ++ entry (codes "StatusLTimes") (map_head (length p.status.now) ++ flat_map (λ s. status_time_bytes (status_of s)) p.status.now)
    ++ entry (codes "LeftMembers") (list_bytes (λ t. raw_bytes t.now) p.left.now) ++ entry (codes "EventLTime") (uint_bytes p.event_clock)
    ++ entry (codes "Events") (list_bytes (λ s. slot_bytes (slot_content s)) (slots_borrowed p.slots)) ++ entry (codes "QueryLTime") (uint_bytes p.query_clock)
