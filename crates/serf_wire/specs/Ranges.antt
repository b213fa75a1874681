-- The ranges of the numbers in a message's fields.
use Rattle.std.specs.Prelude.{◌≡◌, ◌<◌, ◌^◌, Some}
use Rattle.std.specs.List.{AllByRecursion}
use Rattle.serf_lamport.specs.Clock.{max_clock}
use Rattle.serf_wire.specs.declared.layout.Class.TheVariants.{Foreign}
use Rattle.serf_wire.specs.Layout.{class_of}
use Rattle.serf_wire.specs.Fields.{fits}
use Rattle.serf_wire.specs.Slots.{SlotContent, empty, held}
use Rattle.serf_wire.specs.Message.{Message, Query, QueryResponse, PushPull, user_event, query, query_response, push_pull, foreign}

pub record IsRangedQuery (q : Query) : Type 0 where
  pub time : q.time < max_clock
  pub id : q.id < 2 ^ 32
  pub port : q.port < 2 ^ 16
  pub flags : q.flags < 2 ^ 32
  pub relay_factor : q.relay_factor < 2 ^ 8
  -- a signed integer of 64 bits
  pub timeout : fits q.timeout ≡ Some q.timeout

pub record IsRangedResponse (r : QueryResponse) : Type 0 where
  pub time : r.time < 2 ^ 64
  pub id : r.id < 2 ^ 32
  pub flags : r.flags < 2 ^ 32

abbrev pub IsTimed : SlotContent → Type 0
IsTimed empty = Unit {0}
IsTimed (held t es) = t < max_clock

pub record IsRangedPushPull (m : PushPull) : Type 0 where
  pub member_clock : m.member_clock < 2 ^ 64
  pub status : AllByRecursion (λ p. p.1 < 2 ^ 64) m.status
  pub event_clock : m.event_clock < 2 ^ 64
  pub slots : AllByRecursion IsTimed m.slots
  pub query_clock : m.query_clock < 2 ^ 64

abbrev pub InRange : Message → Type 0
InRange (user_event e) = e.time < max_clock
InRange (query q) = IsRangedQuery q
InRange (query_response r) = IsRangedResponse r
InRange (push_pull m) = IsRangedPushPull m
InRange (foreign k) = class_of k ≡ Foreign
