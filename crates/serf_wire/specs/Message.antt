-- The meaning of a packet, independent of where its texts are in memory (Serf's messages.go).
use Rattle.std.specs.Prelude.{ℕ, ℤ, Bool, List}
use denote.Bor.{Bor}
use Rattle.serf_wire.specs.declared.message.UserEvent.{UserEvent as BorrowedEvent}
use Rattle.serf_wire.specs.declared.message.Query.{Query as BorrowedQuery}
use Rattle.serf_wire.specs.declared.message.QueryResponse.{QueryResponse as BorrowedResponse}
use Rattle.serf_wire.specs.declared.message.PushPull.{PushPull as BorrowedPushPull}
use Rattle.serf_wire.specs.declared.message.Message.{Message as Borrowed}
use Rattle.serf_wire.specs.declared.message.Message.TheVariants as borrowed
use Rattle.serf_wire.specs.declared.lists.Texts.{Texts}
use Rattle.serf_wire.specs.Slots.{SlotContent}
use Rattle.serf_wire.specs.Lists.{texts_left, status_left, slots_left}

pub record UserEvent : Type 0 where
  pub time : ℕ
  pub name : List ℕ
  pub payload : List ℕ
  pub coalesce : Bool

pub record Query : Type 0 where
  pub time : ℕ
  pub id : ℕ
  pub addr : List ℕ
  pub port : ℕ
  pub source : List ℕ
  pub filters : List (List ℕ)
  pub flags : ℕ
  pub relay_factor : ℕ
  pub timeout : ℤ
  pub name : List ℕ
  pub payload : List ℕ

pub record QueryResponse : Type 0 where
  pub time : ℕ
  pub id : ℕ
  pub from : List ℕ
  pub flags : ℕ
  pub payload : List ℕ

-- the status is the list of its pairs of a name and a time, in order
pub record PushPull : Type 0 where
  pub member_clock : ℕ
  pub status : List (List ℕ × ℕ)
  pub left : List (List ℕ)
  pub event_clock : ℕ
  pub slots : List SlotContent
  pub query_clock : ℕ

pub data Message : Type 0 where
  user_event : UserEvent → Message
  query : Query → Message
  query_response : QueryResponse → Message
  push_pull : PushPull → Message
  -- a message of a type that is not read
  foreign : ℕ → Message

abbrev pub user_event_of : ℕ → List ℕ → List ℕ → Bool → Message
user_event_of time name payload coalesce = user_event (record { time = time; name = name; payload = payload; coalesce = coalesce })

abbrev pub response_of : ℕ → ℕ → List ℕ → ℕ → List ℕ → Message
response_of time id from flags payload = query_response (record { time = time; id = id; from = from; flags = flags; payload = payload })

-- The meaning of a message whose texts are borrowed: a user event, a query with these filters, a response and a
-- push/pull.
abbrev pub event_said : BorrowedEvent → UserEvent
event_said e = record { time = e.time; name = e.name.now; payload = e.payload.now; coalesce = e.coalesce }

abbrev pub query_with : {F : Type 0} → List (List ℕ) → BorrowedQuery F → Query
query_with filters q = record {
  time = q.time;
  id = q.id;
  addr = q.addr.now;
  port = q.port;
  source = q.source.now;
  filters = filters;
  flags = q.flags;
  relay_factor = q.relay_factor;
  timeout = q.timeout;
  name = q.name.now;
  payload = q.payload.now;
}

-- a query that was read, and one that is going to be written
abbrev pub query_said : BorrowedQuery Texts → Query
query_said q = query_with (texts_left q.filters) q

abbrev pub query_of : BorrowedQuery (Bor (List (List ℕ))) → Query
query_of q = query_with q.filters.now q

abbrev pub response_said : BorrowedResponse → QueryResponse
response_said r = record { time = r.time; id = r.id; from = r.from.now; flags = r.flags; payload = r.payload.now }

abbrev pub push_pull_said : BorrowedPushPull → PushPull
push_pull_said m = record { member_clock = m.member_clock; status = status_left m.status; left = texts_left m.left; event_clock = m.event_clock; slots = slots_left m.slots; query_clock = m.query_clock }

-- the meaning of a message whose texts are borrowed from a packet
abbrev pub message_of : Borrowed → Message
message_of (borrowed.UserEvent e) = user_event (event_said e)
message_of (borrowed.Query q) = query (query_said q)
message_of (borrowed.QueryResponse r) = query_response (response_said r)
message_of (borrowed.PushPull m) = push_pull (push_pull_said m)
message_of (borrowed.Foreign kind) = foreign kind
