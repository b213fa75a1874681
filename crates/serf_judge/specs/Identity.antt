-- What distinguishes an event, or a query, from others.
use Rattle.std.specs.Prelude.{ℕ, ◌&&◌, nat_eq, Bool, List, [], Option, None}
use Rattle.std.specs.Option.{option_eq}
use Rattle.std.specs.Str.{bytes_eq}
use Rattle.serf_judge.specs.declared.entry.EventEntry.{EventEntry}
use Rattle.serf_judge.specs.declared.entry.QueryEntry.{QueryEntry}
use Rattle.serf_judge.specs.declared.key.Delivery.{Delivery}
use Rattle.serf_judge.specs.declared.key.Key.{Key}

-- A node, and what it was handed: of an event a time, a name and a payload, and of a query a time and an ID, or no ID.
pub record Identity : Type 0 where
  pub node : List ℕ
  pub time : ℕ
  pub id : Option ℕ
  pub name : List ℕ
  pub payload : List ℕ

abbrev pub event_identity : EventEntry → Identity
event_identity e = record { node = e.node.items; time = e.time; id = None; name = e.name.items; payload = e.payload.items }

abbrev pub query_identity : QueryEntry → Identity
query_identity q = record { node = q.node.items; time = q.time; id = q.id; name = []; payload = [] }

abbrev pub is_same : Identity → Identity → Bool
is_same x y = bytes_eq x.node y.node && (nat_eq x.time y.time && (option_eq nat_eq x.id y.id && (bytes_eq x.name y.name && bytes_eq x.payload y.payload)))

-- the number of a line, and what it hands to which node
abbrev pub event_seen : EventEntry → ℕ × Identity
event_seen e = (e.line, event_identity e)

abbrev pub query_seen : QueryEntry → ℕ × Identity
query_seen q = (q.line, query_identity q)

-- what a key borrows, and a line with its key
abbrev pub key_identity : Key → Identity
key_identity k = record { node = k.node.now; time = k.time; id = k.id; name = k.name.now; payload = k.payload.now }

abbrev pub handed_seen : Delivery → ℕ × Identity
handed_seen h = (h.line, key_identity h.key)

-- how keys are compared
abbrev pub key_eq : Key → Key → Bool
key_eq x y = is_same (key_identity x) (key_identity y)
