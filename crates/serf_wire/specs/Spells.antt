-- Which bytes spell which message, and the first error of bytes that spell none.
use Rattle.std.specs.Prelude.{◌≡◌, ◌+◌, ℕ, List, [], ◌∷◌, Some, codes, IsSome}
use Rattle.serf_lamport.specs.Clock.{max_clock}
use Rattle.serf_pack.specs.declared.error.PackError.{PackError}
use Rattle.serf_pack.specs.declared.error.PackError.TheVariants as pack
use Rattle.serf_pack.specs.Tree.{Tree, pairs, Pairs}
use Rattle.serf_pack.specs.Packs.{Packs}
use Rattle.serf_pack.specs.Breaks.{IsMalformed}
use Rattle.serf_pack.specs.View.{raw_of, pair_list, kind_of}
use Rattle.serf_pack.specs.declared.view.Kind.TheVariants.{Map}
use Rattle.serf_wire.specs.declared.error.WireError.{WireError}
use Rattle.serf_wire.specs.declared.error.WireError.TheVariants as errors
use Rattle.serf_wire.specs.declared.layout.MessageType.{MessageType}
use Rattle.serf_wire.specs.declared.layout.MessageType.TheVariants as types
use Rattle.serf_wire.specs.declared.layout.Class.{Class}
use Rattle.serf_wire.specs.declared.layout.Class.TheVariants as classes
use Rattle.serf_wire.specs.declared.layout.Layout.{Layout}
use Rattle.serf_wire.specs.Layout.{class_of, layout_of}
use Rattle.serf_wire.specs.Fields.{field, text, truth, number, time, signed, list, status, slot}
use Rattle.serf_wire.specs.Errors.{layout_errors, first}
use Rattle.serf_wire.specs.Message.{Message, UserEvent, Query, QueryResponse, PushPull, user_event, query, query_response, push_pull, foreign}

abbrev pub HasRawKeys : List (Tree × Tree) → Type 0
HasRawKeys [] = Unit {0}
HasRawKeys (p ∷ ps) = IsSome (raw_of p.0) × HasRawKeys ps

-- the map's fields are the event's
pub record IsUserEvent (e : UserEvent) (ps : List (Tree × Tree)) : Type 0 where
  pub keys : HasRawKeys ps
  pub time : field time (codes "LTime") ps ≡ Some e.time
  pub name : field text (codes "Name") ps ≡ Some e.name
  pub payload : field text (codes "Payload") ps ≡ Some e.payload
  pub coalesce : field truth (codes "CC") ps ≡ Some e.coalesce

pub record IsQuery (q : Query) (ps : List (Tree × Tree)) : Type 0 where
  pub keys : HasRawKeys ps
  pub time : field time (codes "LTime") ps ≡ Some q.time
  pub id : field (number 0xffff_ffff) (codes "ID") ps ≡ Some q.id
  pub addr : field text (codes "Addr") ps ≡ Some q.addr
  pub port : field (number 0xffff) (codes "Port") ps ≡ Some q.port
  pub source : field text (codes "SourceNode") ps ≡ Some q.source
  pub filters : field (list text) (codes "Filters") ps ≡ Some q.filters
  pub flags : field (number 0xffff_ffff) (codes "Flags") ps ≡ Some q.flags
  pub relay_factor : field (number 0xff) (codes "RelayFactor") ps ≡ Some q.relay_factor
  pub timeout : field signed (codes "Timeout") ps ≡ Some q.timeout
  pub name : field text (codes "Name") ps ≡ Some q.name
  pub payload : field text (codes "Payload") ps ≡ Some q.payload

pub record IsQueryResponse (r : QueryResponse) (ps : List (Tree × Tree)) : Type 0 where
  pub keys : HasRawKeys ps
  pub time : field (number max_clock) (codes "LTime") ps ≡ Some r.time
  pub id : field (number 0xffff_ffff) (codes "ID") ps ≡ Some r.id
  pub from : field text (codes "From") ps ≡ Some r.from
  pub flags : field (number 0xffff_ffff) (codes "Flags") ps ≡ Some r.flags
  pub payload : field text (codes "Payload") ps ≡ Some r.payload

pub record IsPushPull (m : PushPull) (ps : List (Tree × Tree)) : Type 0 where
  pub keys : HasRawKeys ps
  pub member_clock : field (number max_clock) (codes "LTime") ps ≡ Some m.member_clock
  pub status : field status (codes "StatusLTimes") ps ≡ Some m.status
  pub left : field (list text) (codes "LeftMembers") ps ≡ Some m.left
  pub event_clock : field (number max_clock) (codes "EventLTime") ps ≡ Some m.event_clock
  pub slots : field (list slot) (codes "Events") ps ≡ Some m.slots
  pub query_clock : field (number max_clock) (codes "QueryLTime") ps ≡ Some m.query_clock

-- the map's fields are the message's
abbrev pub HasFields : MessageType → Message → List (Tree × Tree) → Type 0
HasFields types.UserEvent (user_event e) ps = IsUserEvent e ps
HasFields types.Query (query q) ps = IsQuery q ps
HasFields types.QueryResponse (query_response r) ps = IsQueryResponse r ps
HasFields types.PushPull (push_pull m) ps = IsPushPull m ps
HasFields _ _ ps = ⊥

-- the bytes are a map with the message's fields
abbrev pub SpellsMap : MessageType → Message → List ℕ → Type 0
SpellsMap message m bytes = (ps : Pairs) × Packs (pairs 0 ps) 0 0 bytes × HasFields message m (pair_list ps)

abbrev pub SpellsAfter : Class → ℕ → Message → List ℕ → Type 0
SpellsAfter (classes.Read message) kind m bytes = SpellsMap message m bytes
SpellsAfter classes.Foreign kind m bytes = m ≡ foreign kind
SpellsAfter classes.Unknown kind m bytes = ⊥

-- the packet spells the message
abbrev pub Spells : Message → List ℕ → Type 0
Spells m [] = ⊥
Spells m (kind ∷ bytes) = SpellsAfter (class_of kind) kind m bytes

-- an error of the bytes after the type byte, as an error of the packet
abbrev pub shifted : PackError → PackError
shifted (pack.Truncated p) = pack.Truncated (p + 1)
shifted (pack.Unsupported b p) = pack.Unsupported b (p + 1)
shifted (pack.TooDeep p) = pack.TooDeep (p + 1)
shifted (pack.Trailing p) = pack.Trailing (p + 1)

-- The first error of bytes that should be a map with the fields of a layout.
pub data IsFirstMapError : Layout → List ℕ → WireError → Type 0 where
  -- the bytes are not a value
  no_value : (layout : Layout) (bytes : List ℕ) (f : WireError) (g : PackError) → IsMalformed bytes g → f ≡ errors.Pack (shifted g) → IsFirstMapError layout bytes f
  -- the value is not a map
  no_map : (layout : Layout) (bytes : List ℕ) (f : WireError) (v : Tree) → Packs v 0 0 bytes → (kind_of v ≡ Map → ⊥) → f ≡ errors.NotAMap → IsFirstMapError layout bytes f
  -- a place in the map has this error, and no place before it has one
  in_map : (layout : Layout) (bytes : List ℕ) (f : WireError) (ps : Pairs) → Packs (pairs 0 ps) 0 0 bytes → first (layout_errors layout (pair_list ps)) ≡ Some f → IsFirstMapError layout bytes f

abbrev pub IsFirstErrorAfter : Class → ℕ → List ℕ → WireError → Type 0
IsFirstErrorAfter (classes.Read message) kind bytes f = IsFirstMapError (layout_of message) bytes f
IsFirstErrorAfter classes.Foreign kind bytes f = ⊥
IsFirstErrorAfter classes.Unknown kind bytes f = f ≡ errors.UnknownType kind

-- the first error of a packet that spells no message
abbrev pub IsFirstError : List ℕ → WireError → Type 0
IsFirstError [] f = f ≡ errors.Empty
IsFirstError (kind ∷ bytes) f = IsFirstErrorAfter (class_of kind) kind bytes f
