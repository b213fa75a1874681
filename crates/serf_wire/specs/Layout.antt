-- The fields of each map, in canonical order (Serf's messages.go: the structs that go-msgpack writes).
use Rattle.std.specs.Prelude.{ℕ, ◌+◌, List, [], ◌∷◌, Option, Some, None, codes, nat_lt, ◌==◌, if◌then◌else◌}
use Rattle.std.specs.Str.{bytes_eq}
use Rattle.serf_lamport.specs.Clock.{max_clock}
use Rattle.serf_wire.specs.declared.layout.MessageType.{MessageType}
use Rattle.serf_wire.specs.declared.layout.MessageType.TheVariants as types
use Rattle.serf_wire.specs.declared.layout.Class.{Class}
use Rattle.serf_wire.specs.declared.layout.Class.TheVariants as classes
use Rattle.serf_wire.specs.declared.layout.Layout.{Layout}
use Rattle.serf_wire.specs.declared.layout.Layout.TheVariants as layouts
use Rattle.serf_wire.specs.declared.layout.Field.{Field}
use Rattle.serf_wire.specs.declared.layout.NamedField.{NamedField}
use Rattle.serf_wire.specs.declared.layout.Kind.{Kind}
use Rattle.serf_wire.specs.declared.layout.Kind.TheVariants as kinds

-- The meaning of a type byte. Of Serf's messages, leave (0), join (1), conflictResponse (6), keyRequest (7),
-- keyResponse (8) and relay (9) are not read. Intent.antt defines leave and join, for callers that need them.
abbrev pub class_of : ℕ → Class
class_of kind =
    if kind == 3 then classes.Read types.UserEvent else
    (if kind == 2 then classes.Read types.PushPull else
    (if kind == 4 then classes.Read types.Query else
    (if kind == 5 then classes.Read types.QueryResponse else
    (if nat_lt kind 10 then classes.Foreign else classes.Unknown))))

abbrev pub layout_of : MessageType → Layout
layout_of types.UserEvent = layouts.UserEvent
layout_of types.Query = layouts.Query
layout_of types.QueryResponse = layouts.QueryResponse
layout_of types.PushPull = layouts.PushPull

abbrev pub fields_of : Layout → List (List ℕ × Kind)
fields_of layouts.UserEvent =
    (codes "LTime", kinds.Time) ∷ (codes "Name", kinds.Text) ∷ (codes "Payload", kinds.Text) ∷ (codes "CC", kinds.Flag) ∷ []
fields_of layouts.Query =
    (codes "LTime", kinds.Time) ∷ (codes "ID", kinds.Natural 0xffff_ffff) ∷ (codes "Addr", kinds.Text) ∷ (codes "Port", kinds.Natural 0xffff) ∷ (codes "SourceNode", kinds.Text) ∷ (codes "Filters", kinds.Texts)
    ∷ (codes "Flags", kinds.Natural 0xffff_ffff) ∷ (codes "RelayFactor", kinds.Natural 0xff) ∷ (codes "Timeout", kinds.Signed) ∷ (codes "Name", kinds.Text) ∷ (codes "Payload", kinds.Text) ∷ []
fields_of layouts.QueryResponse =
    (codes "LTime", kinds.Natural max_clock) ∷ (codes "ID", kinds.Natural 0xffff_ffff) ∷ (codes "From", kinds.Text) ∷ (codes "Flags", kinds.Natural 0xffff_ffff) ∷ (codes "Payload", kinds.Text) ∷ []
fields_of layouts.PushPull =
    (codes "LTime", kinds.Natural max_clock) ∷ (codes "StatusLTimes", kinds.Status) ∷ (codes "LeftMembers", kinds.Texts) ∷ (codes "EventLTime", kinds.Natural max_clock)
    ∷ (codes "Events", kinds.Maps layouts.Slot) ∷ (codes "QueryLTime", kinds.Natural max_clock) ∷ []
fields_of layouts.Slot = (codes "LTime", kinds.Time) ∷ (codes "Events", kinds.Maps layouts.Event) ∷ []
fields_of layouts.Event = (codes "Name", kinds.Text) ∷ (codes "Payload", kinds.Text) ∷ []
fields_of layouts.Join = (codes "LTime", kinds.Time) ∷ (codes "Node", kinds.Text) ∷ []
fields_of layouts.Leave = (codes "LTime", kinds.Time) ∷ (codes "Node", kinds.Text) ∷ (codes "Prune", kinds.Flag) ∷ []

-- the kind of the field with this name
abbrev pub kind_in : List ℕ → List (List ℕ × Kind) → Option Kind
kind_in name [] = None
kind_in name (e ∷ es) = if bytes_eq name e.0 then Some e.1 else kind_in name es

abbrev pub field_at : ℕ → Kind → Field
field_at place kind = record { place = place; kind = kind }

-- the field with this name and its place, if the places begin with this one
abbrev pub field_in : ℕ → List ℕ → List (List ℕ × Kind) → Option Field
field_in place name [] = None
field_in place name (e ∷ es) = if bytes_eq name e.0 then Some (field_at place e.1) else field_in (place + 1) name es

-- the keys and kinds of a table of fields
abbrev pub rows_of : List NamedField → List (List ℕ × Kind)
rows_of [] = []
rows_of (f ∷ fs) = (f.key.now, f.kind) ∷ rows_of fs
