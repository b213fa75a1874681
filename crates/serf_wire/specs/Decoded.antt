-- What a packet decodes to: its message, or its first error.
use Rattle.std.specs.Prelude.{◌≡◌, ℕ, List, [], ◌∷◌, Option, Some, None, Result, Ok, Err}
use Rattle.std.specs.Option.{option_map}
use Rattle.serf_pack.specs.declared.error.PackError.{PackError}
use Rattle.serf_pack.specs.Tree.{Tree}
use Rattle.serf_pack.specs.Reading.{whole_at}
use Rattle.serf_wire.specs.declared.error.WireError.{WireError}
use Rattle.serf_wire.specs.declared.error.WireError.TheVariants as errors
use Rattle.serf_wire.specs.declared.layout.MessageType.{MessageType}
use Rattle.serf_wire.specs.declared.layout.Class.{Class}
use Rattle.serf_wire.specs.declared.layout.Class.TheVariants as classes
use Rattle.serf_wire.specs.declared.message.UserEvent.{UserEvent as BorrowedEvent}
use Rattle.serf_wire.specs.Layout.{class_of}
use Rattle.serf_wire.specs.Message.{Message, UserEvent, event_said, user_event, query, query_response, push_pull, foreign}
use Rattle.serf_wire.specs.Reading.{read_tree}
use Rattle.serf_wire.specs.Spells.{shifted}

abbrev pub read_value : MessageType → Result Tree PackError → Result Message WireError
read_value message (Ok v) = read_tree message v
read_value message (Err f) = Err (errors.Pack (shifted f))

-- what the bytes after a type byte of this class decode to
abbrev pub decoded_after : Class → ℕ → List ℕ → Result Message WireError
decoded_after (classes.Read message) kind bytes = read_value message (whole_at 8 bytes)
decoded_after classes.Foreign kind bytes = Ok (foreign kind)
decoded_after classes.Unknown kind bytes = Err (errors.UnknownType kind)

-- Ok with the message that a packet spells, or Err with its first error
unfoldable pub decoded : List ℕ → Result Message WireError
decoded [] = Err errors.Empty
decoded (kind ∷ bytes) = decoded_after (class_of kind) kind bytes

-- the user event of a result, if it is one
abbrev pub event_in : Result Message WireError → Option UserEvent
event_in (Ok (user_event e)) = Some e
event_in (Ok (query q)) = None
event_in (Ok (query_response r)) = None
event_in (Ok (push_pull s)) = None
event_in (Ok (foreign kind)) = None
event_in (Err f) = None

-- the result is exactly the user event that a packet decodes to, and nothing if the packet decodes to another message
-- or to an error
abbrev pub GivesEvent : Option BorrowedEvent → Result Message WireError → Type 0
GivesEvent result answer = option_map event_said result ≡ event_in answer
