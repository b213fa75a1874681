-- A window's events, as contracts see them.
use Rattle.std.specs.Prelude.{ℕ, ◌&&◌, Bool, List}
use Rattle.std.specs.Str.{bytes_eq}
use Rattle.serf_wire.specs.declared.texts.EventBody.{EventBody}

-- whether two events of one time are the same: their names and payloads are equal (`serf.go`, `userEvent.Equals`)
abbrev pub same_texts : EventBody → EventBody → Bool
same_texts a b = bytes_eq a.name b.name && bytes_eq a.payload b.payload

-- an event with these texts
abbrev pub event_of : List ℕ → List ℕ → EventBody
event_of name payload = record { name = name; payload = payload }
