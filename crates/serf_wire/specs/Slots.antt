-- The meaning of a slot of a push/pull (Serf's messages.go, messagePushPull and userEvents).
use Rattle.std.specs.Prelude.{ℕ, List}
use Rattle.serf_wire.specs.declared.texts.EventBody.{EventBody}

-- nothing, or a time and its events in order
pub data SlotContent : Type 0 where
  empty : SlotContent
  held : ℕ → List EventBody → SlotContent
