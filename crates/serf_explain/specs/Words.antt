-- The words for an event.
use Rattle.std.specs.Prelude.{ℕ, ◌++◌, List, codes, decimal}
use Rattle.serf_text.specs.Quoted.{quoted}
use Rattle.serf_wire.specs.declared.texts.EventBody.{EventBody}

-- the words for an event: its time, its name and its payload
unfoldable pub event_words : ℕ → EventBody → List ℕ
event_words time what = codes "event " ++ decimal time ++ codes " " ++ quoted what.name ++ codes " " ++ quoted what.payload

-- both texts of an event, with every byte unchanged
unfoldable pub standing_texts : List ℕ → List ℕ → List ℕ
standing_texts name payload = codes " \"" ++ name ++ codes "\" \"" ++ payload ++ codes "\""
