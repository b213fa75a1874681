-- The text of a sequence diagram in Mermaid's language. Each line has a participant, a message between two
-- participants, or a note.
use Rattle.std.specs.Prelude.{ℕ, ◌==◌, ◌++◌, ◌&&◌, ◌||◌, nat_le, Bool, if◌then◌else◌, List, [], ◌∷◌, codes, Option, Some, None}
use Rattle.std.specs.List.{flat_map, list_any}
use Rattle.serf_draw.specs.declared.picture.Arrow.{Arrow}
use Rattle.serf_draw.specs.declared.picture.Arrow.TheVariants.{NoPacket, Unsent, From}
use Rattle.serf_draw.specs.declared.picture.Lane.{Lane}
use Rattle.serf_draw.specs.declared.picture.Picture.{Picture}
use Rattle.serf_draw.specs.declared.picture.Row.{Row}
use Rattle.serf_draw.specs.declared.picture.Tone.{Tone}
use Rattle.serf_draw.specs.declared.picture.Tone.TheVariants.{Taken, Ignored, Refused}
use Rattle.serf_draw.specs.Label.{short}
use Rattle.serf_draw.specs.Svg.{between}

-- Arbitrary bytes as a text for Mermaid

-- a letter, a digit, a space, a full stop, an `@` or a `_`
abbrev pub is_plain : ℕ → Bool
is_plain b = (nat_le 97 b && nat_le b 122) || (nat_le 65 b && nat_le b 90) || (nat_le 48 b && nat_le b 57) || b == 32 || b == 46 || b == 64 || b == 95

abbrev pub is_printable : ℕ → Bool
is_printable b = nat_le 32 b && nat_le b 126

-- The coded form of a byte: a plain byte is unchanged, any other printable ASCII becomes its entity code, and
-- everything else becomes the code of the replacement character.
abbrev pub coded_byte : ℕ → List ℕ
coded_byte b = if is_plain b then b ∷ [] else if is_printable b then between (codes "#") b (codes ";") else codes "#65533;"

abbrev pub coded : List ℕ → List ℕ
coded text = flat_map coded_byte text

-- a byte that a coded text can contain: a plain byte, or one that belongs to an entity code
abbrev pub is_coded : ℕ → Bool
is_coded b = is_plain b || b == 35 || b == 59

-- Participants

-- The participant of an agent, named by its number. All agents without a lane share one participant.
abbrev pub participant : List Lane → Option ℕ → List ℕ
participant lanes None = codes "outside"
participant lanes (Some a) = if list_any (λ l. l.agent == a) lanes then between (codes "a") a [] else codes "outside"

-- the line of a participant: its number and its name
unfoldable pub participant_line : Lane → List ℕ
participant_line lane = between (codes "participant a") lane.agent (codes " as ") ++ between [] lane.agent (codes " ") ++ coded (short lane.name) ++ codes "\n"

-- Messages and notes

-- the end of an action's line: its number and its label
unfoldable pub words_of : Row → List ℕ
words_of row = between (codes ": ") row.action (codes " ") ++ coded row.label ++ codes "\n"

-- a line with an arrow head, a dotted line with an arrow head, or a line with a cross
abbrev pub arrow_word : Tone → List ℕ
arrow_word Taken = codes "->>"
arrow_word Ignored = codes "-->>"
arrow_word Refused = codes "-x"

-- a message from an agent to the agent of the row
unfoldable pub message_line : List Lane → Row → Option ℕ → List ℕ
message_line lanes row sender = participant lanes sender ++ arrow_word row.tone ++ participant lanes row.agent ++ words_of row

unfoldable pub note_line : List Lane → Row → List ℕ
note_line lanes row = codes "Note over " ++ participant lanes row.agent ++ words_of row

abbrev pub line_by : List Lane → Row → Arrow → List ℕ
line_by lanes row NoPacket = note_line lanes row
line_by lanes row Unsent = message_line lanes row None
line_by lanes row (From sender) = message_line lanes row sender.agent

-- one message for each packet that is passed to an agent, from its sender, and a note for each other action
abbrev pub row_line : List Lane → Row → List ℕ
row_line lanes row = line_by lanes row row.arrow

-- The whole: the participants, and then a line for each row.
unfoldable pub mermaid_of : Picture → List ℕ
mermaid_of p = codes "sequenceDiagram\n" ++ flat_map participant_line p.lanes.items ++ flat_map (row_line p.lanes.items) p.rows.items
