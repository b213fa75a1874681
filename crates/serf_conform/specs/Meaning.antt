-- When a line of a reply means the same as the expected line.
use Rattle.std.specs.Prelude.{ℕ, ◌==◌, ◌&&◌, ◌++◌, Bool, false, if◌then◌else◌, List, [], ◌∷◌, length, codes, Option, Some, None, Result, Ok, Err}
use Rattle.std.specs.List.{flat_map}
use Rattle.std.specs.Str.{bytes_eq}
use Rattle.serf_wire.specs.declared.error.WireError.{WireError}
use Rattle.serf_wire.specs.Decoded.{decoded}
use Rattle.serf_wire.specs.Message.{Message, user_event, query, query_response, push_pull, foreign}
use Rattle.serf_wire.specs.Slots.{SlotContent, empty, held}
use Rattle.serf_text.specs.TextParts.{number_line}
use Rattle.serf_text.specs.MessageText.{member_lines, message_text, slot_lines}
use Rattle.serf_conform.specs.declared.reply_line.ReplyLine.{ReplyLine}
use Rattle.serf_conform.specs.declared.reply_line.ReplyLine.TheVariants as lines
use Rattle.serf_conform.specs.Reply.{Said}
use Rattle.serf_conform.specs.ReplyText.{line_text}

-- Packets

-- a slot that holds something, without its number
abbrev pub held_lines : SlotContent → List ℕ
held_lines empty = []
held_lines (held time events) = slot_lines 0 (held time events)

-- the text of a state without its empty slots
unfoldable pub state_lines : ℕ → List (List ℕ × ℕ) → List (List ℕ) → ℕ → List SlotContent → ℕ → List ℕ
state_lines member_clock status left event_clock slots query_clock = member_lines member_clock status left ++ number_line (codes "EventLTime") event_clock
    ++ flat_map held_lines slots ++ number_line (codes "QueryLTime") query_clock

-- what a message means: the text of its fields, without the empty slots of a state
abbrev pub meaning_text : Message → List ℕ
meaning_text (push_pull m) = state_lines m.member_clock m.status m.left m.event_clock m.slots m.query_clock
meaning_text (user_event m) = message_text (user_event m)
meaning_text (query m) = message_text (query m)
meaning_text (query_response m) = message_text (query_response m)
meaning_text (foreign m) = message_text (foreign m)

-- what a packet means, if it spells a message
abbrev pub meaning_of : Result Message WireError → Option (List ℕ)
meaning_of (Ok m) = Some (meaning_text m)
meaning_of (Err error) = None

abbrev pub are_same : Option (List ℕ) → Option (List ℕ) → Bool
are_same (Some x) (Some y) = bytes_eq x y
are_same _ _ = false

-- Two packets spell messages with the same meaning.
abbrev pub spell_same : List ℕ → List ℕ → Bool
spell_same p q = are_same (meaning_of (decoded p)) (meaning_of (decoded q))

-- A packet that is sent on has to be equal byte for byte, because the agent has to send it exactly as it got it. Any
-- other packet may be spelled in another way.
abbrev pub packet_means : List ℕ → List ℕ → List ℕ → Bool
packet_means given wanted got = if bytes_eq wanted given then bytes_eq wanted got else spell_same wanted got

-- Lines

-- the packet of a `sent` line
abbrev pub sent_in : ReplyLine → Option (List ℕ)
sent_in (lines.Sent packet) = Some packet
sent_in (lines.Event time name payload coalesce) = None
sent_in (lines.DeliveredQuery index time id name payload) = None
sent_in (lines.CountedAck time id from) = None
sent_in (lines.CountedResponse time id from payload) = None
sent_in (lines.Kept text) = None

-- Packets are compared by their meaning, and all other lines by their values, which their text shows.
abbrev pub means_as : List ℕ → Option (List ℕ) → Option (List ℕ) → List ℕ → List ℕ → Bool
means_as given (Some p) (Some q) wanted got = packet_means given p q
means_as given (Some p) None wanted got = false
means_as given None q wanted got = bytes_eq wanted got

-- whether a line means the expected one, if the call carried this packet
abbrev pub line_means : List ℕ → ReplyLine → ReplyLine → Bool
line_means given wanted got = means_as given (sent_in wanted) (sent_in got) (line_text wanted) (line_text got)

-- Both lists have the same length, and each line means the expected one in its position.
abbrev pub lines_mean : List ℕ → List ReplyLine → List ReplyLine → Bool
lines_mean given [] gots = length gots == 0
lines_mean given (wanted ∷ wanteds) [] = false
lines_mean given (wanted ∷ wanteds) (got ∷ gots) = line_means given wanted got && lines_mean given wanteds gots

-- The answers are equal, and the lines mean the expected ones.
abbrev pub reply_means : List ℕ → Said → Said → Bool
reply_means given wanted got = bytes_eq wanted.answer got.answer && lines_mean given wanted.lines got.lines
