-- The packet to which a text is encoded.
use Rattle.std.specs.Prelude.{ℕ, ◌+◌, ◌++◌, ◌==◌, if◌then◌else◌, List, [], ◌∷◌, length, codes, filter, take, Option, Some, None, Result, Ok, Err}
use Rattle.std.specs.Str.{bytes_eq}
use Rattle.serf_wire.specs.declared.error.WireError.{WireError}
use Rattle.serf_wire.specs.Canonical.{canonical, has_long}
use Rattle.serf_wire.specs.Decoded.{decoded}
use Rattle.serf_wire.specs.Message.{Message}
use Rattle.serf_text.specs.MessageText.{text_or_error}
use Rattle.serf_text.specs.TextParts.{hex_text, with_number}
use Rattle.serf_packets.specs.Rows.{rows_in}
use Rattle.serf_packets.specs.Meant.{message_meant}

-- the canonical packet of a message, if its texts and lists are not too long for it
abbrev pub packet_of : Option Message → Option (List ℕ)
packet_of None = None
packet_of (Some m) = if has_long m then None else Some (canonical m)

abbrev pub packet_meant : List ℕ → Option (List ℕ)
packet_meant text = packet_of (message_meant (rows_in text))

-- the text that a packet is decoded to, or no bytes
abbrev pub said_by : Result (List ℕ) WireError → List ℕ
said_by (Ok text) = text
said_by (Err error) = []

abbrev pub text_of : Option (List ℕ) → List ℕ
text_of None = []
text_of (Some packet) = said_by (text_or_error (decoded packet))

-- how many bytes two texts have in common at their beginning
abbrev pub common : List ℕ → List ℕ → ℕ
common [] other = 0
common (x ∷ xs) [] = 0
common (x ∷ xs) (y ∷ ys) = if x == y then common xs ys + 1 else 0

-- the number of the line in which a text first differs from another, counted from 1
abbrev pub other_line : List ℕ → List ℕ → ℕ
other_line text other = length (filter (λ b. b == 10) (take (common text other) text)) + 1

-- The packet of the message that a text means, if it is decoded to exactly this text, and otherwise the first line of
-- the text that differs from the text of the packet.
abbrev pub encoded_by : List ℕ → Option (List ℕ) → Result (List ℕ) ℕ
encoded_by text None = Err (other_line text [])
encoded_by text (Some packet) =
    if bytes_eq (said_by (text_or_error (decoded packet))) text then Ok packet else Err (other_line text (said_by (text_or_error (decoded packet))))

unfoldable pub encoded : List ℕ → Result (List ℕ) ℕ
encoded text = encoded_by text (packet_meant text)

-- a packet in hex, or the line because of which the text is refused
abbrev pub answer_text : Result (List ℕ) ℕ → List ℕ
answer_text (Ok packet) = hex_text packet ++ codes "\n"
answer_text (Err line) = with_number (codes "refused BadLine") line ++ codes "\n"
