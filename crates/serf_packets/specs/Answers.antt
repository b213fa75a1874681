-- The answer to a line of hex.
use Rattle.std.specs.Prelude.{ℕ, Bool, true, false, ◌==◌, ◌++◌, if◌then◌else◌, List, [], length, codes, Result, Ok, Err}
use Rattle.hex.specs.Hex.{decode_of}
use Rattle.hex.specs.declared.error.FromHexError.{FromHexError}
use Rattle.serf_wire.specs.declared.error.WireError.{WireError}
use Rattle.serf_wire.specs.Message.{Message}
use Rattle.serf_wire.specs.Decoded.{decoded}
use Rattle.serf_text.specs.MessageText.{text_or_error}
use Rattle.serf_text.specs.WireText.{wire_text}
use Rattle.serf_packets.specs.declared.job.BadHex.{BadHex}

-- the text of a message, or a line that says why the packet is refused, and then an empty line
abbrev pub said_of : Result (List ℕ) WireError → List ℕ
said_of (Ok text) = text ++ codes "\n"
said_of (Err error) = codes "refused " ++ wire_text error ++ codes "\n\n"

-- the answer to a packet
abbrev pub packet_answer : List ℕ → List ℕ
packet_answer packet = said_of (text_or_error (decoded packet))

abbrev pub hex_answer : Result (List ℕ) FromHexError → Result (List ℕ) BadHex
hex_answer (Ok packet) = Ok (packet_answer packet)
hex_answer (Err why) = Err (record {})

-- A line without bytes has no answer. The answer to a line doesn't depend on the lines before it.
abbrev pub line_answer : List (List ℕ) → List ℕ → Result (List ℕ) BadHex
line_answer before line = if length line == 0 then Ok [] else hex_answer (decode_of line)

abbrev pub is_refused : Result Message WireError → Bool
is_refused (Ok message) = false
is_refused (Err error) = true

abbrev pub refuses_hex : Result (List ℕ) FromHexError → Bool
refuses_hex (Ok packet) = is_refused (decoded packet)
refuses_hex (Err why) = false

-- whether a line has a packet that is refused
abbrev pub refuses_line : List ℕ → Bool
refuses_line line = if length line == 0 then false else refuses_hex (decode_of line)
