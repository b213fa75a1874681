-- The messages in packets, as objects.
use Rattle.std.specs.Prelude.{ℕ, ◌==◌, ◌++◌, if◌then◌else◌, List, [], codes, length, Option, Some, None, Result, Ok, Err}
use Rattle.hex.specs.Hex.{decode_of}
use Rattle.hex.specs.declared.error.FromHexError.{FromHexError}
use Rattle.serf_wire.specs.declared.error.WireError.{WireError}
use Rattle.serf_wire.specs.Decoded.{decoded}
use Rattle.serf_wire.specs.Message.{Message, user_event, query, query_response, push_pull, foreign}
use Rattle.serf_text.specs.Lines.{number_after}
use Rattle.serf_text.specs.MessageText.{message_text}
use Rattle.serf_text.specs.WireText.{wire_text}
use Rattle.serf_packets.specs.declared.job.BadHex.{BadHex}
use Rattle.serf_json.specs.Json.{bytes_member}
use Rattle.serf_json.specs.Object.{object_text}
use Rattle.serf_run_json.specs.Members.{flag_member, hex_member, number_member, text_member}

-- the type of a message: the first word of its text
abbrev pub type_word : Message → List ℕ
type_word (user_event e) = codes "userEvent"
type_word (query q) = codes "query"
type_word (query_response r) = codes "queryResponse"
type_word (push_pull s) = codes "pushPull"
type_word (foreign kind) = codes "foreign"

-- a message's time, its ID, its name or its sender, and its payload, as far as it has them
abbrev pub said_members : Message → List ℕ
said_members (user_event e) = number_member (codes "time") e.time ++ bytes_member (codes "name") e.name ++ bytes_member (codes "payload") e.payload
said_members (query q) = number_member (codes "time") q.time ++ number_member (codes "id") q.id
    ++ bytes_member (codes "name") q.name ++ bytes_member (codes "payload") q.payload
said_members (query_response r) = number_member (codes "time") r.time ++ number_member (codes "id") r.id
    ++ bytes_member (codes "from") r.from ++ bytes_member (codes "payload") r.payload
said_members (push_pull s) = []
said_members (foreign kind) = []

-- the same of a packet's message; a packet that is refused has none
abbrev pub decoded_members : Result Message WireError → List ℕ
decoded_members (Ok m) = said_members m
decoded_members (Err error) = []

-- what only some messages have: whether an event may be coalesced, and the clocks of a state
abbrev pub own_members : Message → List ℕ
own_members (user_event e) = flag_member (codes "coalesce") e.coalesce
own_members (query q) = []
own_members (query_response r) = []
own_members (push_pull s) = number_member (codes "clock") s.member_clock
    ++ number_member (codes "event_clock") s.event_clock ++ number_member (codes "query_clock") s.query_clock
own_members (foreign kind) = []

-- the number of a packet's line, if it was read from one
abbrev pub line_member : Option ℕ → List ℕ
line_member None = []
line_member (Some line) = number_member (codes "line") line

-- the members with which both kinds of objects begin
unfoldable pub packet_members : Option ℕ → List ℕ → List ℕ
packet_members line packet = line_member line ++ hex_member (codes "packet") packet

-- the members of the object of a message: its type, what it says, its text, and what only some messages have
unfoldable pub message_members : Message → List ℕ
message_members m = text_member (codes "type") (type_word m) ++ said_members m ++ text_member (codes "text") (message_text m) ++ own_members m

-- the object of a packet: of the message that it decodes to, or of the error for which it is refused
abbrev pub packet_object : Option ℕ → List ℕ → Result Message WireError → List ℕ
packet_object line packet (Ok m) = object_text (codes "message") (packet_members line packet ++ message_members m)
packet_object line packet (Err error) = object_text (codes "refused") (packet_members line packet ++ text_member (codes "error") (wire_text error))

-- the object of the packet on the line with this number, if the line is hex
abbrev pub hex_object : ℕ → Result (List ℕ) FromHexError → Result (List ℕ) BadHex
hex_object number (Ok packet) = Ok (packet_object (Some number) packet (decoded packet))
hex_object number (Err why) = Err (record {})

-- A line without bytes has no object. All lines are counted.
abbrev pub line_object : List (List ℕ) → List ℕ → Result (List ℕ) BadHex
line_object before line = if length line == 0 then Ok [] else hex_object (number_after before) (decode_of line)
