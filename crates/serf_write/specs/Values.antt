-- What the tokens of a line stand for.
use Rattle.std.specs.Prelude.{ℕ, ◌==◌, ◌+◌, ◌-◌, ◌*◌, ◌^◌, nat_lt, nat_le, Bool, if◌then◌else◌, List, [], length, take, drop, codes, position, not, slice_get, Option, Some, None, Result, Ok}
use Rattle.std.specs.Char.{is_ascii_digit}
use Rattle.std.specs.Str.{bytes_eq}
use Rattle.serf_agent.specs.declared.config.Config.{Config}
use Rattle.serf_model.specs.declared.action.SinkCall.{SinkCall}
use Rattle.serf_text.specs.Words.{bytes_of, choice_of, number_of}
use Rattle.serf_schedule.specs.Sinks.{sink_call_of}
use Rattle.serf_write.specs.declared.word_error.WordError.{WordError}
use Rattle.serf_write.specs.declared.word_error.Expected.TheVariants as expected
use Rattle.serf_write.specs.declared.labels.Label.{Label}
use Rattle.serf_write.specs.declared.token.Token.{Token}
use Rattle.serf_write.specs.declared.token.Token.TheVariants.{Word, Text}
use Rattle.serf_write.specs.Gives.{wrong, or_wrong}

-- the token at a place, counted from 1
abbrev pub token_at : ℕ → List Token → Option Token
token_at place tokens = slice_get tokens (place - 1)

-- the bytes of a word, or no bytes for a text
abbrev pub word_of : Option Token → List ℕ
word_of None = []
word_of (Some (Text text)) = []
word_of (Some (Word word)) = word

abbrev pub word_at : ℕ → List Token → List ℕ
word_at place tokens = word_of (token_at place tokens)

-- the line has at most this number of tokens
unfoldable pub ends_after : ℕ → List Token → Result (Unit {0}) WordError
ends_after count tokens = if nat_le (length tokens) count then Ok tt else wrong (count + 1) expected.End

-- Numbers and times

unfoldable pub number_in : ℕ → List Token → Result ℕ WordError
number_in place tokens = or_wrong place expected.Number (number_of (word_at place tokens))

-- how many nanoseconds a unit has
abbrev pub unit_of : List ℕ → Option ℕ
unit_of word =
    if bytes_eq word (codes "ns") then Some 1
    else if bytes_eq word (codes "us") then Some 1000
    else if bytes_eq word (codes "ms") then Some 1000000
    else if bytes_eq word (codes "s") then Some 1000000000
    else None

abbrev pub times : Option ℕ → Option ℕ → Option ℕ
times None unit = None
times (Some n) None = None
times (Some n) (Some unit) = if nat_lt (n * unit) (2 ^ 64) then Some (n * unit) else None

-- digits, and the unit after them at this index; nanoseconds if there is no unit
abbrev pub time_cut : List ℕ → Option ℕ → Option ℕ
time_cut word None = number_of word
time_cut word (Some at) = times (number_of (take at word)) (unit_of (drop at word))

-- a time of fewer than 2^64 nanoseconds
unfoldable pub time_of : List ℕ → Option ℕ
time_of word = time_cut word (position (λ b. not (is_ascii_digit b)) word)

unfoldable pub time_in : ℕ → List Token → Result ℕ WordError
time_in place tokens = or_wrong place expected.Time (time_of (word_at place tokens))

-- Bytes

-- a text, or bytes in hex
abbrev pub bytes_said : Option Token → Option (List ℕ)
bytes_said None = None
bytes_said (Some (Text text)) = Some text
bytes_said (Some (Word word)) = bytes_of word

unfoldable pub bytes_in : ℕ → List Token → Result (List ℕ) WordError
bytes_in place tokens = or_wrong place expected.Bytes (bytes_said (token_at place tokens))

-- the payload of an event at a place, or no bytes if the line ends before it
unfoldable pub payload_in : ℕ → List Token → Result (List ℕ) WordError
payload_in place tokens = if nat_lt (length tokens) place then Ok [] else or_wrong place expected.Payload (bytes_said (token_at place tokens))

-- Agents and packets

-- the first of two values, if there is one, and otherwise the second
abbrev pub or_else : Option ℕ → Option ℕ → Option ℕ
or_else (Some n) other = Some n
or_else None other = other

-- the number of the agent with a name
unfoldable pub agent_named : List Config → List ℕ → Option ℕ
agent_named configs name = position (λ c. bytes_eq c.name name) configs

-- a word of digits is a number, and any other token is a name
abbrev pub agent_said : List Config → Option Token → Option ℕ
agent_said configs None = None
agent_said configs (Some (Text name)) = agent_named configs name
agent_said configs (Some (Word word)) = or_else (number_of word) (agent_named configs word)

unfoldable pub agent_in : List Config → ℕ → List Token → Result ℕ WordError
agent_in configs place tokens = or_wrong place expected.Agent (agent_said configs (token_at place tokens))

abbrev pub label_at : List Label → Option ℕ → Option Label
label_at labels None = None
label_at labels (Some at) = slice_get labels at

unfoldable pub label_named : List Label → List ℕ → Option Label
label_named labels name = label_at labels (position (λ l. bytes_eq l.name name) labels)

-- the packet with this number, counted from 0, among those that the line of a label sent
abbrev pub packet_after : Option Label → Option ℕ → Option ℕ
packet_after None k = None
packet_after (Some l) None = None
packet_after (Some l) (Some k) = if nat_lt k (l.past - l.first) then Some (l.first + k) else None

-- a label, and the number after the slash at this index; the first packet if there is no slash
abbrev pub packet_cut : List Label → List ℕ → Option ℕ → Option ℕ
packet_cut labels word None = packet_after (label_named labels word) (Some 0)
packet_cut labels word (Some at) = packet_after (label_named labels (take at word)) (number_of (drop (at + 1) word))

unfoldable pub packet_of : List Label → List ℕ → Option ℕ
packet_of labels word = or_else (number_of word) (packet_cut labels word (position (λ b. b == 47) word))

unfoldable pub packet_in : List Label → ℕ → List Token → Result ℕ WordError
packet_in labels place tokens = or_wrong place expected.Packet (packet_of labels (word_at place tokens))

-- Words

unfoldable pub mode_in : ℕ → List Token → Result Bool WordError
mode_in place tokens = or_wrong place expected.Mode (choice_of (codes "sync") (codes "join") (word_at place tokens))

unfoldable pub sink_call_in : ℕ → List Token → Result SinkCall WordError
sink_call_in place tokens = or_wrong place expected.SinkCall (sink_call_of (word_at place tokens))

-- the moment after `at`, or 0 if the line ends before it
unfoldable pub moment_in : ℕ → List Token → Result ℕ WordError
moment_in place tokens =
    if nat_lt (length tokens) place then Ok 0
    else if bytes_eq (word_at place tokens) (codes "at") then time_in (place + 1) tokens
    else wrong place expected.At
