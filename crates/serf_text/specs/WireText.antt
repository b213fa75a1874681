-- The words for a packet's error.
use Rattle.std.specs.Prelude.{ℕ, List, codes}
use Rattle.serf_pack.specs.declared.error.PackError.{PackError}
use Rattle.serf_pack.specs.declared.error.PackError.TheVariants.{Truncated, Unsupported, TooDeep, Trailing}
use Rattle.serf_wire.specs.declared.error.WireError.{WireError}
use Rattle.serf_wire.specs.declared.error.WireError.TheVariants.{Empty, UnknownType, Pack, NotAMap, BadKey, Twice, WrongKind, OutOfRange, MaxTime}
use Rattle.serf_text.specs.TextParts.{with_number}

-- a MessagePack error: its name, its byte if it has one, and its offset in the packet
abbrev pub pack_text : PackError → List ℕ
pack_text (Truncated offset) = with_number (codes "Truncated") offset
pack_text (Unsupported byte offset) = with_number (with_number (codes "Unsupported") byte) offset
pack_text (TooDeep offset) = with_number (codes "TooDeep") offset
pack_text (Trailing offset) = with_number (codes "Trailing") offset

-- an error: its name, and its byte or its offset if it has one
abbrev pub wire_text : WireError → List ℕ
wire_text Empty = codes "Empty"
wire_text (UnknownType byte) = with_number (codes "UnknownType") byte
wire_text (Pack error) = pack_text error
wire_text NotAMap = codes "NotAMap"
wire_text (BadKey offset) = with_number (codes "BadKey") offset
wire_text (Twice offset) = with_number (codes "Twice") offset
wire_text (WrongKind offset) = with_number (codes "WrongKind") offset
wire_text (OutOfRange offset) = with_number (codes "OutOfRange") offset
wire_text (MaxTime offset) = with_number (codes "GreatestTime") offset
