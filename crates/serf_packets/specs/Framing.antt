-- How a packet of memberlist is recognized (net.go: compoundMsg 7, userMsg 8, compressMsg 9, hasCrcMsg 12; pingMsg 0,
-- indirectPingMsg 1 and ackRespMsg 2 are maps with the key SeqNo, suspectMsg 3, aliveMsg 4 and deadMsg 5 with
-- Incarnation).
use Rattle.std.specs.Prelude.{ℕ, ◌==◌, ◌||◌, nat_eq, nat_le, Bool, false, if◌then◌else◌, List, [], ◌∷◌, codes, Option, Some, None}
use Rattle.std.specs.List.{starts_with}
use Rattle.serf_packets.specs.declared.framing.Framing.{Framing}
use Rattle.serf_packets.specs.declared.framing.Framing.TheVariants.{Probe, Rumour, Compound, User, Compressed, Checksum}

-- whether a text occurs somewhere in the bytes
abbrev pub has_text : List ℕ → List ℕ → Bool
has_text text [] = false
has_text text (first ∷ rest) = starts_with nat_eq (first ∷ rest) text || has_text text rest

-- a packet with this key is a message of memberlist itself
abbrev pub own_in : Framing → List ℕ → List ℕ → Option Framing
own_in framing key rest = if has_text key rest then Some framing else None

-- the type of a message of Serf follows the 8
abbrev pub user_in : List ℕ → Option Framing
user_in [] = None
user_in (kind ∷ rest) = if nat_le kind 9 then Some User else None

abbrev pub framing_in : List ℕ → Option Framing
framing_in [] = None
framing_in (first ∷ rest) =
    if nat_le first 2 then own_in Probe (codes "SeqNo") rest
    else if nat_le first 5 then own_in Rumour (codes "Incarnation") rest
    else if first == 7 then Some Compound
    else if first == 8 then user_in rest
    else if first == 9 then Some Compressed
    else if first == 12 then Some Checksum
    else None
