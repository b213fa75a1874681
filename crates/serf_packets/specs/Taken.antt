-- Which texts are accepted.
use Rattle.std.specs.Prelude.{◌≡◌, ℕ, List, false, Ok}
use Rattle.hex.specs.Hex.{IsBytes}
use Rattle.serf_wire.specs.Canonical.{canonical, has_long}
use Rattle.serf_wire.specs.Decoded.{decoded}
use Rattle.serf_wire.specs.Message.{Message}
use Rattle.serf_wire.specs.Ranges.{InRange}
use Rattle.serf_text.specs.MessageText.{text_or_error}
use Rattle.serf_packets.specs.Encoded.{encoded}

-- if the canonical packet of a message is decoded to a text, this text is encoded to the packet
abbrev pub TextsAreTaken : Type 0
TextsAreTaken = (m : Message) (text : List ℕ) → InRange m → has_long m ≡ false → IsBytes (canonical m)
    → text_or_error (decoded (canonical m)) ≡ Ok text → encoded text ≡ Ok (canonical m)

-- a message whose canonical packet consists of bytes, and that has nothing too long for a packet
pub record FitsPacket (m : Message) : Type 0 where
  pub bytes : IsBytes (canonical m)
  pub short : has_long m ≡ false

-- if two packets are decoded to the same text, the canonical packets of their messages are equal
abbrev pub TextsTellApart : Type 0
TextsTellApart = (p q : List ℕ) (m n : Message) → decoded p ≡ Ok m → decoded q ≡ Ok n → FitsPacket m → FitsPacket n
    → text_or_error (decoded p) ≡ text_or_error (decoded q) → canonical m ≡ canonical n
