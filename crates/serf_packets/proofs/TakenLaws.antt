-- The texts that are encoded to packets.
use Rattle.serf_packets.proofs.Names.{Bool, List, [], ap, cond, false, refl, sym, true, ℕ, ◌∙◌, ◌≡◌, bytes_eq-Decides, Err, None, Option, Result, bytes_eq, IsBytes, canonical, has_long, decoded, Message, InRange, WireError, message_text, text_or_error, encoded_by, other_line, packet_meant, packet_of, said_by, encoded, message_meant, meant_by, rows_in}
use Rattle.std.specs.Prelude.{Some, Ok}

-- A text whose answer is a packet

-- an empty text means no message
no-text : packet_meant [] ≡ None
unfolding meant_by
no-text = refl

-- a text that isn't empty is the result
said : (r : Result (List ℕ) WireError) (text : List ℕ) → (text ≡ [] → ⊥) → said_by r ≡ text → r ≡ Ok text
said (Ok t) text some is = cc
said (Err f) text some is = absurd (some (sym is))

packet-by : (text packet : List ℕ) (p : Option (List ℕ)) → encoded_by text p ≡ Ok packet → (p ≡ Some packet) × (said_by (text_or_error (decoded packet)) ≡ text)
packet-by text packet None is = absurd (cc is)
packet-by text packet (Some q) is = by (bytes_eq (said_by (text_or_error (decoded q))) text) refl is
  where
    by : (b : Bool) → bytes_eq (said_by (text_or_error (decoded q))) text ≡ b → cond b (Ok q) (Err (other_line text (said_by (text_or_error (decoded q))))) ≡ Ok packet
        → (Some q ≡ Some packet) × (said_by (text_or_error (decoded packet)) ≡ text)
    by true e found =
        let same : q ≡ packet = cc found in
        (ap (λ k. Some k) same, ap (λ (k : List ℕ). said_by (text_or_error (decoded k))) (sym same) ∙ (bytes_eq-Decides (said_by (text_or_error (decoded q))) text).0 e)
    by false e found = absurd (cc found)

pub decodes_to_text : (text packet : List ℕ) → encoded text ≡ Ok packet → text_or_error (decoded packet) ≡ Ok text
unfolding encoded
decodes_to_text text packet is =
    let found = packet-by text packet (packet_meant text) is in
    said (text_or_error (decoded packet)) text (λ none. absurd (cc (ap packet_meant none ∙ no-text, found.0))) found.1

canonical-of : (m : Option Message) (packet : List ℕ) → packet_of m ≡ Some packet → (m : Message) × (packet ≡ canonical m)
canonical-of None packet is = absurd (cc is)
canonical-of (Some m) packet is = by (has_long m) is
  where
    by : (b : Bool) → cond b None (Some (canonical m)) ≡ Some packet → (m : Message) × (packet ≡ canonical m)
    by true found = absurd (cc found)
    by false found = (m, cc found)

pub is_canonical : (text packet : List ℕ) → encoded text ≡ Ok packet → (m : Message) × (packet ≡ canonical m)
unfolding encoded
is_canonical text packet is = canonical-of (message_meant (rows_in text)) packet (packet-by text packet (packet_meant text) is).0

-- A text that is read back

-- The text of a message is read back as a message with the same packet. It is the same message, except that a nil slot
-- may become a slot with a time.
pub record IsReadBack (m : Message) : Type 0 where
  pub back : Message
  pub meant : message_meant (rows_in (message_text m)) ≡ Some back
  pub short : has_long back ≡ false
  pub same : canonical back ≡ canonical m

abbrev pub ReadsBack : Message → Type 0
ReadsBack m = InRange m → IsBytes (canonical m) → has_long m ≡ false → IsReadBack m

-- if its canonical packet is decoded to exactly this message, the text of the message is encoded to this packet
pub taken_back : (m : Message) → IsReadBack m → decoded (canonical m) ≡ Ok m → encoded (message_text m) ≡ Ok (canonical m)
unfolding encoded
taken_back m b spelled =
    let same : bytes_eq (said_by (text_or_error (decoded (canonical m)))) (message_text m) ≡ true =
    (bytes_eq-Decides (said_by (text_or_error (decoded (canonical m)))) (message_text m)).1 (ap (λ r. said_by (text_or_error r)) spelled) in
    rw (b.meant, b.short, b.same, same) refl

-- messages with the same text have the same packet
pub one_packet : (m n : Message) → IsReadBack m → IsReadBack n → message_text m ≡ message_text n → canonical m ≡ canonical n
one_packet m n b c texts =
    let meant : message_meant (rows_in (message_text m)) ≡ message_meant (rows_in (message_text n)) = ap (λ t. message_meant (rows_in t)) texts in
    let one : b.back ≡ c.back = cc (b.meant, meant, c.meant) in
    sym b.same ∙ ap canonical one ∙ c.same
