-- If a canonical packet is decoded to a text, this text is encoded to the packet.
use Rattle.serf_packets.proofs.Names.{Ok, [], ap, false, refl, subst, sym, ◌∙◌, ◌∷◌, ◌≡◌, IsBytes, is_long_slot, slot_bytes, without_empty_slots, without_events, canonical, has_long, decoded, CanonicalSpells, DecodesInRange, DecodesSpelled, Message, foreign, push_pull, query, query_response, user_event, SlotContent, empty, held, message_text, text_or_error, encoded, TextsAreTaken, TextsTellApart}
use Rattle.serf_packets.proofs.MessagesBack.{event_back, foreign_back, query_back, response_back}
use Rattle.serf_packets.proofs.StateBack.{IsUntold, push_pull_back, same_lengths, same_packet}
use Rattle.serf_packets.proofs.TakenLaws.{IsReadBack, ReadsBack, one_packet, taken_back}

back : (m : Message) → ReadsBack m
back (user_event e) = event_back e
back (query q) = query_back q
back (query_response r) = response_back r
back (push_pull m) = push_pull_back m
back (foreign kind) = foreign_back kind

-- Slots without events

emptied-bytes : (slot : SlotContent) → slot_bytes (without_events slot) ≡ slot_bytes slot
emptied-bytes empty = refl
emptied-bytes (held t []) = refl
emptied-bytes (held t (e ∷ es)) = refl

emptied-long : (slot : SlotContent) → is_long_slot (without_events slot) ≡ is_long_slot slot
emptied-long empty = refl
emptied-long (held t []) = refl
emptied-long (held t (e ∷ es)) = refl

abbrev emptied : IsUntold without_events
emptied = record { bytes = emptied-bytes; long = emptied-long }

same-packet : (m : Message) → (canonical (without_empty_slots m) ≡ canonical m) × (has_long (without_empty_slots m) ≡ has_long m)
same-packet (user_event e) = (refl, refl)
same-packet (query q) = (refl, refl)
same-packet (query_response r) = (refl, refl)
same-packet (push_pull m) = (same_packet without_events emptied m, same_lengths without_events emptied m)
same-packet (foreign kind) = (refl, refl)

-- the message that a canonical packet is decoded to is read back
spelled-back : DecodesInRange → (m : Message) → decoded (canonical m) ≡ Ok (without_empty_slots m) → IsBytes (canonical m) → has_long m ≡ false
    → (decoded (canonical (without_empty_slots m)) ≡ Ok (without_empty_slots m)) × IsReadBack (without_empty_slots m)
spelled-back ranged m spelled bytes short =
    let same = (same-packet m).0 in
    let again : decoded (canonical (without_empty_slots m)) ≡ Ok (without_empty_slots m) = ap decoded same ∙ spelled in
    (again, back (without_empty_slots m) (ranged (canonical (without_empty_slots m)) (without_empty_slots m) again) (subst IsBytes (sym same) bytes) ((same-packet m).1 ∙ short))

pub texts_taken : DecodesInRange → DecodesSpelled → CanonicalSpells → TextsAreTaken
texts_taken ranged exact canonicals m text fits short bytes says =
    let same = (same-packet m).0 in
    let spelled : decoded (canonical m) ≡ Ok (without_empty_slots m) = (exact (canonical m) (without_empty_slots m)).1 (canonicals m fits short) in
    let said : message_text (without_empty_slots m) ≡ text = cc (ap text_or_error spelled, says) in
    let here = spelled-back ranged m spelled bytes short in
    ap encoded (sym said)
    ∙ taken_back (without_empty_slots m) here.1 here.0
    ∙ ap (λ packet. Ok packet) same

pub texts_tell_apart : DecodesInRange → TextsTellApart
texts_tell_apart ranged p q m n reads_p reads_q fits_m fits_n says =
    let texts : message_text m ≡ message_text n = cc (ap text_or_error reads_p, ap text_or_error reads_q, says) in
    one_packet m n (back m (ranged p m reads_p) fits_m.bytes fits_m.short) (back n (ranged q n reads_q) fits_n.bytes fits_n.short) texts
