-- The events in a packet of bytes can be written in lines.
use Rattle.serf_model.proofs.Names.{Err, List, Ok, Result, [], refl, ℕ, ◌∷◌, ◌≡◌, All-append, All-cons, All-nil, AllByRecursion, All, AreBytes, EventsHaveBytes, HasBytes, SlotHasBytes, decoded, DecodesBytes, Message, foreign, push_pull, query, query_response, user_event, SlotContent, empty, held, WireError, EventBody, event_of, TimedEntry, IsWritable, events_of, events_of_slot, events_brought, events_in_packet}

abbrev Written : TimedEntry EventBody → Type 0
Written e = IsWritable e.key

told-held : (t : ℕ) (es : List EventBody) → AllByRecursion HasBytes es → All Written (events_of_slot (held t es))
told-held t [] h = All-nil Written
told-held t (e ∷ es) h = All-cons Written (record { time = t; key = e }) (events_of_slot (held t es)) (record { name = h.0.name; payload = h.0.payload }) (told-held t es h.1)

told-slots : (ss : List SlotContent) → AllByRecursion SlotHasBytes ss → All Written (events_of ss)
told-slots [] h = All-nil Written
told-slots (empty ∷ ss) h = told-slots ss h.1
told-slots (held t es ∷ ss) h = All-append Written (events_of_slot (held t es)) (events_of ss) (told-held t es h.0) (told-slots ss h.1)

told-message : (m : Message) → EventsHaveBytes m → All Written (events_brought (Ok m))
told-message (user_event e) h = All-cons Written (record { time = e.time; key = event_of e.name e.payload }) [] (record { name = h.name; payload = h.payload }) (All-nil Written)
told-message (push_pull m) h = told-slots m.slots h
told-message (query q) h = All-nil Written
told-message (query_response r) h = All-nil Written
told-message (foreign kind) h = All-nil Written

pub told-packet : DecodesBytes → (packet : List ℕ) → AreBytes packet → All (λ e. IsWritable e.key) (events_in_packet packet)
told-packet brings packet all = by (decoded packet) refl
  where
    by : (r : Result Message WireError) → decoded packet ≡ r → All Written (events_brought r)
    by (Ok m) is = told-message m (brings packet m all is)
    by (Err f) is = All-nil Written
