-- Which events the packets that agents send carry.
use Rattle.serf_model.proofs.Names.{Bool, List, [], ap, arith, false, map, refl, subst, sym, ℕ, ◌-◌, ◌<◌, ◌==◌, ◌^◌, ◌∷◌, ◌≡◌, ◌≤◌, All-append, All-contains, All-filter, All-head, All-map, All-nil, All-tail, All-weaker, AllByRecursion, All, whole_at, has_long, without_events, canonical, decoded, PushPull, Query, UserEvent, push_pull, query, response_of, user_event, IsRangedPushPull, IsTimed, held, EventBody, event_of, SlotOf, TimedEntry, slots_of, event_packet, texts_len, IdealAgent, Past, events_of, events_of_slot, slot_sent, state_of, of_life, view_of, Below, IsRepresentable, events_brought, events_in_packet, query_brought}
use Rattle.serf_wire.specs.declared.layout.MessageType.TheVariants as types
use Rattle.serf_model.proofs.ReadCases.{read_has}

-- ---- an event's packet

pub events_in_packet-event : Below → (t : ℕ) (what : EventBody) (coalesce : Bool) → t < 2 ^ 64 - 1 → texts_len what ≤ 9216 → events_in_packet (event_packet t what coalesce) ≡ record { time = t; key = event_of what.name what.payload } ∷ []
events_in_packet-event lower t what coalesce small short =
    let e : UserEvent = record { time = t; name = what.name; payload = what.payload; coalesce = coalesce } in
    ap events_brought (lower.spelled (canonical (user_event e)) (user_event e) (lower.canonical (user_event e) small (lower.short.event_fits t what.name what.payload coalesce short)))

-- ---- packets of other types carry no events

following-query : (bytes : List ℕ) → events_in_packet (4 ∷ bytes) ≡ []
unfolding decoded
following-query bytes = read_has (λ r. events_brought r ≡ []) types.Query (whole_at 8 bytes) (λ f. refl) (λ ps. refl)

following-response : (bytes : List ℕ) → events_in_packet (5 ∷ bytes) ≡ []
unfolding decoded
following-response bytes = read_has (λ r. events_brought r ≡ []) types.QueryResponse (whole_at 8 bytes) (λ f. refl) (λ ps. refl)

pub events_in_packet-query : (q : Query) → events_in_packet (canonical (query q)) ≡ []
unfolding canonical
events_in_packet-query q = following-query _

pub events_in_packet-response : (t id : ℕ) (from : List ℕ) (flags : ℕ) (payload : List ℕ) → events_in_packet (canonical (response_of t id from flags payload)) ≡ []
unfolding canonical
events_in_packet-response t id from flags payload = following-response _

-- ---- packets of other types contain no query

query-following-event : (bytes : List ℕ) → query_brought (decoded (3 ∷ bytes)) ≡ []
unfolding decoded
query-following-event bytes = read_has (λ r. query_brought r ≡ []) types.UserEvent (whole_at 8 bytes) (λ f. refl) (λ ps. refl)

query-following-state : (bytes : List ℕ) → query_brought (decoded (2 ∷ bytes)) ≡ []
unfolding decoded
query-following-state bytes = read_has (λ r. query_brought r ≡ []) types.PushPull (whole_at 8 bytes) (λ f. refl) (λ ps. refl)

query-following-response : (bytes : List ℕ) → query_brought (decoded (5 ∷ bytes)) ≡ []
unfolding decoded
query-following-response bytes = read_has (λ r. query_brought r ≡ []) types.QueryResponse (whole_at 8 bytes) (λ f. refl) (λ ps. refl)

pub no-query-event : (t : ℕ) (what : EventBody) (coalesce : Bool) → query_brought (decoded (event_packet t what coalesce)) ≡ []
unfolding canonical
no-query-event t what coalesce = query-following-event _

pub no-query-state : (m : PushPull) → query_brought (decoded (canonical (push_pull m))) ≡ []
unfolding canonical
no-query-state m = query-following-state _

pub no-query-response : (t id : ℕ) (from : List ℕ) (flags : ℕ) (payload : List ℕ) → query_brought (decoded (canonical (response_of t id from flags payload))) ≡ []
unfolding canonical
no-query-response t id from flags payload = query-following-response _

-- ---- an agent's whole state carries what the agent entered in this life

-- what holds of all entries holds of everything in the slots
slots-carry : (P : TimedEntry EventBody → Type 0) (ss : List (SlotOf EventBody)) → All (λ s. All (λ what. P (record { time = s.time; key = what })) s.held) ss
    → All P (events_of (map without_events (map slot_sent ss)))
slots-carry P [] all = All-nil P
slots-carry P (s ∷ ss) all =
    All-append P _ (events_of (map without_events (map slot_sent ss)))
    (slot s.held (All-head (λ (s : SlotOf EventBody). All (λ what. P (record { time = s.time; key = what })) s.held) s ss all))
    (slots-carry P ss (All-tail (λ (s : SlotOf EventBody). All (λ what. P (record { time = s.time; key = what })) s.held) s ss all))
  where
    slot : (es : List EventBody) → All (λ what. P (record { time = s.time; key = what })) es → All P (events_of_slot (without_events (held s.time es)))
    slot [] all = All-nil P
    slot (e ∷ es) all = All-map P (λ (what : EventBody). record { time = s.time; key = what }) (e ∷ es) all

slots-timed : (ss : List (SlotOf EventBody)) → All (λ s. s.time < 2 ^ 64 - 1) ss → AllByRecursion IsTimed (map slot_sent ss)
slots-timed [] all = tt
slots-timed (s ∷ ss) all =
    let first : s.time < 2 ^ 64 - 1 = All-head (λ (s : SlotOf EventBody). s.time < 2 ^ 64 - 1) s ss all in
    (omega arith, slots-timed ss (All-tail (λ (s : SlotOf EventBody). s.time < 2 ^ 64 - 1) s ss all))

pub in-life : (P : TimedEntry EventBody → Type 0) (life : ℕ) (h : List (Past EventBody)) → All (λ p. P p.entry) h → All P (of_life life h)
in-life P life h all = All-map P (λ (p : Past EventBody). p.entry) _ (All-filter (λ (p : Past EventBody). p.life == life) (λ p. P p.entry) h all)

pub state-ranged : Below → (i : IdealAgent) → IsRepresentable i → IsRangedPushPull (state_of (view_of i) [] [])
state-ranged lower i g =
    let member_clock : i.member_clock ≤ 2 ^ 64 - 1 = g.consistent.sound.member_clock in
    let low : All (λ p. p.entry.time < 2 ^ 64 - 1) i.events.history =
    All-weaker (λ p. p.entry.time < i.events.clock) (λ p. p.entry.time < 2 ^ 64 - 1) (λ p h. omega (arith, g.events)) i.events.history g.consistent.sound.events.below_clock in
    record {
      member_clock = omega arith;
      status = tt;
      event_clock = omega (arith, g.events);
      slots = slots-timed (slots_of i.config.event_buffer (of_life i.life i.events.history))
          (lower.slots.below i.config.event_buffer (2 ^ 64 - 1) (of_life i.life i.events.history) (omega arith) (in-life (λ e. e.time < 2 ^ 64 - 1) i.life i.events.history low));
      query_clock = omega (arith, g.queries);
    }

-- what holds of each entry holds of everything in a slot, at the slot's time
pub slots-each : Below → (P : TimedEntry EventBody → Type 0) (n : ℕ) (es : List (TimedEntry EventBody)) → All P es → All (λ s. All (λ what. P (record { time = s.time; key = what })) s.held) (slots_of n es)
slots-each lower P n es each =
    All-weaker _ _ (λ s held. All-weaker _ _ (λ what there. All-contains P es (record { time = s.time; key = what }) each there) s.held held) (slots_of n es) (lower.slots.only_entered n es)

pub state-carries : Below → (P : TimedEntry EventBody → Type 0) (i : IdealAgent) → IsRepresentable i → has_long (push_pull (state_of (view_of i) [] [])) ≡ false → All (λ p. P p.entry) i.events.history → All P (events_in_packet (canonical (push_pull (state_of (view_of i) [] []))))
state-carries lower P i g short all =
    let m : PushPull = state_of (view_of i) [] [] in
    let reads = lower.spelled (canonical (push_pull m)) _ (lower.canonical (push_pull m) (state-ranged lower i g) short) in
    subst (All P) (sym (ap events_brought reads))
    (slots-carry P (slots_of i.config.event_buffer (of_life i.life i.events.history)) (slots-each lower P i.config.event_buffer (of_life i.life i.events.history) (in-life P i.life i.events.history all)))
