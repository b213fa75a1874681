-- An event or a query that is new and within the window is accepted, or its time is full.
use Rattle.serf_agent.proofs.Names.{Bool, Err, List, None, Ok, Option, Result, Some, [], arith, cond, false, inl, inr, map, nat_le, nat_lt, refl, subst, sym, true, ℕ, ◌+◌, ◌<◌, ◌∷◌, ◌≡◌, ◌≤◌, ◌⊎◌, cases_Bool, le-ltb, leb-true, All-nil, All, observed, decoded, Message, Query, foreign, push_pull, query, query_response, user_event, WireError, EventBody, Device, min_in, Failed, Kept, SnapshotView, opened, ClockKind, same_id, same_texts, TimedEntry, count_at, answers, ended, admission, received_as, texts_len, IdealAgent, Past, Track, HandsOutNew, IsFull, IsMet, KeepsSettings, TakesNew, TakesNewQueries, TellNoneAbove, entered_in, stood_in, IsDurable, MayGoOnLives, whatever, Act, Asks, Closes, Compacts, Fires, Gets, Hears, Opens, Saves, Takes, events_out, first_life, lived, query_admission, query_received_as, receive_read, unopened, IsSound, handed_by, IsOpenAt, TakesAt, TakesOrFull, TakingLaws, BringsQuery, OffersEvent, OffersQuery, TrackOf, event_track, got_query, queries_entered, query_track, IsTrackSound, of_life, track_reason, was_ever_entered, Config, Reason}
use Rattle.serf_agent.specs.declared.outcome.ReceiveError.TheVariants as receives
use Rattle.serf_agent.specs.Lives.{event_entry}
use Rattle.serf_agent.proofs.HandsOutLaws.{BelowHandsOut}
use Rattle.serf_agent.proofs.HandsOutLives.{Acting, Progress, progress-lived, events-acting, full-lived, queries-acting, stands-after}
use Rattle.serf_agent.proofs.KeptLifeLaws.{begins_durable}
use Rattle.serf_agent.proofs.LifeLaws.{keeps-first}
use Rattle.serf_agent.proofs.MetLaws.{Tells, ever-met, has-met-life, tells_ids, tells_texts}

-- ---- what is admitted

-- if `IsOpenAt` is true of a track, it accepts an entry that was never met, or the entry's time is full
track-admits : {K : Type 0} (same : K → K → Bool) → Tells same → (kind : ClockKind) (n k t life last : ℕ) (handed stood : List (TimedEntry K)) (track : Track K) (s : SnapshotView) (what : K) → IsTrackSound track life last → IsOpenAt kind n t handed stood track s → observed track.clock t ≤ t + n
    → (IsMet handed stood (record { time = t; key = what }) → ⊥) → (track_reason same n k life track t what ≡ None) ⊎ IsFull k t handed stood
track-admits same tells kind n k t life last handed stood track s what sound o young new =
    elim (cases_Bool (nat_le k (count_at (of_life life track.history) t))) [
      | inl full ↦ inr (inl (has-met-life k t life handed stood track.history sound.distinct o.known (leb-true _ _ full)))
      | inr room ↦ inl (rw (below, old, seen, room) refl)
    ]
  where
    below : nat_lt t track.minimum ≡ false
    below = le-ltb t track.minimum (omega (arith, o.minimum, o.last, young))

    old : nat_lt (t + n) (observed track.clock t) ≡ false
    old = le-ltb (t + n) (observed track.clock t) young

    seen : was_ever_entered same track.history t what ≡ false
    seen = elim (cases_Bool (was_ever_entered same track.history t what)) [
      | inl is ↦ absurd (new (ever-met same tells (IsMet handed stood) track.history (record { time = t; key = what }) o.known is))
      | inr never ↦ never
    ]

event-admits : (t : ℕ) (config : Config) (handed stood : List (TimedEntry EventBody)) (i : IdealAgent) (what : EventBody) → IsSound i → TakesAt event_track t config handed stood i → texts_len what ≤ 9216 → observed i.events.clock t ≤ t + config.event_buffer → (IsMet handed stood (record { time = t; key = what }) → ⊥)
    → (admission i t what ≡ None) ⊎ IsFull config.per_time t handed stood
event-admits t config handed stood i what sound s short young new =
    elim (subst (λ (c : Config). (track_reason same_texts c.event_buffer c.per_time i.life i.events t what ≡ None) ⊎ IsFull config.per_time t handed stood) (sym s.settings)
    (track-admits same_texts tells_texts _ config.event_buffer config.per_time t i.life i.snapshot.event_clock handed stood i.events i.snapshot what sound.events s.opens young new)) [
      | inl none ↦ inl (rw (le-ltb 9216 (texts_len what) short) none)
      | inr full ↦ inr full
    ]

query-admits : (t : ℕ) (config : Config) (handed stood : List (TimedEntry ℕ)) (i : IdealAgent) (id : ℕ) → IsSound i → TakesAt query_track t config handed stood i → Unit {0} → observed i.queries.clock t ≤ t + config.query_buffer → (IsMet handed stood (record { time = t; key = id }) → ⊥)
    → (query_admission i t id ≡ None) ⊎ IsFull config.per_time t handed stood
query-admits t config handed stood i id sound s short young new =
    subst (λ (c : Config). (track_reason same_id c.query_buffer c.per_time i.life i.queries t id ≡ None) ⊎ IsFull config.per_time t handed stood) (sym s.settings)
    (track-admits same_id tells_ids _ config.query_buffer config.per_time t i.life i.snapshot.query_clock handed stood i.queries i.snapshot id sound.queries s.opens young new)

-- ---- the offer

-- what is admitted is handed out, if its line is kept
handed-out : (i : IdealAgent) (t : ℕ) (what : EventBody) (flag : Bool) (r : Option Reason) → r ≡ None → map event_entry (handed_by (ended i (received_as r i t what flag) Kept).answer) ≡ record { time = t; key = what } ∷ []
handed-out i t what flag (Some reason) none = absurd (cc none)
handed-out i t what flag None none = refl

event-offered : (i : IdealAgent) (e : TimedEntry EventBody) (offer : Act) → OffersEvent e offer → i.snapshot.stopped ≡ false → admission i e.time e.key ≡ None → events_out i offer ≡ e ∷ []
event-offered i e (Takes other Kept) same runs new = subst (λ (x : TimedEntry EventBody). events_out i (Takes x Kept) ≡ e ∷ []) (sym same) (handed-out i e.time e.key false (admission i e.time e.key) new)
event-offered i e (Takes other (Failed durable)) none runs new = absurd none
event-offered i e (Gets tags now packet Kept) h runs new =
    subst (λ (b : Bool). map event_entry (handed_by (ended i (cond b (answers i (Err receives.Stopped)) (receive_read tags i now (decoded packet))) Kept).answer) ≡ e ∷ []) (sym runs)
    (subst (λ (r : Result Message WireError). map event_entry (handed_by (ended i (receive_read tags i now r) Kept).answer) ≡ e ∷ []) (sym h.1) (handed-out i e.time e.key h.0 (admission i e.time e.key) new))
event-offered i e (Gets tags now packet (Failed durable)) none runs new = absurd none
event-offered i e (Fires what flag w) none runs new = absurd none
event-offered i e (Asks now id name payload params w) none runs new = absurd none
event-offered i e (Hears m is_join w) none runs new = absurd none
event-offered i e (Saves w) none runs new = absurd none
event-offered i e (Compacts w) none runs new = absurd none
event-offered i e (Closes now) none runs new = absurd none
event-offered i e (Opens config text d) none runs new = absurd none

-- a query that is admitted enters, if its line is kept
query-enters : (tags : Bool) (i : IdealAgent) (now : ℕ) (q : Query) (r : Option Reason) → r ≡ None → got_query (Ok (query q)) (ended i (query_received_as tags r i now q) Kept).answer ≡ record { time = q.time; key = q.id } ∷ []
query-enters tags i now q (Some reason) none = absurd (cc none)
query-enters tags i now q None none = refl

query-read : (tags : Bool) (i : IdealAgent) (now : ℕ) (e : TimedEntry ℕ) (r : Result Message WireError) → BringsQuery e r → query_admission i e.time e.key ≡ None → got_query r (ended i (receive_read tags i now r) Kept).answer ≡ e ∷ []
query-read tags i now e (Ok (query q)) brings new =
    let same : (record { time = q.time; key = q.id }) ≡ e = (λ k. record { time = brings.0 k; key = brings.1 k }) in
    let none : query_admission i q.time q.id ≡ None = subst (λ (x : TimedEntry ℕ). query_admission i x.time x.key ≡ None) (sym same) new in
    subst (λ (x : TimedEntry ℕ). got_query (Ok (query q)) (ended i (receive_read tags i now (Ok (query q))) Kept).answer ≡ x ∷ []) same (query-enters tags i now q (query_admission i q.time q.id) none)
query-read tags i now e (Ok (user_event u)) none new = absurd none
query-read tags i now e (Ok (query_response r)) none new = absurd none
query-read tags i now e (Ok (push_pull m)) none new = absurd none
query-read tags i now e (Ok (foreign kind)) none new = absurd none
query-read tags i now e (Err error) none new = absurd none

query-offered : (i : IdealAgent) (e : TimedEntry ℕ) (offer : Act) → OffersQuery e offer → i.snapshot.stopped ≡ false → query_admission i e.time e.key ≡ None → queries_entered i offer ≡ e ∷ []
query-offered i e (Gets tags now packet Kept) brings runs new =
    subst (λ (b : Bool). got_query (decoded packet) (ended i (cond b (answers i (Err receives.Stopped)) (receive_read tags i now (decoded packet))) Kept).answer ≡ e ∷ []) (sym runs) (query-read tags i now e (decoded packet) brings new)
query-offered i e (Gets tags now packet (Failed durable)) none runs new = absurd none
query-offered i e (Takes other w) none runs new = absurd none
query-offered i e (Fires what flag w) none runs new = absurd none
query-offered i e (Asks now id name payload params w) none runs new = absurd none
query-offered i e (Hears m is_join w) none runs new = absurd none
query-offered i e (Saves w) none runs new = absurd none
query-offered i e (Compacts w) none runs new = absurd none
query-offered i e (Closes now) none runs new = absurd none
query-offered i e (Opens config text d) none runs new = absurd none

-- ---- what is promised

begins : {K : Type 0} (which : TrackOf K) → Acting which → (t : ℕ) (config : Config) (text : List ℕ) (d : Device) → (which.track (unopened config (opened text d))).history ≡ [] → config.keep_events ≡ true → min_in which.kind text ≤ t
    → TakesOrFull which t config [] (which.kept whatever text) (first_life config text d).agent
begins {K} which acting t config text d empty on lowest =
    acting.opens t config [] [] (unopened config (opened text d)) text d on refl (subst (λ (h : List (Past K)). All (λ (p : Past K). IsMet [] [] p.entry) h) (sym empty) (All-nil (λ (p : Past K). IsMet [] [] p.entry))) (omega (arith, lowest))

-- The further lemmas that are proved separately for each track.
pub record Offering {K : Type 0} (which : TrackOf K) : Type 0 where
  pub acting : Acting which
  pub first : (config : Config) (text : List ℕ) (d : Device) → (which.track (unopened config (opened text d))).history ≡ []
  pub admits : (t : ℕ) (config : Config) (handed stood : List (TimedEntry K)) (i : IdealAgent) (what : K) → IsSound i → TakesAt which t config handed stood i → which.Short what → observed (which.track i).clock t ≤ t + which.slots config → (IsMet handed stood (record { time = t; key = what }) → ⊥)
      → (which.admission i t what ≡ None) ⊎ IsFull config.per_time t handed stood
  pub offered : (i : IdealAgent) (e : TimedEntry K) (offer : Act) → which.Offers e offer → i.snapshot.stopped ≡ false → which.admission i e.time e.key ≡ None → which.entered i offer ≡ e ∷ []

event-offering : BelowHandsOut → Offering event_track
event-offering laws = record { acting = events-acting laws; first = λ config text d. refl; admits = event-admits; offered = event-offered }

query-offering : BelowHandsOut → Offering query_track
query-offering laws = record { acting = queries-acting laws; first = λ config text d. refl; admits = query-admits; offered = query-offered }

taking : {K : Type 0} → BelowHandsOut → (which : TrackOf K) → Offering which → TakingLaws which
taking laws which offering = record {
  begins = λ t config text d on lowest. begins which offering.acting t config text d (offering.first config text d) on lowest;
  stays = λ t config handed stood i a on some sound durable takes go same told. stands-after laws which offering.acting t config handed stood i a on some (record { sound = sound; durable = durable; stands = takes }) go same told;
  takes = offering.admits;
}

pub taking_events : BelowHandsOut → TakingLaws event_track
taking_events laws = taking laws event_track (event-offering laws)

pub taking_queries : BelowHandsOut → TakingLaws query_track
taking_queries laws = taking laws query_track (query-offering laws)

takes-new : {K : Type 0} → BelowHandsOut → (which : TrackOf K) → Offering which → TakesNew which
takes-new {K} laws which offering = λ config text d acts offer e ok on go same offers runs short young lowest told new.
    let s = first_life config text d in
    let some : 0 < e.time = omega (arith, lowest, (laws.kept.durable.min_read which.kind text).0) in
    let first = begins which offering.acting e.time config text d (offering.first config text d) on lowest in
    let sound = (keeps-first laws.kept.life config text d ok).sound in
    let ends = ended-by config text d acts e.time on some sound (begins_durable laws.kept config text d) go same told first in
    by config text d acts offer e offers runs short young new ends
  where
    ended-by : (config : Config) (text : List ℕ) (d : Device) (acts : List Act) (t : ℕ) → config.keep_events ≡ true → 0 < t → (let s = first_life config text d in IsSound s.agent → IsDurable s.agent → MayGoOnLives s.agent acts → All (KeepsSettings config) acts → TellNoneAbove which t s.agent acts
        → TakesOrFull which t config [] (which.kept whatever text) s.agent
        → Progress which t config (entered_in which [] s.agent acts) (stood_in which (which.kept whatever text) acts) (lived s acts).agent ⊎ IsFull config.per_time t (entered_in which [] s.agent acts) (stood_in which (which.kept whatever text) acts))
    ended-by config text d acts t on some sound durable go same told (inl stands) = progress-lived laws which offering.acting t config acts (first_life config text d) [] (which.kept whatever text) on some (record { sound = sound; durable = durable; stands = stands }) go same told
    ended-by config text d acts t on some sound durable go same told (inr full) = inr (full-lived which config.per_time t acts [] (which.kept whatever text) (first_life config text d).agent full)

    by : (config : Config) (text : List ℕ) (d : Device) (acts : List Act) (offer : Act) (e : TimedEntry K) → (let s = first_life config text d in let before = (lived s acts).agent in let entered = entered_in which [] s.agent acts in let stood = stood_in which (which.kept whatever text) acts in which.Offers e offer → before.snapshot.stopped ≡ false → which.Short e.key
        → observed (which.track before).clock e.time ≤ e.time + which.slots config → (IsMet entered stood e → ⊥)
        → Progress which e.time config entered stood before ⊎ IsFull config.per_time e.time entered stood → (which.entered before offer ≡ e ∷ []) ⊎ IsFull config.per_time e.time entered stood)
    by config text d acts offer e offers runs short young new (inr full) = inr full
    by config text d acts offer e offers runs short young new (inl c) =
        let s = first_life config text d in
        elim (offering.admits e.time config (entered_in which [] s.agent acts) (stood_in which (which.kept whatever text) acts) (lived s acts).agent e.key c.sound c.stands short young new) [
          | inl none ↦ inl (offering.offered (lived s acts).agent e offer offers runs none)
          | inr full ↦ inr full
        ]

pub hands_out_new : BelowHandsOut → HandsOutNew
hands_out_new laws = takes-new laws event_track (event-offering laws)

pub takes_new_queries : BelowHandsOut → TakesNewQueries
takes_new_queries laws = takes-new laws query_track (query-offering laws)
