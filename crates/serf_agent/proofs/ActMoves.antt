-- How an act changes an agent, through the lines that it appends: if each appended line preserves a property of agents,
-- so does each act.
use Rattle.serf_agent.proofs.Names.{Bool, Err, List, None, Ok, Option, Result, Some, [], arith, cond, false, inl, inr, map, nat_le, nat_lt, refl, subst, sym, true, ℕ, ◌&&◌, ◌-◌, ◌<◌, ◌^◌, ◌∷◌, ◌≡◌, ◌≢◌, ◌≤◌, ◌⊎◌, and_parts, leb-false, ltb-false, All, decoded, DecodesInRange, Message, PushPull, Query, QueryResponse, foreign, push_pull, query, query_response, user_event, InRange, WireError, EventBody, min_line, Failed, Kept, MayReplaceBy, Writing, noted, text_replaced, written, event_of, same_texts, TimedEntry, AsksSink, MayEnd, answers, ended, admission, drawn, event_entered, event_observed, fire_error, fired_as, is_too_large, received_as, texts_len, written_event, DeliveredQuery, IdealAgent, Track, with_fired_queries, with_snapshot, IsMessageWritable, IsActWritable, IsIdWritable, IsWritable, Act, Asks, Closes, Compacts, Fires, Gets, Hears, MayAct, Opens, Saves, Takes, after, fired_query_entries, events_out, fired_entries, got_entries, queries_out, query_entries, all_pass, answer_ignore_reason, fired_query_at, close_due, counts_where, handed_if_passed, handed_query, is_ack, is_full, is_no_timeout, is_too_large_query, query_admission, query_opened, query_at, query_entered, query_error, query_fired_as, query_observed, query_received_as, response_received_as, response_received_at, written_query, with_fired_query_at, receive_message, receive_read, IsSound, compact, handed_by, heard_by, joined, written_lines, MayAppendLine, appended_with, text_with, asked_query, got_query, queries_entered, track_reason, view_of, OpenQuery, FireError, QueryError, QueryParams, Reason, BelowMinimum, ReceiveError}
use Rattle.serf_snapshot.specs.declared.kind.ClockKind.TheVariants as kinds
use Rattle.serf_agent.specs.declared.outcome.FireError.TheVariants as fires
use Rattle.serf_agent.specs.declared.outcome.QueryError.TheVariants as asks_errors
use Rattle.serf_agent.specs.declared.outcome.ReceiveError.TheVariants as receives
use Rattle.serf_agent.specs.Lives.{event_entry}
use Rattle.serf_agent.specs.Queries.{counted}
use Rattle.serf_agent.proofs.LineLaws.{compacts_so, saves_so}
use Rattle.serf_agent.proofs.SoundLaws.{admission-new, query_admission-new, sound-closed, sound-counted, sound-event_observed, sound-query_observed}
use Rattle.serf_agent.proofs.StepLaws.{small-short}
use Rattle.serf_agent.proofs.TrackLaws.{later-fresh, none-from}

-- nothing of a track changes except its clock, which doesn't fall
pub record IsSeen {K : Type 0} (track next : Track K) : Type 0 where
  pub clock : track.clock ≤ next.clock
  pub history : next.history ≡ track.history
  pub minimum : next.minimum ≡ track.minimum

pub record IsQuiet (i j : IdealAgent) : Type 0 where
  pub settings : j.config ≡ i.config
  pub snapshot : j.snapshot ≡ i.snapshot
  pub events : IsSeen i.events j.events
  pub queries : IsSeen i.queries j.queries

-- A property of an agent, of the events that were handed out, of the queries that entered, and of the queries that were
-- handed out.
abbrev pub Property : Type 1
Property = IdealAgent → List (TimedEntry EventBody) → List (TimedEntry ℕ) → List (TimedEntry ℕ) → Type 0

-- what is known of an event that enters
pub record EventEnters (i : IdealAgent) (t : ℕ) (what : EventBody) : Type 0 where
  pub runs : i.snapshot.stopped ≡ false
  pub from : i.events.minimum ≤ t
  pub small : t < 2 ^ 64 - 1
  pub short : texts_len what ≤ 9216
  pub fresh : All (λ p. p.entry ≢ record { time = t; key = what }) i.events.history

-- what is known of a query that enters
pub record QueryEnters (i : IdealAgent) (t id : ℕ) : Type 0 where
  pub runs : i.snapshot.stopped ≡ false
  pub from : i.queries.minimum ≤ t
  pub small : t < 2 ^ 64 - 1
  pub fresh : All (λ p. p.entry ≢ record { time = t; key = id }) i.queries.history

-- what is handed out is the query that entered, or nothing
abbrev pub IsPassed : ℕ → ℕ → List (TimedEntry ℕ) → Type 0
IsPassed t id out = (out ≡ record { time = t; key = id } ∷ []) ⊎ (out ≡ [])

-- What must be shown of a property for each line that an act appends. If the act's texts and IDs can be written in
-- lines (`Written`), so can what enters.
pub record Noting (i : IdealAgent) (Written : Type 0) (P : Property) : Type 0 where
  pub quiet : (j : IdealAgent) → IsQuiet i j → IsSound j → P j [] [] []
  pub event : (t : ℕ) (what : EventBody) → EventEnters i t what → (Written → IsWritable what)
      → P (with_snapshot (appended_with kinds.Event t (written_event i.config t what) i.snapshot Kept) (event_entered t what i)) (record { time = t; key = what } ∷ []) [] []
  pub event_fails : (t : ℕ) (what : EventBody) (durable : Option (List ℕ)) → i.snapshot.stopped ≡ false → t < 2 ^ 64 - 1 → MayAppendLine kinds.Event t (written_event i.config t what) i.snapshot (Failed durable)
      → P (with_snapshot (written kinds.Event t i.snapshot (Failed durable)) i) [] [] []
  pub query : (t id : ℕ) (out : List (TimedEntry ℕ)) → QueryEnters i t id → (Written → IsIdWritable id) → IsPassed t id out
      → P (with_snapshot (appended_with kinds.Query t (written_query i.config t id) i.snapshot Kept) (query_entered t id i)) [] (record { time = t; key = id } ∷ []) out
  pub asks : (now : ℕ) (q : Query) (out : List (TimedEntry ℕ)) → q.time ≡ i.queries.clock → QueryEnters i q.time q.id → (Written → IsIdWritable q.id) → IsPassed q.time q.id out
      → P (with_snapshot (appended_with kinds.Query q.time (written_query i.config q.time q.id) i.snapshot Kept) (query_opened now q i)) [] (record { time = q.time; key = q.id } ∷ []) out
  pub query_fails : (t id : ℕ) (durable : Option (List ℕ)) → i.snapshot.stopped ≡ false → t < 2 ^ 64 - 1 → (Written → IsIdWritable id) → MayAppendLine kinds.Query t (written_query i.config t id) i.snapshot (Failed durable)
      → P (with_snapshot (written kinds.Query t i.snapshot (Failed durable)) i) [] [] []
  pub saves : (t : ℕ) → t < 2 ^ 64 - 1 → i.snapshot.stopped ≡ false → P (with_snapshot (noted kinds.Member t i.snapshot Kept) i) [] [] []
  pub save_fails : (t : ℕ) (durable : Option (List ℕ)) → i.snapshot.stopped ≡ false → MayAppendLine kinds.Member t None i.snapshot (Failed durable) → P (with_snapshot (written kinds.Member t i.snapshot (Failed durable)) i) [] [] []

pub same-track : {K : Type 0} (track : Track K) → IsSeen track track
same-track track = record { clock = omega arith; history = refl; minimum = refl }

same-agent : (i : IdealAgent) → IsQuiet i i
same-agent i = record { settings = refl; snapshot = refl; events = same-track i.events; queries = same-track i.queries }

-- ---- events

-- what is admitted isn't below the minimum time
event-from : (i : IdealAgent) (t : ℕ) (what : EventBody) → admission i t what ≡ None → i.events.minimum ≤ t
event-from i t what none =
    let parts = none-from (nat_lt 9216 (texts_len what)) _ (track_reason same_texts i.config.event_buffer i.config.per_time i.life i.events t what) none in
    ltb-false t i.events.minimum (none-from (nat_lt t i.events.minimum) BelowMinimum _ parts.1).0

received : {T : Type 0} (i : IdealAgent) (P : Property) → IsSound i → Noting i T P → (t : ℕ) (what : EventBody) (flag : Bool) (w : Writing) (r : Option Reason) → admission i t what ≡ r → i.snapshot.stopped ≡ false → t < 2 ^ 64 - 1 → (T → IsWritable what) → MayEnd i (received_as r i t what flag) w
    → (let step = ended i (received_as r i t what flag) w in P step.agent (map event_entry (handed_by step.answer)) [] [])
received i P s n t what flag w (Some reason) is runs small told may =
    n.quiet (event_observed t i) (record { settings = refl; snapshot = refl; events = record { clock = omega arith; history = refl; minimum = refl }; queries = same-track i.queries }) (sound-event_observed t i s)
received i P s n t what flag Kept None is runs small told may =
    let new = admission-new i t what is in
    n.event t what (record { runs = runs; from = event-from i t what is; small = small; short = new.0; fresh = new.1 }) told
received i P s n t what flag (Failed durable) None is runs small told may = n.event_fails t what durable runs small may

-- an event hands out no query
no-queries : (i : IdealAgent) (t : ℕ) (what : EventBody) (flag : Bool) (w : Writing) (r : Option Reason) → got_entries (ended i (received_as r i t what flag) w).answer ≡ []
no-queries i t what flag w (Some reason) = refl
no-queries i t what flag Kept None = refl
no-queries i t what flag (Failed durable) None = refl

fired : {T : Type 0} (i : IdealAgent) (P : Property) → IsSound i → Noting i T P → (what : EventBody) (flag : Bool) (w : Writing) (r : Option FireError) → fire_error i what flag ≡ r → (T → IsWritable what) → MayEnd i (fired_as r i what flag) w
    → P (ended i (fired_as r i what flag) w).agent (fired_entries (ended i (fired_as r i what flag) w).answer) [] []
fired i P s n what flag w (Some error) is told may = n.quiet i (same-agent i) s
fired i P s n what flag w None is told may = by w may
  where
    large : Bool
    large = is_too_large i.config.event_limit (drawn i.events.clock) what flag

    spent : Bool
    spent = nat_le (2 ^ 64 - 1) i.events.clock

    runs : (i.snapshot.stopped ≡ false) × (large ≡ false) × (i.events.clock < 2 ^ 64 - 1)
    runs =
        let a = none-from i.snapshot.stopped fires.Stopped (cond large (Some fires.TooLarge) (cond spent (Some fires.Exhausted) None)) is in
        let b = none-from large fires.TooLarge (cond spent (Some fires.Exhausted) None) a.1 in
        (a.0, b.0, leb-false (2 ^ 64 - 1) i.events.clock (none-from spent fires.Exhausted None b.1).0)

    by : (w : Writing) → MayEnd i (fired_as None i what flag) w → P (ended i (fired_as None i what flag) w).agent (fired_entries (ended i (fired_as None i what flag) w).answer) [] []
    by Kept m = n.event i.events.clock what (record {
      runs = runs.0;
      from = s.events.minimum;
      small = runs.2;
      short = small-short i (drawn i.events.clock) what flag s runs.1;
      fresh = later-fresh i.events.history i.events.clock what s.events.below_clock;
    }) told
    by (Failed durable) m = n.event_fails i.events.clock what durable runs.0 runs.2 m

-- ---- queries

query-from : (i : IdealAgent) (t id : ℕ) → query_admission i t id ≡ None → i.queries.minimum ≤ t
query-from i t id none = ltb-false t i.queries.minimum (none-from (nat_lt t i.queries.minimum) BelowMinimum _ none).0

-- what is handed out is the query or nothing, depending on whether its filters let the node pass
passed : (h : DeliveredQuery) (b : Bool) → IsPassed h.time h.id (query_entries (cond b (Some h) None))
passed h true = inl refl
passed h false = inr refl

query-received : {T : Type 0} (i : IdealAgent) (P : Property) → IsSound i → Noting i T P → (tags : Bool) (now : ℕ) (q : Query) (w : Writing) (r : Option Reason) → query_admission i q.time q.id ≡ r → i.snapshot.stopped ≡ false → q.time < 2 ^ 64 - 1 → q.id < 2 ^ 32 → MayEnd i (query_received_as tags r i now q) w
    → (let step = ended i (query_received_as tags r i now q) w in P step.agent (map event_entry (handed_by step.answer)) (got_query (Ok (query q)) step.answer) (got_entries step.answer))
query-received i P s n tags now q w (Some reason) is runs small low may =
    n.quiet (query_observed q.time i) (record { settings = refl; snapshot = refl; events = same-track i.events; queries = record { clock = omega arith; history = refl; minimum = refl } }) (sound-query_observed q.time i s)
query-received i P s n tags now q Kept None is runs small low may =
    n.query q.time q.id (query_entries (handed_if_passed tags i.config now q)) (record { runs = runs; from = query-from i q.time q.id is; small = small; fresh = query_admission-new i q.time q.id is })
    (λ told. low) (passed (handed_query i.config now q) (all_pass tags q.filters i.config.name))
query-received i P s n tags now q (Failed durable) None is runs small low may = n.query_fails q.time q.id durable runs small (λ told. low) may

query-fired : {T : Type 0} (i : IdealAgent) (P : Property) → IsSound i → Noting i T P → (now id : ℕ) (name payload : List ℕ) (params : QueryParams) (w : Writing) (r : Option QueryError) → (T → IsIdWritable id) → query_error i id name payload params ≡ r
    → (let q = query_at i.queries.clock i.config.name id name payload params in MayEnd i (query_fired_as params.tags_pass r i now q) w
    → (let step = ended i (query_fired_as params.tags_pass r i now q) w in P step.agent [] (asked_query id step.answer) (fired_query_entries step.answer)))
query-fired i P s n now id name payload params w (Some error) low is may = n.quiet i (same-agent i) s
query-fired i P s n now id name payload params w None low is may = by w may
  where
    q : Query
    q = query_at i.queries.clock i.config.name id name payload params

    large : Bool
    large = is_too_large_query i.config i.queries.clock id name payload params

    none : Bool
    none = is_no_timeout params.timeout

    spent : Bool
    spent = nat_le (2 ^ 64 - 1) i.queries.clock

    runs : (i.snapshot.stopped ≡ false) × (i.queries.clock < 2 ^ 64 - 1)
    runs =
        let a = none-from i.snapshot.stopped asks_errors.Stopped (cond large (Some asks_errors.TooLarge) (cond none (Some asks_errors.ZeroTimeout) (cond spent (Some asks_errors.Exhausted) None))) is in
        let b = none-from large asks_errors.TooLarge (cond none (Some asks_errors.ZeroTimeout) (cond spent (Some asks_errors.Exhausted) None)) a.1 in
        let d = none-from none asks_errors.ZeroTimeout (cond spent (Some asks_errors.Exhausted) None) b.1 in
        (a.0, leb-false (2 ^ 64 - 1) i.queries.clock (none-from spent asks_errors.Exhausted None d.1).0)

    by : (w : Writing) → MayEnd i (query_fired_as params.tags_pass None i now q) w → (let step = ended i (query_fired_as params.tags_pass None i now q) w in P step.agent [] (asked_query id step.answer) (fired_query_entries step.answer))
    by Kept m =
        n.asks now q (query_entries (handed_if_passed params.tags_pass i.config now q)) refl
        (record { runs = runs.0; from = s.queries.minimum; small = runs.1; fresh = later-fresh i.queries.history i.queries.clock id s.queries.below_clock })
        low (passed (handed_query i.config now q) (all_pass params.tags_pass q.filters i.config.name))
    by (Failed durable) m = n.query_fails i.queries.clock id durable runs.0 runs.1 low m

response : {T : Type 0} (i : IdealAgent) (P : Property) → IsSound i → Noting i T P → (now : ℕ) (r : QueryResponse) (w : Writing) (o : Option OpenQuery) → fired_query_at r.time i.fired_queries ≡ o
    → (let step = ended i (response_received_at o i now r) w in P step.agent (map event_entry (handed_by step.answer)) [] (got_entries step.answer))
response i P s n now r w None at = n.quiet i (same-agent i) s
response i P s n now r w (Some q) at = by (answer_ignore_reason now r q) refl
  where
    next : IdealAgent
    next = with_fired_queries (with_fired_query_at r.time (counted r q) i.fired_queries) i

    counts : answer_ignore_reason now r q ≡ None → P next [] [] []
    counts none = n.quiet next (record { settings = refl; snapshot = refl; events = same-track i.events; queries = same-track i.queries }) (sound-counted now r q i s at none)

    full : (b ack : Bool) → answer_ignore_reason now r q ≡ None → (let step = ended i (counts_where b ack i r q) w in P step.agent (map event_entry (handed_by step.answer)) [] (got_entries step.answer))
    full true ack none = n.quiet i (same-agent i) s
    full false true none = counts none
    full false false none = counts none

    by : (x : Option Reason) → answer_ignore_reason now r q ≡ x → (let step = ended i (response_received_as x i r q) w in P step.agent (map event_entry (handed_by step.answer)) [] (got_entries step.answer))
    by (Some reason) is = n.quiet i (same-agent i) s
    by None is = full (is_full i.config.responders r q) (is_ack r) is

-- ---- packets

message : {T : Type 0} (i : IdealAgent) (P : Property) → IsSound i → Noting i T P → (tags : Bool) (now : ℕ) (m : Message) (w : Writing) → i.snapshot.stopped ≡ false → InRange m → (T → IsMessageWritable m) → MayEnd i (receive_message tags i now m) w
    → (let step = ended i (receive_message tags i now m) w in P step.agent (map event_entry (handed_by step.answer)) (got_query (Ok m) step.answer) (got_entries step.answer))
message i P s n tags now (user_event e) w runs ranged told may =
    let what = event_of e.name e.payload in
    let step = ended i (receive_message tags i now (user_event e)) w in
    subst (P step.agent (map event_entry (handed_by step.answer)) []) (sym (no-queries i e.time what e.coalesce w (admission i e.time what)))
    (received i P s n e.time what e.coalesce w (admission i e.time what) refl runs ranged told may)
message i P s n tags now (query q) w runs ranged told may = query-received i P s n tags now q w (query_admission i q.time q.id) refl runs ranged.time ranged.id may
message i P s n tags now (query_response r) w runs ranged told may = response i P s n now r w (fired_query_at r.time i.fired_queries) refl
message i P s n tags now (push_pull m) w runs ranged told may = n.quiet i (same-agent i) s
message i P s n tags now (foreign kind) w runs ranged told may = n.quiet i (same-agent i) s

read : {T : Type 0} → DecodesInRange → (i : IdealAgent) (P : Property) → IsSound i → Noting i T P → (tags : Bool) (now : ℕ) (packet : List ℕ) (r : Result Message WireError) (w : Writing) → i.snapshot.stopped ≡ false → (T → (m : Message) → decoded packet ≡ Ok m → IsMessageWritable m) → decoded packet ≡ r → MayEnd i (receive_read tags i now r) w
    → (let step = ended i (receive_read tags i now r) w in P step.agent (map event_entry (handed_by step.answer)) (got_query r step.answer) (got_entries step.answer))
read ranged i P s n tags now packet (Ok m) w runs told is may = message i P s n tags now m w runs (ranged packet m is) (λ h. told h m is) may
read ranged i P s n tags now packet (Err error) w runs told is may = n.quiet i (same-agent i) s

-- if there is an error, no query enters
got-none : (r : Result Message WireError) (error : ReceiveError) → got_query r (Err error) ≡ []
got-none (Ok (user_event e)) error = refl
got-none (Ok (query q)) error = refl
got-none (Ok (query_response r)) error = refl
got-none (Ok (push_pull m)) error = refl
got-none (Ok (foreign kind)) error = refl
got-none (Err e) error = refl

got : DecodesInRange → (tags : Bool) (now : ℕ) (packet : List ℕ) (w : Writing) (i : IdealAgent) (P : Property) → (let a = Gets tags now packet w in IsSound i → Noting i (IsActWritable a) P → MayAct i a → P (after i a) (events_out i a) (queries_entered i a) (queries_out i a))
got ranged tags now packet w i P s n may = by i.snapshot.stopped refl may
  where
    by : (b : Bool) → i.snapshot.stopped ≡ b → MayEnd i (cond b (answers i (Err receives.Stopped)) (receive_read tags i now (decoded packet))) w
        → (let step = ended i (cond b (answers i (Err receives.Stopped)) (receive_read tags i now (decoded packet))) w in P step.agent (map event_entry (handed_by step.answer)) (got_query (decoded packet) step.answer) (got_entries step.answer))
    by true is m = subst (λ (l : List (TimedEntry ℕ)). P i [] l []) (sym (got-none (decoded packet) receives.Stopped)) (n.quiet i (same-agent i) s)
    by false is m = read ranged i P s n tags now packet (decoded packet) w is (λ told. told) refl m

-- ---- acts

saved : {T : Type 0} (i : IdealAgent) (P : Property) → IsSound i → Noting i T P → (b : Bool) (w : Writing) → i.snapshot.stopped ≡ b → MayEnd i (saves_so i b) w → P (ended i (saves_so i b) w).agent [] [] []
saved i P s n true w is m = n.quiet i (same-agent i) s
saved i P s n false Kept is m = n.saves (i.member_clock - 1) (omega (arith, s.member_clock)) is
saved i P s n false (Failed durable) is m = n.save_fails (i.member_clock - 1) durable is m

-- an act that doesn't merge a state, compact, or open
abbrev pub IsAppended : Act → Type 0
IsAppended (Hears m is_join w) = ⊥
IsAppended (Compacts w) = ⊥
IsAppended (Opens config text d) = ⊥
IsAppended _ = Unit {0}

-- an act of this kind preserves whatever each appended line preserves
pub acts : DecodesInRange → (i : IdealAgent) (a : Act) (P : Property) → IsSound i → Noting i (IsActWritable a) P → IsAppended a → MayAct i a → P (after i a) (events_out i a) (queries_entered i a) (queries_out i a)
acts ranged i (Fires what flag w) P s n noted may = fired i P s n what flag w (fire_error i what flag) refl (λ told. told) may
acts ranged i (Asks now id name payload params w) P s n noted may = query-fired i P s n now id name payload params w (query_error i id name payload params) (λ told. told) refl may
acts ranged i (Gets tags now packet w) P s n noted may = got ranged tags now packet w i P s n may
acts ranged i (Takes e w) P s n noted may = received i P s n e.time e.key false w (admission i e.time e.key) refl may.0 may.1 (λ told. told) may.2
acts ranged i (Saves w) P s n noted may = saved i P s n i.snapshot.stopped w refl may
acts ranged i (Closes now) P s n noted may = n.quiet (close_due i now).agent (record { settings = refl; snapshot = refl; events = same-track i.events; queries = same-track i.queries }) (sound-closed now i s)
acts ranged i (Hears m is_join w) P s n noted may = absurd noted
acts ranged i (Compacts w) P s n noted may = absurd noted
acts ranged i (Opens config text d) P s n noted may = absurd noted

-- when a state is merged, there are three cases: nothing is written, the line of a minimum time is written, or writing
-- it fails
pub heard : (i : IdealAgent) (m : PushPull) (is_join : Bool) (w : Writing) (P : IdealAgent → Type 0) → P (joined m is_join i)
    → ((is_join && i.config.ignore_old) ≡ true → i.snapshot.stopped ≡ false → P (with_snapshot (appended_with kinds.Event 0 (Some (min_line kinds.Event m.event_clock)) i.snapshot Kept) (joined m is_join i)))
    → ((is_join && i.config.ignore_old) ≡ true → i.snapshot.stopped ≡ false → (durable : Option (List ℕ)) → MayAppendLine kinds.Event 0 (Some (min_line kinds.Event m.event_clock)) i.snapshot (Failed durable)
    → P (with_snapshot (written kinds.Event 0 i.snapshot (Failed durable)) i))
    → MayAct i (Hears m is_join w) → P (after i (Hears m is_join w))
heard i m is_join w P none kept fails may = by (i.config.keep_events && (is_join && i.config.ignore_old)) refl w may.0 may.2
  where
    joins : (i.config.keep_events && (is_join && i.config.ignore_old)) ≡ true → (is_join && i.config.ignore_old) ≡ true
    joins is = (and_parts i.config.keep_events (is_join && i.config.ignore_old) is).1

    by : (b : Bool) → (i.config.keep_events && (is_join && i.config.ignore_old)) ≡ b → (w : Writing)
        → (let call = heard_by (cond b (Some (min_line kinds.Event m.event_clock)) None) i m is_join in MayEnd i call w → (AsksSink call → i.snapshot.stopped ≡ false) → P (ended i call w).agent)
    by false is w ends runs = none
    by true is Kept ends runs = kept (joins is) (runs tt)
    by true is (Failed durable) ends runs = fails (joins is) (runs tt) durable ends

-- a compaction replaces the text if the agent runs
pub compacted : (i : IdealAgent) (w : Writing) (P : IdealAgent → Type 0) → P i
    → (let text = text_with (written_lines (view_of i)) i.snapshot in (w : Writing) → MayReplaceBy text i.snapshot w → P (with_snapshot (text_replaced text i.snapshot w) i)) → MayEnd i (compact i) w → P (after i (Compacts w))
compacted i w P stays replaced may = by i.snapshot.stopped w may
  where
    by : (b : Bool) (w : Writing) → MayEnd i (compacts_so i b) w → P (ended i (compacts_so i b) w).agent
    by true w m = stays
    by false Kept m = replaced Kept m
    by false (Failed durable) m = replaced (Failed durable) m
