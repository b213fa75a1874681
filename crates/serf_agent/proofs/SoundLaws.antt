-- Each change of a sound agent leaves a sound agent.
use Rattle.serf_agent.proofs.Names.{Bool, List, MatchBool, None, Option, Some, [], arith, cond, false, filter, inl, inr, max, nat_eq, nat_le, nat_lt, not, refl, subst, sym, true, ℕ, ◌&&◌, ◌++◌, ◌+◌, ◌-◌, ◌<◌, ◌==◌, ◌^◌, ◌∷◌, ◌≡◌, ◌≢◌, ◌≤◌, and_from, cases_Bool, eq-eqb, leb-false, leb-true, ltb-false, All-filter, All-nil, All-push, All-weaker, AllPairs-filter, all_pairs_push, bytes_eq-Decides, All, AllPairs, Contains, PushPull, Query, QueryResponse, EventBody, clock_line, last_clock, Device, event_line, min_in, min_line, query_line, SaysNoClock, kept_appended, Failed, IsSnapshotSound, KeepsPart, Kept, MayReplaceBy, MayWrite, SnapshotView, Writing, last_line, noted, opened, text_replaced, written, ClockKind, same_id, same_texts, TimedEntry, ended, is_sound, admission, event_entered, event_observed, texts_len, written_event, IdealAgent, Past, Track, with_fired_queries, with_config, with_events, with_queries, with_snapshot, KeptRestartLaws, held_from, kept_lines, min_written, lines_written, stored_lines, kept_events, kept_queries, line_of_event, whatever, ack_ignore_reason, answer_ignore_reason, fired_query_at, close_due, has_acked, has_responded, is_ack, is_due, opened_query, query_admission, query_opened, query_entered, query_observed, response_ignore_reason, written_query, with_fired_query_at, HasPast, restarted, restarted_by, unopened, SnapshotLaws, IsOpenQuerySound, IsSound, hear, heard_by, joined, written_min_line, written_lines, AreQuiet, MayAppendLine, bytes_with, appended_with, text_with, ConcreteTrack, IsTrackSound, track_entered, track_observed, track_reason, ConcreteState, view_of, Config, OpenQuery, Reason, AckNotRequested, AckTwice, Closed, OtherId, ResponseTwice}
use Rattle.serf_snapshot.specs.declared.kind.ClockKind.TheVariants as kinds
use Rattle.std.specs.Prelude.{◌⊎◌}
use Rattle.serf_agent.specs.Queries.{counted}
use Rattle.serf_agent.proofs.TrackLaws.{track-entered, track-observed, track-raised, track-reopened, unknown-fresh, later-fresh, no-reason, none-from}
use Rattle.serf_agent.specs.declared.lists.Response.{Response as ResponseText}
use Rattle.serf_agent.proofs.OpenQueryLaws.{set_value-keys, set_value-values, set_value-distinct, lookup-each, unlike-each}

-- ---- how an appended line changes the last lines

pub event-noted : (t : ℕ) (line : Option (List ℕ)) (s : SnapshotView) → (appended_with kinds.Event t line s Kept).event_clock ≡ max s.event_clock t
event-noted t None s = elim (cases_Bool (nat_le t s.event_clock)) [
  | inl low ↦ rw low (let h : t ≤ s.event_clock = leb-true _ _ low in omega arith)
  | inr high ↦ rw high (let h : s.event_clock < t = leb-false _ _ high in omega arith)
]
event-noted t (Some line) s = refl

query-appended_event : (t : ℕ) (line : Option (List ℕ)) (s : SnapshotView) → (appended_with kinds.Event t line s Kept).query_clock ≡ s.query_clock
query-appended_event t None s = elim (cases_Bool (nat_le t s.event_clock)) [ inl low ↦ rw low refl | inr high ↦ rw high refl ]
query-appended_event t (Some line) s = refl

pub query-noted : (t : ℕ) (line : Option (List ℕ)) (s : SnapshotView) → (appended_with kinds.Query t line s Kept).query_clock ≡ max s.query_clock t
query-noted t None s = elim (cases_Bool (nat_le t s.query_clock)) [
  | inl low ↦ rw low (let h : t ≤ s.query_clock = leb-true _ _ low in omega arith)
  | inr high ↦ rw high (let h : s.query_clock < t = leb-false _ _ high in omega arith)
]
query-noted t (Some line) s = refl

pub event-appended_query : (t : ℕ) (line : Option (List ℕ)) (s : SnapshotView) → (appended_with kinds.Query t line s Kept).event_clock ≡ s.event_clock
event-appended_query t None s = elim (cases_Bool (nat_le t s.query_clock)) [ inl low ↦ rw low refl | inr high ↦ rw high refl ]
event-appended_query t (Some line) s = refl

pub event-appended_member : (t : ℕ) (s : SnapshotView) → (noted kinds.Member t s Kept).event_clock ≡ s.event_clock
event-appended_member t s = elim (cases_Bool (nat_le t s.member_clock)) [ inl low ↦ rw low refl | inr high ↦ rw high refl ]

pub query-appended_member : (t : ℕ) (s : SnapshotView) → (noted kinds.Member t s Kept).query_clock ≡ s.query_clock
query-appended_member t s = elim (cases_Bool (nat_le t s.member_clock)) [ inl low ↦ rw low refl | inr high ↦ rw high refl ]

-- the durable text has the last lines after an append whose own line contains no clock line
sound-noted : SnapshotLaws → (kind : ClockKind) (s : SnapshotView) (t : ℕ) (line : Option (List ℕ)) → IsSnapshotSound s → s.stopped ≡ false → t < 2 ^ 64 - 1 → AreQuiet line → IsSnapshotSound (appended_with kind t line s Kept)
sound-noted snapshots kind s t None sound runs small quiet = snapshots.noted kind s t sound runs small
sound-noted snapshots kind s t (Some line) sound runs small quiet = snapshots.kept_appended kind s t line sound runs small quiet

-- the own lines that an agent writes contain no clock line
quiet-if : (b : Bool) (line : List ℕ) → SaysNoClock line → AreQuiet (cond b (Some line) None)
quiet-if true line quiet = quiet
quiet-if false line quiet = tt

pub quiet-event : SnapshotLaws → (config : Config) (t : ℕ) (what : EventBody) → AreQuiet (written_event config t what)
quiet-event snapshots config t what = quiet-if config.keep_events (line_of_event t what) (snapshots.event_quiet t what.name what.payload)

pub quiet-query : SnapshotLaws → (config : Config) (t id : ℕ) → AreQuiet (written_query config t id)
quiet-query snapshots config t id = quiet-if config.keep_events (query_line t id) (snapshots.query_quiet t id)

pub quiet-lowest : SnapshotLaws → (config : Config) (m : PushPull) (is_join : Bool) → AreQuiet (written_min_line config m is_join)
quiet-lowest snapshots config m is_join = quiet-if (config.keep_events && (is_join && config.ignore_old)) (min_line kinds.Event m.event_clock) (snapshots.min_quiet kinds.Event m.event_clock)

-- all these lines together contain no clock line
pub record QuietLaws : Type 0 where
  pub event : (t : ℕ) (name payload : List ℕ) → SaysNoClock (event_line t name payload)
  pub query : (t id : ℕ) → SaysNoClock (query_line t id)
  pub lowest : (k : ClockKind) (t : ℕ) → SaysNoClock (min_line k t)
  pub both : (a b : List ℕ) → SaysNoClock a → SaysNoClock b → SaysNoClock (a ++ b)

told-quiet : {K : Type 0} (line : ℕ → K → List ℕ) → QuietLaws → ((t : ℕ) (what : K) → SaysNoClock (line t what)) → (es : List (TimedEntry K)) → SaysNoClock (lines_written line es)
told-quiet line laws says [] = record { whole = refl; clocks = none }
  where
    none : (kind : ClockKind) → last_clock kind [] ≡ 0
    none kind = refl
told-quiet line laws says (e ∷ es) = laws.both (line e.time e.key) (lines_written line es) (says e.time e.key) (told-quiet line laws says es)

stored-quiet : {K : Type 0} (kind : ClockKind) (line : ℕ → K → List ℕ) → QuietLaws → ((t : ℕ) (what : K) → SaysNoClock (line t what)) → (n last : ℕ) (track : ConcreteTrack K) → SaysNoClock (stored_lines kind line n last track)
stored-quiet kind line laws says n last track =
    let lowest : ℕ = min_written n last track.minimum in
    laws.both (min_line kind lowest) (lines_written line (held_from lowest track.slots)) (laws.lowest kind lowest) (told-quiet line laws says (held_from lowest track.slots))

-- the lines of everything that is stored contain no clock line
pub kept-quiet : QuietLaws → (a : ConcreteState) → SaysNoClock (kept_lines a)
kept-quiet laws a =
    laws.both (stored_lines kinds.Event line_of_event a.config.event_buffer a.snapshot.event_clock a.events) (stored_lines kinds.Query query_line a.config.query_buffer a.snapshot.query_clock a.queries)
    (stored-quiet kinds.Event line_of_event laws (λ t what. laws.event t what.name what.payload) a.config.event_buffer a.snapshot.event_clock a.events)
    (stored-quiet kinds.Query query_line laws laws.query a.config.query_buffer a.snapshot.query_clock a.queries)

pub quiet-lines : SnapshotLaws → (a : ConcreteState) → AreQuiet (written_lines a)
quiet-lines snapshots a = quiet-if a.config.keep_events (kept_lines a) (kept-quiet (record { event = snapshots.event_quiet; query = snapshots.query_quiet; lowest = snapshots.min_quiet; both = snapshots.both_quiet }) a)

-- ---- what a sink leaves that fails when a line is appended

pub may-part : (kind : ClockKind) (s : SnapshotView) (t : ℕ) (line durable : Option (List ℕ)) → MayAppendLine kind t line s (Failed durable) → KeepsPart s.durable (bytes_with kind t line s) durable
may-part kind s t None durable may = by (nat_le t (last_line kind s)) may
  where
    by : (b : Bool) → MatchBool b (Failed durable ≡ Kept) (MayWrite s (clock_line kind t) (Failed durable)) → KeepsPart s.durable (clock_line kind t) durable
    by true kept_is = absurd (let k : Failed durable ≡ Kept = kept_is in cc)
    by false m = m.0
may-part kind s t (Some line) durable may = may.0

-- ---- other tracks, or another snapshot

-- an agent stays sound with other tracks and another snapshot, if these are sound and the query clock doesn't fall
sound-with : (events : Track EventBody) (queries : Track ℕ) (snapshot : SnapshotView) (i : IdealAgent) → IsSound i → IsTrackSound events i.life snapshot.event_clock → IsTrackSound queries i.life snapshot.query_clock → i.queries.clock ≤ queries.clock
    → All (λ p. texts_len p.entry.key ≤ 9216) events.history → IsSnapshotSound snapshot → IsSound (with_snapshot snapshot (with_queries queries (with_events events i)))
sound-with events queries snapshot i s events_sound queries_sound up short snapshot_sound = record {
  config = s.config;
  member_clock = s.member_clock;
  events = events_sound;
  queries = queries_sound;
  short = short;
  snapshot = snapshot_sound;
  fired_queries_below = All-weaker (λ q. q.0 < i.queries.clock) (λ q. q.0 < queries.clock) (λ q h. omega (arith, h, up)) i.fired_queries s.fired_queries_below;
  fired_queries_distinct = s.fired_queries_distinct;
  fired_queries_sound = s.fired_queries_sound;
}

-- an agent stays sound with another snapshot that has these last lines of events and of queries
sound-with_snapshot : (snapshot : SnapshotView) (i : IdealAgent) → IsSound i → i.snapshot.event_clock ≡ snapshot.event_clock → i.snapshot.query_clock ≡ snapshot.query_clock → IsSnapshotSound snapshot → IsSound (with_snapshot snapshot i)
sound-with_snapshot snapshot i s event query sound =
    sound-with i.events i.queries snapshot i s (subst (λ (n : ℕ). IsTrackSound i.events i.life n) event s.events) (subst (λ (n : ℕ). IsTrackSound i.queries i.life n) query s.queries) (omega arith) s.short sound

-- an agent stays sound with other open queries
sound-with_fired_queries : (fired_queries : List (ℕ × OpenQuery)) (i : IdealAgent) → IsSound i → All (λ q. q.0 < i.queries.clock) fired_queries → AllPairs (λ a b. a.0 ≢ b.0) fired_queries → All (λ q. IsOpenQuerySound q.1) fired_queries → IsSound (with_fired_queries fired_queries i)
sound-with_fired_queries fired_queries i s below distinct sound = record {
  config = s.config;
  member_clock = s.member_clock;
  events = s.events;
  queries = s.queries;
  short = s.short;
  snapshot = s.snapshot;
  fired_queries_below = below;
  fired_queries_distinct = distinct;
  fired_queries_sound = sound;
}

-- an agent that a failed append stopped is sound
pub sound-append_line_failed : SnapshotLaws → (kind : ClockKind) (t : ℕ) (line durable : Option (List ℕ)) (i : IdealAgent) → IsSound i → MayAppendLine kind t line i.snapshot (Failed durable) → IsSound (with_snapshot (written kind t i.snapshot (Failed durable)) i)
sound-append_line_failed snapshots kind t line durable i s may =
    sound-with_snapshot (written kind t i.snapshot (Failed durable)) i s refl refl (snapshots.append_line_failed kind i.snapshot t (bytes_with kind t line i.snapshot) durable s.snapshot (may-part kind i.snapshot t line durable may))

-- ---- events

pub sound-event_observed : (t : ℕ) (i : IdealAgent) → IsSound i → IsSound (event_observed t i)
sound-event_observed t i s = sound-with (track_observed t i.events) i.queries i.snapshot i s (track-observed i.events i.life i.snapshot.event_clock t s.events) s.queries (omega arith) s.short s.snapshot

same_texts-refl : (x : EventBody) → same_texts x x ≡ true
same_texts-refl x = and_from _ _ ((bytes_eq-Decides x.name x.name).1 refl) ((bytes_eq-Decides x.payload x.payload).1 refl)

-- what an agent admits has a short name and payload and was never entered
pub admission-new : (i : IdealAgent) (t : ℕ) (what : EventBody) → admission i t what ≡ None → (texts_len what ≤ 9216) × All (λ p. p.entry ≢ record { time = t; key = what }) i.events.history
admission-new i t what new =
    let parts = none-from (nat_lt 9216 (texts_len what)) _ (track_reason same_texts i.config.event_buffer i.config.per_time i.life i.events t what) new in
    (ltb-false _ _ parts.0, unknown-fresh same_texts same_texts-refl i.events.history t what (no-reason same_texts i.config.event_buffer i.config.per_time i.life i.events t what parts.1))

pub sound-event_entered : SnapshotLaws → (t : ℕ) (what : EventBody) (i : IdealAgent) → IsSound i → i.snapshot.stopped ≡ false → t < 2 ^ 64 - 1 → texts_len what ≤ 9216 → All (λ p. p.entry ≢ record { time = t; key = what }) i.events.history
    → IsSound (with_snapshot (appended_with kinds.Event t (written_event i.config t what) i.snapshot Kept) (event_entered t what i))
sound-event_entered snapshots t what i s runs small short fresh =
    let line : Option (List ℕ) = written_event i.config t what in
    let next : SnapshotView = appended_with kinds.Event t line i.snapshot Kept in
    sound-with (track_entered i.life t what i.events) i.queries next i s
    (track-entered i.events i.life i.snapshot.event_clock next.event_clock t what s.events (omega (arith, event-noted t line i.snapshot)) (omega (arith, event-noted t line i.snapshot)) fresh)
    (subst (λ (n : ℕ). IsTrackSound i.queries i.life n) (sym (query-appended_event t line i.snapshot)) s.queries) (omega arith)
    (All-push (λ p. texts_len p.entry.key ≤ 9216) i.events.history (record { life = i.life; entry = record { time = t; key = what } }) s.short short)
    (sound-noted snapshots kinds.Event i.snapshot t line s.snapshot runs small (quiet-event snapshots i.config t what))

-- ---- queries

pub sound-query_observed : (t : ℕ) (i : IdealAgent) → IsSound i → IsSound (query_observed t i)
sound-query_observed t i s = sound-with i.events (track_observed t i.queries) i.snapshot i s s.events (track-observed i.queries i.life i.snapshot.query_clock t s.queries) (omega arith) s.short s.snapshot

pub query_admission-new : (i : IdealAgent) (t id : ℕ) → query_admission i t id ≡ None → All (λ p. p.entry ≢ record { time = t; key = id }) i.queries.history
query_admission-new i t id new = unknown-fresh same_id (λ x. eq-eqb x x refl) i.queries.history t id (no-reason same_id i.config.query_buffer i.config.per_time i.life i.queries t id new)

pub sound-query_entered : SnapshotLaws → (t id : ℕ) (i : IdealAgent) → IsSound i → i.snapshot.stopped ≡ false → t < 2 ^ 64 - 1 → All (λ p. p.entry ≢ record { time = t; key = id }) i.queries.history
    → IsSound (with_snapshot (appended_with kinds.Query t (written_query i.config t id) i.snapshot Kept) (query_entered t id i))
sound-query_entered snapshots t id i s runs small fresh =
    let line : Option (List ℕ) = written_query i.config t id in
    let next : SnapshotView = appended_with kinds.Query t line i.snapshot Kept in
    sound-with i.events (track_entered i.life t id i.queries) next i s
    (subst (λ (n : ℕ). IsTrackSound i.events i.life n) (sym (event-appended_query t line i.snapshot)) s.events)
    (track-entered i.queries i.life i.snapshot.query_clock next.query_clock t id s.queries (omega (arith, query-noted t line i.snapshot)) (omega (arith, query-noted t line i.snapshot)) fresh) (omega arith)
    s.short (sound-noted snapshots kinds.Query i.snapshot t line s.snapshot runs small (quiet-query snapshots i.config t id))

pub no-pairs : {X : Type 0} (R : X → X → Type 0) → AllPairs R []
no-pairs R i j d lt within = absurd (omega arith)

-- an agent stays sound if a query that it fires enters at its clock's time, and is open
pub sound-query_opened : SnapshotLaws → (now : ℕ) (q : Query) (i : IdealAgent) → IsSound i → i.snapshot.stopped ≡ false → q.time ≡ i.queries.clock → q.time < 2 ^ 64 - 1
    → IsSound (with_snapshot (appended_with kinds.Query q.time (written_query i.config q.time q.id) i.snapshot Kept) (query_opened now q i))
sound-query_opened snapshots now q i s runs at small =
    let lower : All (λ p. p.entry.time < q.time) i.queries.history = subst (λ (t : ℕ). All (λ p. p.entry.time < t) i.queries.history) (sym at) s.queries.below_clock in
    let e = sound-query_entered snapshots q.time q.id i s runs small (later-fresh i.queries.history q.time q.id lower) in
    let new : ℕ × OpenQuery = (q.time, opened_query now q) in
    let entered : IdealAgent = with_snapshot (appended_with kinds.Query q.time (written_query i.config q.time q.id) i.snapshot Kept) (query_entered q.time q.id i) in
    sound-with_fired_queries (i.fired_queries ++ new ∷ []) entered e
    (All-push (λ p. p.0 < max i.queries.clock (q.time + 1)) i.fired_queries new e.fired_queries_below (omega arith))
    (all_pairs_push (λ a b. a.0 ≢ b.0) i.fired_queries new s.fired_queries_distinct (All-weaker (λ p. p.0 < i.queries.clock) (λ p. p.0 ≢ q.time) (λ p h r. omega arith) i.fired_queries s.fired_queries_below))
    (All-push (λ p. IsOpenQuerySound p.1) i.fired_queries new s.fired_queries_sound (record { acks = no-pairs (λ a b. a ≢ b); responses = no-pairs (λ a b. a.from ≢ b.from) }))

-- ---- other agents' clocks

pub sound-joined : (m : PushPull) (is_join : Bool) (i : IdealAgent) → IsSound i → m.member_clock ≤ 2 ^ 64 - 1 → IsSound (joined m is_join i)
sound-joined m is_join i s small = record {
  config = s.config;
  member_clock = omega (arith, s.member_clock);
  events = by (is_join && i.config.ignore_old);
  queries = track-raised i.queries i.life i.snapshot.query_clock m.query_clock 0 s.queries (omega arith);
  short = s.short;
  snapshot = s.snapshot;
  fired_queries_below = All-weaker (λ q. q.0 < i.queries.clock) (λ q. q.0 < max i.queries.clock m.query_clock) (λ q h. omega arith) i.fired_queries s.fired_queries_below;
  fired_queries_distinct = s.fired_queries_distinct;
  fired_queries_sound = s.fired_queries_sound;
}
  where
    by : (b : Bool) → IsTrackSound (record { clock = max i.events.clock m.event_clock; minimum = max i.events.minimum (cond b m.event_clock 0); history = i.events.history }) i.life i.snapshot.event_clock
    by true = track-raised i.events i.life i.snapshot.event_clock m.event_clock m.event_clock s.events (omega arith)
    by false = track-raised i.events i.life i.snapshot.event_clock m.event_clock 0 s.events (omega arith)

-- an agent stays sound if a line is appended that contains no clock line and with which nothing enters
pub sound-told : SnapshotLaws → (line : List ℕ) (i : IdealAgent) → IsSound i → i.snapshot.stopped ≡ false → SaysNoClock line → IsSound (with_snapshot (kept_appended kinds.Event 0 line i.snapshot Kept) i)
sound-told snapshots line i s runs quiet =
    let last : i.snapshot.event_clock ≡ max i.snapshot.event_clock 0 = omega arith in
    sound-with_snapshot (kept_appended kinds.Event 0 line i.snapshot Kept) i s last refl (snapshots.kept_appended kinds.Event i.snapshot 0 line s.snapshot runs (omega arith) quiet)

pub sound-heard : SnapshotLaws → (m : PushPull) (is_join : Bool) (i : IdealAgent) → IsSound i → i.snapshot.stopped ≡ false → m.member_clock ≤ 2 ^ 64 - 1 → IsSound (ended i (hear i m is_join) Kept).agent
sound-heard snapshots m is_join i s runs small = by (written_min_line i.config m is_join) (quiet-lowest snapshots i.config m is_join)
  where
    by : (line : Option (List ℕ)) → AreQuiet line → IsSound (ended i (heard_by line i m is_join) Kept).agent
    by None quiet = sound-joined m is_join i s small
    by (Some line) quiet = sound-told snapshots line (joined m is_join i) (sound-joined m is_join i s small) runs quiet

-- ---- the member clock's line, and a compaction

pub sound-saved : SnapshotLaws → (t : ℕ) (i : IdealAgent) → IsSound i → i.snapshot.stopped ≡ false → t < 2 ^ 64 - 1 → IsSound (with_snapshot (noted kinds.Member t i.snapshot Kept) i)
sound-saved snapshots t i s runs small =
    sound-with_snapshot (noted kinds.Member t i.snapshot Kept) i s (sym (event-appended_member t i.snapshot)) (sym (query-appended_member t i.snapshot)) (snapshots.noted kinds.Member i.snapshot t s.snapshot runs small)

-- the durable text has the last lines after a compaction whose lines contain no clock line
sound-text : SnapshotLaws → (s : SnapshotView) (lines : Option (List ℕ)) (w : Writing) → IsSnapshotSound s → AreQuiet lines → MayReplaceBy (text_with lines s) s w → IsSnapshotSound (text_replaced (text_with lines s) s w)
sound-text snapshots s None Kept sound quiet may = snapshots.compacted s sound
sound-text snapshots s None (Failed durable) sound quiet may = snapshots.compaction_failed s durable sound may.0
sound-text snapshots s (Some lines) Kept sound quiet may = snapshots.kept_compacted s lines sound quiet
sound-text snapshots s (Some lines) (Failed durable) sound quiet may = snapshots.kept_compaction_failed s lines durable sound quiet may.0

-- a compaction leaves the last lines
pub last-text : (kind : ClockKind) (text : List ℕ) (s : SnapshotView) (w : Writing) → last_line kind (text_replaced text s w) ≡ last_line kind s
last-text kind text s Kept = refl
last-text kind text s (Failed durable) = refl

pub sound-compact : SnapshotLaws → (w : Writing) (i : IdealAgent) → IsSound i → (let text = text_with (written_lines (view_of i)) i.snapshot in MayReplaceBy text i.snapshot w → IsSound (with_snapshot (text_replaced text i.snapshot w) i))
sound-compact snapshots w i s may =
    let text : List ℕ = text_with (written_lines (view_of i)) i.snapshot in
    sound-with_snapshot (text_replaced text i.snapshot w) i s (sym (last-text kinds.Event text i.snapshot w)) (sym (last-text kinds.Query text i.snapshot w)) (sound-text snapshots i.snapshot (written_lines (view_of i)) w s.snapshot (quiet-lines snapshots (view_of i)) may)

-- ---- a new life

-- an agent stays sound with other settings that an agent can have
pub sound-with_config : (config : Config) (i : IdealAgent) → IsSound i → is_sound config ≡ true → IsSound (with_config config i)
sound-with_config config i s fits = record {
  config = fits;
  member_clock = s.member_clock;
  events = s.events;
  queries = s.queries;
  short = s.short;
  snapshot = s.snapshot;
  fired_queries_below = s.fired_queries_below;
  fired_queries_distinct = s.fired_queries_distinct;
  fired_queries_sound = s.fired_queries_sound;
}

pub sound-restarted : SnapshotLaws → KeptRestartLaws → (i : IdealAgent) (text : List ℕ) (d : Device) → IsSound i → HasPast i.config i text → (opened text d).member_clock < 2 ^ 64 - 1 → IsSound (restarted text (opened text d) i)
sound-restarted snapshots kept i text d s past small = by i.config.keep_events refl
  where
    by : (b : Bool) → i.config.keep_events ≡ b → IsSound (restarted_by b text (opened text d) i)
    by true keeps = kept.sound i text d s past.times (past.kept keeps) small
    by false keeps = record {
      config = s.config;
      member_clock = omega arith;
      events = track-reopened i.events i.life i.snapshot.event_clock (opened text d).event_clock s.events past.times.events;
      queries = track-reopened i.queries i.life i.snapshot.query_clock (opened text d).query_clock s.queries past.times.queries;
      short = s.short;
      snapshot = snapshots.opened text d;
      fired_queries_below = All-nil (λ q. q.0 < (opened text d).query_clock + 1);
      fired_queries_distinct = no-pairs (λ a b. a.0 ≢ b.0);
      fired_queries_sound = All-nil (λ q. IsOpenQuerySound q.1);
    }

-- an agent that has entered nothing is sound
pub sound-unopened : SnapshotLaws → (config : Config) (text : List ℕ) (d : Device) → is_sound config ≡ true → (opened text d).member_clock < 2 ^ 64 - 1 → IsSound (unopened config (opened text d))
sound-unopened snapshots config text d ok small = record {
  config = ok;
  member_clock = omega arith;
  events = none-sound ((opened text d).event_clock);
  queries = none-sound ((opened text d).query_clock);
  short = All-nil (λ p. texts_len p.entry.key ≤ 9216);
  snapshot = snapshots.opened text d;
  fired_queries_below = All-nil (λ q. q.0 < (opened text d).query_clock + 1);
  fired_queries_distinct = no-pairs (λ a b. a.0 ≢ b.0);
  fired_queries_sound = All-nil (λ q. IsOpenQuerySound q.1);
}
  where
    none-sound : {K : Type 0} (value : ℕ) → IsTrackSound {K = K} (record { clock = value + 1; minimum = value + 1; history = [] }) 0 value
    none-sound {K} value = record {
      lives = All-nil (λ p. p.life ≤ 0);
      below_clock = All-nil (λ p. p.entry.time < value + 1);
      noted = All-nil (λ p. p.entry.time ≤ value);
      earlier = All-nil (λ p. p.life < 0 → p.entry.time < value + 1);
      distinct = no-pairs (λ p q. p.entry ≢ q.entry);
      minimum = omega arith;
    }

pub past-unopened : (config : Config) (s : SnapshotView) (text : List ℕ) → HasPast config (unopened config s) text
past-unopened config s text = record {
  times = record { events = All-nil (λ p. p.entry.time ≤ last_clock kinds.Event text); queries = All-nil (λ p. p.entry.time ≤ last_clock kinds.Query text) };
  kept = λ keeps. record {
    events = All-nil (λ (p : Past EventBody). (p.entry.time < min_in kinds.Event text) ⊎ Contains (kept_events whatever text) p.entry);
    queries = All-nil (λ (p : Past ℕ). (p.entry.time < min_in kinds.Query text) ⊎ Contains (kept_queries whatever text) p.entry);
  };
}

-- ---- answers that are counted

-- an ack or a response that is not ignored is the first of its node
counted-sound : (now : ℕ) (r : QueryResponse) (q : OpenQuery) → IsOpenQuerySound q → answer_ignore_reason now r q ≡ None → IsOpenQuerySound (counted r q)
counted-sound now r q s none =
    let rest : Option Reason = cond (is_ack r) (ack_ignore_reason r.from q) (response_ignore_reason r.from q) in
    let id = none-from (not (q.id == r.id)) OtherId (cond (nat_lt q.deadline now) (Some Closed) rest) none in
    let open_ = none-from (nat_lt q.deadline now) Closed rest id.1 in
    by (is_ack r) open_.1
  where
    by : (b : Bool) → cond b (ack_ignore_reason r.from q) (response_ignore_reason r.from q) ≡ None
        → IsOpenQuerySound (cond b (record { id = q.id; deadline = q.deadline; wants_ack = q.wants_ack; acks = q.acks ++ r.from ∷ []; responses = q.responses }) (record { id = q.id; deadline = q.deadline; wants_ack = q.wants_ack; acks = q.acks; responses = q.responses ++ record { from = r.from; payload = r.payload } ∷ [] }))
    by true none =
        let fired_queries = none-from (not q.wants_ack) AckNotRequested (cond (has_acked q r.from) (Some AckTwice) None) none in
        let new = none-from (has_acked q r.from) AckTwice None fired_queries.1 in
        record { acks = all_pairs_push (λ a b. a ≢ b) q.acks r.from s.acks (unlike-each (λ a. a) q.acks r.from new.0); responses = s.responses }
    by false none =
        let new = none-from (has_responded q r.from) ResponseTwice None none in
        record { acks = s.acks; responses = all_pairs_push (λ a b. a.from ≢ b.from) q.responses (record { from = r.from; payload = r.payload }) s.responses (unlike-each (λ (x : ResponseText). x.from) q.responses r.from new.0) }

pub sound-counted : (now : ℕ) (r : QueryResponse) (q : OpenQuery) (i : IdealAgent) → IsSound i → fired_query_at r.time i.fired_queries ≡ Some q → answer_ignore_reason now r q ≡ None → IsSound (with_fired_queries (with_fired_query_at r.time (counted r q) i.fired_queries) i)
sound-counted now r q i s at none =
    sound-with_fired_queries (with_fired_query_at r.time (counted r q) i.fired_queries) i s
    (set_value-keys (λ t. t < i.queries.clock) (nat_eq r.time) i.fired_queries (counted r q) s.fired_queries_below)
    (set_value-distinct (nat_eq r.time) i.fired_queries (counted r q) s.fired_queries_distinct)
    (set_value-values IsOpenQuerySound (nat_eq r.time) i.fired_queries (counted r q) (counted-sound now r q (lookup-each IsOpenQuerySound (nat_eq r.time) i.fired_queries q s.fired_queries_sound at) none) s.fired_queries_sound)

-- ---- closing

pub sound-closed : (now : ℕ) (i : IdealAgent) → IsSound i → IsSound (close_due i now).agent
sound-closed now i s =
    sound-with_fired_queries (filter (λ q. not (is_due now q)) i.fired_queries) i s
    (All-filter (λ q. not (is_due now q)) (λ q. q.0 < i.queries.clock) i.fired_queries s.fired_queries_below)
    (AllPairs-filter (λ a b. a.0 ≢ b.0) (λ q. not (is_due now q)) i.fired_queries s.fired_queries_distinct)
    (All-filter (λ q. not (is_due now q)) (λ q. IsOpenQuerySound q.1) i.fired_queries s.fired_queries_sound)
