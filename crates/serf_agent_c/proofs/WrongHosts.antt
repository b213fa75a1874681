-- Small lives of a host in C that break what it is promised, and the proofs that the promises refuse them. A definition
-- that was changed so that it promises nothing doesn't pass here.
use Rattle.serf_agent_c.proofs.Names.{Bool, Err, List, None, Ok, Option, Result, Some, [], ap, arith, cond, false, inl, inr, length, map, refl, subst, sym, true, ℕ, ◌&&◌, ◌++◌, ◌+◌, ◌<◌, ◌∙◌, ◌∷◌, ◌≡◌, ◌≢◌, ◌≤◌, ◌⊎◌, All-head, All-nil, All, AllPairs, Contains, decoded, Message, foreign, push_pull, query, query_response, user_event, WireError, EventBody, min_in, TimedEntry, is_sound, DeliveredQuery, Past, HasMet, IsFull, IsMet, event_entry, query_entries, IsOnce, got_query, EventOut, Fired, FiredQuery, Reason, events_in, handed_in, BeginsWith, Calls, ClockKind, EntryFilter, TimedEvent, last_clock, whatever, Deed, Dies, Export, Burst, Fire, GivesLater, GivesLaterInBursts, GivesNew, GivesOnce, GivesQueriesLater, GivesQueriesLaterInBursts, GivesQueriesOnce, Host, IsPassed, KeepsTo, MayDo, MayHost, Merge, MissesNone, Offers, Query, Receive, Says, Showing, TakesNewQueries, Writes, all_met, clock_after, enters, event_kind, first_host, first_met, hosted, met_after, met_in, queries_by, query_kind, shown, GoesOn, IsFresh, config_of, is_ready, Code, CallResult, Params, QueryParams, Settings, Session}
use Rattle.serf_agent_c.specs.declared.code.Code.TheVariants.{OutOfMemory}
use Rattle.std.specs.Prelude.{codes}
use Rattle.serf_snapshot.specs.EventLines as lines
use Rattle.serf_snapshot.specs.declared.kind.ClockKind.TheVariants as kinds
use Rattle.serf_agent_c.proofs.HandedOnce.{made-now, none-there, unmet}
use Rattle.serf_agent_c.proofs.OtherLines.{Reading}
use Rattle.serf_agent_c.specs.declared.call_result.CallResult.TheVariants as call_results
use Rattle.serf_agent.specs.declared.outcome.Outcome.TheVariants as outcomes
use Rattle.serf_agent_c.specs.Bursts as bursts
use Rattle.serf_agent_c.specs.HostPackets.{AreOfTypes, HostLives, SendsEvents, SendsEventsInBursts, SendsQueries, SendsQueriesInBursts, session_after}
use Rattle.serf_agent_c.specs.declared.burst_outcome.BurstOutcome.TheVariants as burst_outcomes

-- a host to which an event was handed out twice, and one to which a query was
twice_refused : {K : Type 0} (es : List (TimedEntry K)) (e : TimedEntry K) → es ≡ e ∷ e ∷ [] → AllPairs (λ x y. x ≢ y) es → ⊥
twice_refused {K} es e is once = let twice : AllPairs (λ x y. x ≢ y) (e ∷ e ∷ []) = subst (λ (xs : List (TimedEntry K)). AllPairs (λ x y. x ≢ y) xs) is once in twice 0 1 e (omega arith) (omega arith) refl

pub once_refuses : (name : List ℕ) (settings : Settings) (text : List ℕ) (t : Session) (deeds : List Deed) (e : TimedEntry EventBody) → is_sound (config_of name settings) ≡ true → GoesOn name settings text t → IsFresh text t → MayHost name (first_host text t) deeds
    → (hosted (first_host text t) deeds).given ≡ e ∷ e ∷ [] → GivesOnce → ⊥
once_refuses name settings text t deeds e ok on fresh may given once = twice_refused (hosted (first_host text t) deeds).given e given (once name settings text t deeds ok on fresh may)

pub queries_once_refuses : (name : List ℕ) (settings : Settings) (text : List ℕ) (t : Session) (deeds : List Deed) (q : TimedEntry ℕ) → is_sound (config_of name settings) ≡ true → GoesOn name settings text t → IsFresh text t → MayHost name (first_host text t) deeds
    → (hosted (first_host text t) deeds).queries ≡ q ∷ q ∷ [] → GivesQueriesOnce → ⊥
queries_once_refuses name settings text t deeds q ok on fresh may given once = twice_refused (hosted (first_host text t) deeds).queries q given (once name settings text t deeds ok on fresh may)

-- a host whose event has a time that was handed out before, and one whose query has
not_later_refused : {K : Type 0} (es : List (TimedEntry K)) (e : TimedEntry K) (time : ℕ) → es ≡ e ∷ [] → e.time ≡ time → All (λ x. x.time < time) es → ⊥
not_later_refused {K} es e time is same later =
    let below : e.time < time = All-head (λ (x : TimedEntry K). x.time < time) e [] (subst (λ (xs : List (TimedEntry K)). All (λ (x : TimedEntry K). x.time < time) xs) is later) in
    absurd (omega (arith, below, same))

pub later_refuses : (name : List ℕ) (settings : Settings) (text : List ℕ) (first t : Session) (deeds : List Deed) (what payload : List ℕ) (coalesce : Bool) (code : Code) (f : Fired) (e : TimedEntry EventBody) → is_sound (config_of name settings) ≡ true → GoesOn name settings text first → IsFresh text first
    → MayHost name (first_host text first) deeds → is_ready (hosted (first_host text first) deeds).session ≡ true → Says (Fire what payload coalesce) (hosted (first_host text first) deeds).session t code → t.call_result ≡ call_results.Fired (Ok f) → (hosted (first_host text first) deeds).given ≡ e ∷ [] → e.time ≡ f.handed.time → GivesLater → ⊥
later_refuses name settings text first t deeds what payload coalesce code f e ok on fresh may ready says call_result given same later = not_later_refused (hosted (first_host text first) deeds).given e f.handed.time given same (later name settings text first t deeds what payload coalesce code f ok on fresh may ready says call_result)

pub queries_later_refuses : (name : List ℕ) (settings : Settings) (text : List ℕ) (first t : Session) (deeds : List Deed) (now id : ℕ) (what payload addr : List ℕ) (params : Params) (code : Code) (f : FiredQuery) (q : TimedEntry ℕ) → is_sound (config_of name settings) ≡ true → GoesOn name settings text first → IsFresh text first
    → MayHost name (first_host text first) deeds → is_ready (hosted (first_host text first) deeds).session ≡ true → Says (Query now id what payload addr params) (hosted (first_host text first) deeds).session t code → t.call_result ≡ call_results.QueryFired (Ok f) → (hosted (first_host text first) deeds).queries ≡ q ∷ [] → q.time ≡ f.time → GivesQueriesLater → ⊥
queries_later_refuses name settings text first t deeds now id what payload addr params code f q ok on fresh may ready says call_result given same later = not_later_refused (hosted (first_host text first) deeds).queries q f.time given same (later name settings text first t deeds now id what payload addr params code f ok on fresh may ready says call_result)

-- the same of an event that is fired in a burst
pub later_in_bursts_refuses : (name : List ℕ) (settings : Settings) (text : List ℕ) (first t : Session) (deeds : List Deed) (what payload : List ℕ) (coalesce : Bool) (code : Code) (f : Fired) (e : TimedEntry EventBody) → is_sound (config_of name settings) ≡ true → GoesOn name settings text first → IsFresh text first
    → MayHost name (first_host text first) deeds → Says (Burst (bursts.Fires what payload coalesce)) (hosted (first_host text first) deeds).session t code → t.burst.items ≡ (hosted (first_host text first) deeds).session.burst.items ++ burst_outcomes.Fired (Ok f) ∷ [] → (hosted (first_host text first) deeds).given ≡ e ∷ []
    → e.time ≡ f.handed.time → GivesLaterInBursts → ⊥
later_in_bursts_refuses name settings text first t deeds what payload coalesce code f e ok on fresh may says queued given same later = not_later_refused (hosted (first_host text first) deeds).given e f.handed.time given same (later name settings text first t deeds what payload coalesce code f ok on fresh may says queued)

-- and of a query
pub queries_later_in_bursts_refuses : (name : List ℕ) (settings : Settings) (text : List ℕ) (first t : Session) (deeds : List Deed) (now id : ℕ) (what payload : List ℕ) (params : QueryParams) (code : Code) (f : FiredQuery) (q : TimedEntry ℕ) → is_sound (config_of name settings) ≡ true → GoesOn name settings text first → IsFresh text first
    → MayHost name (first_host text first) deeds → Says (Burst (bursts.Asks now id what payload params)) (hosted (first_host text first) deeds).session t code → t.burst.items ≡ (hosted (first_host text first) deeds).session.burst.items ++ burst_outcomes.QueryFired (Ok f) ∷ [] → (hosted (first_host text first) deeds).queries ≡ q ∷ []
    → q.time ≡ f.time → GivesQueriesLaterInBursts → ⊥
queries_later_in_bursts_refuses name settings text first t deeds now id what payload params code f q ok on fresh may says queued given same later = not_later_refused (hosted (first_host text first) deeds).queries q f.time given same (later name settings text first t deeds now id what payload params code f ok on fresh may says queued)

-- a host that met nothing and ignores a new event, or a new query; and one whose merge leaves out an event
few-refused : {K : Type 0} (k t : ℕ) → 0 < k → HasMet {K = K} k t [] [] → ⊥
few-refused {K} k t some h = by h.entries h.many h.met
  where
    by : (es : List (TimedEntry K)) → k ≤ length es → All (λ (e : TimedEntry K). (e.time ≡ t) × IsMet [] [] e) es → ⊥
    by [] many met = absurd (omega (arith, some, many))
    by (e ∷ es) many met = unmet [] e (none-there e) (All-head (λ (x : TimedEntry K). (x.time ≡ t) × IsMet [] [] x) e es met).1

missed_refused : {K : Type 0} (k : ℕ) (e : TimedEntry K) (met entered : List (TimedEntry K)) → met ≡ [] → entered ≡ [] → 0 < k → Contains entered e ⊎ IsFull k e.time (met ++ entered) [] → ⊥
missed_refused {K} k e met entered none nothing some (inl there) = none-there e (subst (λ (l : List (TimedEntry K)). Contains l e) nothing there)
missed_refused {K} k e met entered none nothing some (inr full) = by (subst (λ (l : List (TimedEntry K)). IsFull k e.time l []) (ap (λ (l : List (TimedEntry K)). l ++ entered) none ∙ nothing) full)
  where
    by : IsFull {K = K} k e.time [] [] → ⊥
    by (inl h) = few-refused k e.time some h
    by (inr h) = few-refused (k + 1) h.0 (omega arith) h.2

-- what holds for a host, and for a call that passes it something new, which it has to accept
pub record HasToTake {K : Type 0} (kind : Showing K) (name : List ℕ) (settings : Settings) (text : List ℕ) (first t : Session) (deeds : List Deed) (offer : Export) (code : Code) (e : TimedEntry K) : Type 0 where
  pub ok : is_sound (config_of name settings) ≡ true
  pub keeps : settings.keep_events ≡ true
  pub on : GoesOn name settings text first
  pub fresh : IsFresh text first
  pub may : MayHost name (first_host text first) deeds
  pub lowest : min_in kind.which.kind text ≤ e.time
  pub same : All (KeepsTo kind name settings e.time) (deeds ++ Calls offer t code ∷ [])
  pub offers : Offers kind e (hosted (first_host text first) deeds).session offer
  pub says : Says offer (hosted (first_host text first) deeds).session t code
  pub passed : IsPassed offer
  pub done : code ≢ OutOfMemory
  pub short : kind.which.Short e.key
  pub young : clock_after (kind.clock (hosted (first_host text first) deeds).session) e.time offer ≤ e.time + kind.which.slots (config_of name settings)
  pub none : all_met (met_in kind (first_host text first) (first_met kind text) deeds) ≡ []
  pub room : 0 < settings.per_time

takes-it : {K : Type 0} (kind : Showing K) (name : List ℕ) (settings : Settings) (text : List ℕ) (first t : Session) (deeds : List Deed) (offer : Export) (code : Code) (e : TimedEntry K) → HasToTake kind name settings text first t deeds offer code e → enters kind offer (hosted (first_host text first) deeds).session t ≡ [] → MissesNone kind → ⊥
takes-it {K} kind name settings text first t deeds offer code e h nothing promise =
    missed_refused settings.per_time e (all_met (met_in kind (first_host text first) (first_met kind text) deeds)) (enters kind offer (hosted (first_host text first) deeds).session t) h.none nothing h.room
    (promise name settings text first t deeds offer code e h.ok h.keeps h.on h.fresh h.may h.lowest h.same h.offers h.says h.passed h.done h.short h.young (λ there. none-there e (subst (λ (l : List (TimedEntry K)). Contains l e) h.none there)))

pub kept_refuses : (name : List ℕ) (settings : Settings) (text : List ℕ) (first t : Session) (deeds : List Deed) (tags : Bool) (now : ℕ) (packet : List ℕ) (code : Code) (e : TimedEntry EventBody) (reason : Reason) → HasToTake event_kind name settings text first t deeds (Receive tags now packet) code e → t.call_result ≡ call_results.Received (Ok (outcomes.Ignored reason)) → GivesNew → ⊥
kept_refuses name settings text first t deeds tags now packet code e reason h call_result promise = takes-it event_kind name settings text first t deeds (Receive tags now packet) code e h (sym (made-now (is_ready (hosted (first_host text first) deeds).session) (map event_entry (events_in t.call_result)) h.offers.0) ∙ ap (λ (g : CallResult). map event_entry (events_in g)) call_result) promise

pub merge_kept_refuses : (name : List ℕ) (settings : Settings) (text : List ℕ) (first t : Session) (deeds : List Deed) (join : Bool) (packet : List ℕ) (code : Code) (e : TimedEntry EventBody) → HasToTake event_kind name settings text first t deeds (Merge packet join) code e → events_in t.call_result ≡ [] → GivesNew → ⊥
merge_kept_refuses name settings text first t deeds join packet code e h call_result promise = takes-it event_kind name settings text first t deeds (Merge packet join) code e h (sym (made-now (is_ready (hosted (first_host text first) deeds).session) (map event_entry (events_in t.call_result)) h.offers.0) ∙ ap (λ (es : List EventOut). map event_entry es) call_result) promise

pub queries_kept_refuses : (name : List ℕ) (settings : Settings) (text : List ℕ) (first t : Session) (deeds : List Deed) (tags : Bool) (now : ℕ) (packet : List ℕ) (code : Code) (q : TimedEntry ℕ) (reason : Reason) → HasToTake query_kind name settings text first t deeds (Receive tags now packet) code q → t.call_result ≡ call_results.Received (Ok (outcomes.Ignored reason)) → TakesNewQueries → ⊥
queries_kept_refuses name settings text first t deeds tags now packet code q reason h call_result promise = takes-it query_kind name settings text first t deeds (Receive tags now packet) code q h
    (sym (made-now (is_ready (hosted (first_host text first) deeds).session) (queries_by (Receive tags now packet) t.call_result) h.offers.0) ∙ ap (λ (g : CallResult). queries_by (Receive tags now packet) g) call_result ∙ none (decoded packet)) promise
  where
    none : (r : Result Message WireError) → got_query r (Ok (outcomes.Ignored reason)) ≡ []
    none (Ok (user_event m)) = refl
    none (Ok (query m)) = refl
    none (Ok (query_response m)) = refl
    none (Ok (push_pull m)) = refl
    none (Ok (foreign m)) = refl
    none (Err error) = refl

-- a call that isn't made accepts nothing
pub unready_enters_nothing : (tags : Bool) (now : ℕ) (packet : List ℕ) (s t : Session) → is_ready s ≡ false → enters query_kind (Receive tags now packet) s t ≡ []
unready_enters_nothing tags now packet s t unready = ap (λ (b : Bool). cond b (queries_by (Receive tags now packet) t.call_result) []) unready

-- what a kill took before the host's confirmation isn't met, and what was written before that still is
pub killed_unmet : (h : Host) (settings : Settings) (t : Session) (e x : TimedEntry EventBody) → all_met (met_after event_kind h (record { written = x ∷ []; pending = e ∷ [] }) (Dies settings [] t)) ≡ x ∷ []
killed_unmet h settings t e x = refl

pub written_met : (h : Host) (t : Session) (e : TimedEntry EventBody) → (met_after event_kind h (record { written = []; pending = e ∷ [] }) (Writes t)).written ≡ e ∷ []
written_met h t e = refl

-- an agent that forgot what was handed out
pub forgetful_refused : (e : TimedEntry EventBody) → IsOnce [] (e ∷ []) → ⊥
forgetful_refused e h = (All-head (λ (x : TimedEntry EventBody). x ≢ e) e [] (h.fresh e (All-nil (λ (p : Past EventBody). p.entry ≢ e)))) refl

-- the text on which a host opens has each clock line of its file, and each event
opened-clock : Reading → (k : ClockKind) (h : Host) (text : List ℕ) → h.new ≡ None → BeginsWith h text → last_clock k h.file ≤ last_clock k text
opened-clock reading k h text new begins = by begins.is
  where
    by : (begins.own ≡ h.file) ⊎ (h.new ≡ Some begins.own) → last_clock k h.file ≤ last_clock k text
    by (inl same) =
        let grown = reading.clock_grows k begins.front begins.tail in
        let alike = reading.clocks k begins.own begins.front begins.lines in
        let own : last_clock k begins.own ≡ last_clock k h.file = ap (λ (t : List ℕ). last_clock k t) same in
        let there : last_clock k text ≡ last_clock k (begins.front ++ begins.tail) = ap (λ (t : List ℕ). last_clock k t) begins.whole in
        omega (arith, grown, alike, own, there)
    by (inr other) = absurd (let no : None ≡ Some begins.own = sym new ∙ other in cc)

abbrev pub EventsGrow : Type 0
EventsGrow = (w : EntryFilter) (front tail : List ℕ) → (more : List TimedEvent) × (lines.events_in w (front ++ tail) ≡ lines.events_in w front ++ more)

opened-events : Reading → EventsGrow → (h : Host) (text : List ℕ) → h.new ≡ None → BeginsWith h text → (more : List TimedEvent) × (lines.events_in whatever text ≡ lines.events_in whatever h.file ++ more)
opened-events reading grow h text new begins = by begins.is
  where
    by : (begins.own ≡ h.file) ⊎ (h.new ≡ Some begins.own) → (more : List TimedEvent) × (lines.events_in whatever text ≡ lines.events_in whatever h.file ++ more)
    by (inl same) =
        let g = grow whatever begins.front begins.tail in
        let own : lines.events_in whatever begins.front ≡ lines.events_in whatever h.file = sym (reading.events whatever begins.own begins.front begins.lines) ∙ ap (λ (t : List ℕ). lines.events_in whatever t) same in
        (g.0, ap (λ (t : List ℕ). lines.events_in whatever t) begins.whole ∙ g.1 ∙ ap (λ (es : List TimedEvent). es ++ g.0) own)
    by (inr other) = absurd (let no : None ≡ Some begins.own = sym new ∙ other in cc)

-- so a host can't open on a text that lacks a clock line of its file
pub lost_clock_refused : Reading → (k : ClockKind) (name : List ℕ) (settings : Settings) (text : List ℕ) (t : Session) (h : Host) → h.new ≡ None → last_clock k text < last_clock k h.file → MayDo name h (Dies settings text t) → ⊥
lost_clock_refused reading k name settings text t h new less may = let more = opened-clock reading k h text new may.3 in absurd (omega (arith, less, more))

-- a file with two clock lines
abbrev two_clocks : List ℕ
two_clocks = codes "event-clock: 5" ++ 10 ∷ (codes "event-clock: 7" ++ 10 ∷ [])

clock-refused : Reading → (name : List ℕ) (settings : Settings) (text : List ℕ) (t : Session) (h : Host) (left : ℕ) → h.file ≡ two_clocks → h.new ≡ None → last_clock kinds.Event text ≡ left → left < 7 → MayDo name h (Dies settings text t) → ⊥
clock-refused reading name settings text t h left file new is less =
    let last : last_clock kinds.Event h.file ≡ 7 = ap (λ (t : List ℕ). last_clock kinds.Event t) file in
    lost_clock_refused reading kinds.Event name settings text t h new (omega (arith, is, last, less))

-- the text lacks the last of them, whatever other line it has; it is empty; or a line of the host before it has no newline
pub lost_line_refused : Reading → (name : List ℕ) (settings : Settings) (t : Session) (h : Host) → h.file ≡ two_clocks → h.new ≡ None → MayDo name h (Dies settings (codes "event-clock: 5" ++ 10 ∷ (codes "alive: b" ++ 10 ∷ [])) t) → ⊥
lost_line_refused reading name settings t h file new = clock-refused reading name settings (codes "event-clock: 5" ++ 10 ∷ (codes "alive: b" ++ 10 ∷ [])) t h 5 file new refl (omega arith)

pub lost_file_refused : Reading → (name : List ℕ) (settings : Settings) (t : Session) (h : Host) → h.file ≡ two_clocks → h.new ≡ None → MayDo name h (Dies settings [] t) → ⊥
lost_file_refused reading name settings t h file new = clock-refused reading name settings [] t h 0 file new refl (omega arith)

pub glued_line_refused : Reading → (name : List ℕ) (settings : Settings) (t : Session) (h : Host) → h.file ≡ two_clocks → h.new ≡ None → MayDo name h (Dies settings (codes "event-clock: 5" ++ 10 ∷ (codes "alive: bevent-clock: 7" ++ 10 ∷ [])) t) → ⊥
glued_line_refused reading name settings t h file new = clock-refused reading name settings (codes "event-clock: 5" ++ 10 ∷ (codes "alive: bevent-clock: 7" ++ 10 ∷ [])) t h 5 file new refl (omega arith)

-- nor can a host open on a text that lacks an event of its file
pub lost_event_refused : Reading → EventsGrow → (name : List ℕ) (settings : Settings) (text : List ℕ) (t : Session) (h : Host) (e : TimedEvent) (es : List TimedEvent) → h.new ≡ None → lines.events_in whatever h.file ≡ e ∷ es → lines.events_in whatever text ≡ [] → MayDo name h (Dies settings text t) → ⊥
lost_event_refused reading grow name settings text t h e es new there none may =
    let g = opened-events reading grow h text new may.3 in
    let no : [] ≡ e ∷ (es ++ g.0) = sym none ∙ g.1 ∙ ap (λ (xs : List TimedEvent). xs ++ g.0) there in cc

-- before the host's confirmation, no result of a call counts as handed out, and after it a query in the result does
abbrev all-given : Host → Host
all-given h = record h { given = h.given ++ map event_entry (events_in h.session.call_result); queries = h.queries ++ query_entries (handed_in h.session.call_result); fresh = false }

pub pending_gives_nothing : (h : Host) → is_ready h.session ≡ false → shown h ≡ h
pending_gives_nothing h unready = ap (λ (b : Bool). cond b (all-given h) h) (none h.fresh (is_ready h.session) unready)
  where
    none : (a b : Bool) → b ≡ false → (a && b) ≡ false
    none true b is = is
    none false b is = refl

pub written_gives_the_query : (h : Host) (q : DeliveredQuery) → h.fresh ≡ true → is_ready h.session ≡ true → handed_in h.session.call_result ≡ Some q → (shown h).queries ≡ h.queries ++ record { time = q.time; key = q.id } ∷ []
written_gives_the_query h q fresh ready call_result = ap (λ (b : Bool). (cond (b && is_ready h.session) (all-given h) h).queries) fresh ∙ ap (λ (b : Bool). (cond b (all-given h) h).queries) ready ∙ ap (λ (o : Option DeliveredQuery). h.queries ++ query_entries o) call_result

-- a host whose call fires something and returns a packet of a foreign kind
pub events_sent_refuse : (name : List ℕ) (settings : Settings) (text : List ℕ) (first t : Session) (deeds : List Deed) (what payload : List ℕ) (coalesce : Bool) (code : Code) (f : Fired) (kind : ℕ) → HostLives name settings text first deeds
    → is_ready (session_after text first deeds) ≡ true → Says (Fire what payload coalesce) (session_after text first deeds) t code → t.call_result ≡ call_results.Fired (Ok f) → decoded f.packet ≡ Ok (foreign kind) → SendsEvents → ⊥
events_sent_refuse name settings text first t deeds what payload coalesce code f kind lives ready says call_result other sends = let both = sym other ∙ sends name settings text first t deeds what payload coalesce code f lives ready says call_result in absurd (cc both)

pub events_in_bursts_sent_refuse : (name : List ℕ) (settings : Settings) (text : List ℕ) (first t : Session) (deeds : List Deed) (what payload : List ℕ) (coalesce : Bool) (code : Code) (f : Fired) (kind : ℕ) → HostLives name settings text first deeds
    → Says (Burst (bursts.Fires what payload coalesce)) (session_after text first deeds) t code → t.burst.items ≡ (session_after text first deeds).burst.items ++ burst_outcomes.Fired (Ok f) ∷ [] → decoded f.packet ≡ Ok (foreign kind) → SendsEventsInBursts → ⊥
events_in_bursts_sent_refuse name settings text first t deeds what payload coalesce code f kind lives says queued other sends = let both = sym other ∙ sends name settings text first t deeds what payload coalesce code f lives says queued in absurd (cc both)

pub queries_sent_refuse : (name : List ℕ) (settings : Settings) (text : List ℕ) (first t : Session) (deeds : List Deed) (now id : ℕ) (what payload addr : List ℕ) (params : Params) (code : Code) (f : FiredQuery) (kind : ℕ) → HostLives name settings text first deeds → AreOfTypes id params.port params.relay_factor params.timeout
    → is_ready (session_after text first deeds) ≡ true → Says (Query now id what payload addr params) (session_after text first deeds) t code → t.call_result ≡ call_results.QueryFired (Ok f) → decoded f.packet ≡ Ok (foreign kind) → SendsQueries → ⊥
queries_sent_refuse name settings text first t deeds now id what payload addr params code f kind lives sized ready says call_result other sends = let both = sym other ∙ sends name settings text first t deeds now id what payload addr params code f lives sized ready says call_result in absurd (cc both)

pub queries_in_bursts_sent_refuse : (name : List ℕ) (settings : Settings) (text : List ℕ) (first t : Session) (deeds : List Deed) (now id : ℕ) (what payload : List ℕ) (params : QueryParams) (code : Code) (f : FiredQuery) (kind : ℕ) → HostLives name settings text first deeds → AreOfTypes id params.port params.relay_factor params.timeout
    → Says (Burst (bursts.Asks now id what payload params)) (session_after text first deeds) t code → t.burst.items ≡ (session_after text first deeds).burst.items ++ burst_outcomes.QueryFired (Ok f) ∷ [] → decoded f.packet ≡ Ok (foreign kind) → SendsQueriesInBursts → ⊥
queries_in_bursts_sent_refuse name settings text first t deeds now id what payload params code f kind lives sized says queued other sends = let both = sym other ∙ sends name settings text first t deeds now id what payload params code f lives sized says queued in absurd (cc both)
