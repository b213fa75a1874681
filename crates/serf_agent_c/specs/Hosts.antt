-- What a host in C does with one handle and one file, over all its lives: the exports that it calls and what each
-- returned, its confirmations that the file has the agent's text, and kills at any point. And the events and queries
-- that the getters may have returned to it.
use Rattle.std.specs.Prelude.{◌≡◌, ◌≢◌, ◌⊎◌, ◌+◌, ◌<◌, ◌≤◌, ◌^◌, ◌&&◌, ◌||◌, if◌then◌else◌, ℕ, Bool, true, false, List, [], ◌∷◌, ◌++◌, drop, map, length, Option, Some, None, Result, Ok, All, AllPairs, Contains, flat_map, max}
use Rattle.std.specs.List.{fold}
use Rattle.serf_lamport.specs.Clock.{observed}
use Rattle.serf_wire.specs.declared.error.WireError.{WireError}
use Rattle.serf_wire.specs.Bytes.{AreBytes}
use Rattle.serf_wire.specs.Decoded.{decoded}
use Rattle.serf_wire.specs.Message.{Message, PushPull, push_pull, user_event}
use Rattle.serf_wire.specs.declared.texts.EventBody.{EventBody}
use Rattle.serf_window.specs.Texts.{event_of}
use Rattle.serf_window.specs.Window.{TimedEntry}
use Rattle.serf_snapshot.specs.EventLines.{min_in}
use Rattle.serf_snapshot.specs.OtherLines.{DiffersInOtherLines}
use Rattle.serf_agent.specs.declared.outcome.Fired.{Fired}
use Rattle.serf_agent.specs.declared.outcome.FiredQuery.{FiredQuery}
use Rattle.serf_agent.specs.declared.outcome.QueryParams.{QueryParams}
use Rattle.serf_agent.specs.Calls.{Call}
use Rattle.serf_agent.specs.Config.{is_sound}
use Rattle.serf_agent.specs.Events.{fire}
use Rattle.serf_agent.specs.Ideal.{IdealAgent}
use Rattle.serf_agent.specs.Kept.{IsFull}
use Rattle.serf_agent.specs.KeptTexts.{whatever}
use Rattle.serf_agent.specs.Lives.{event_entry, query_entries}
use Rattle.serf_agent.specs.Queries.{fire_query}
use Rattle.serf_agent.specs.Receive.{receive}
use Rattle.serf_agent.specs.States.{compact, events_of, save}
use Rattle.serf_agent.specs.TrackOf.{BringsQuery, TrackOf, asked_query, event_track, got_query, query_track}
use Rattle.serf_agent_c.specs.declared.burst_outcome.BurstOutcome.TheVariants as burst_outcomes
use Rattle.serf_agent_c.specs.declared.code.Code.{Code}
use Rattle.serf_agent_c.specs.declared.code.Code.TheVariants.{Done, OutOfMemory}
use Rattle.serf_agent_c.specs.declared.call_result.CallResult.{CallResult}
use Rattle.serf_agent_c.specs.declared.call_result.CallResult.TheVariants as call_results
use Rattle.serf_agent_c.specs.declared.heads.Params.{Params}
use Rattle.serf_agent_c.specs.declared.heads.Settings.{Settings}
use Rattle.serf_agent_c.specs.declared.session.Session.{Session}
use Rattle.serf_agent_c.specs.Asking.{Closes, Declines, Forgets, ForgetsFilters, ForgetsLate, Responds, params_of}
use Rattle.serf_agent_c.specs.Bursts.{BurstCall, Extends, GoesToNext, Leaves, LeavesAgent, Stands, call_result_of}
use Rattle.serf_agent_c.specs.Bursts as bursts
use Rattle.serf_agent_c.specs.Calls.{Forgoes, Gives, Takes, Tells, Waits}
use Rattle.serf_agent_c.specs.Codes.{fire_code, append_line_code, query_code, receive_code, state_code}
use Rattle.serf_agent_c.specs.ResultParts.{events_in, handed_in}
use Rattle.serf_agent_c.specs.Merging.{Compacts, ForgetsMembers, IsUnbegun, IsUncompacted, IsUnmerged, MergesFrom, SendsState}
use Rattle.serf_agent_c.specs.Observing.{Hears, IsNoTime, KeepsRest}
use Rattle.serf_agent_c.specs.Opening.{GoesOn, IsFresh, config_of}
use Rattle.serf_agent_c.specs.Sessions.{Appends, KeepsBurst, Numbers, is_ready}
use Rattle.serf_agent_c.specs.Texts.{pending_bytes, text_of}

-- A call of an export, with its arguments. `Add` is for the exports that add a filter, a status time or a member that
-- left.
pub data Export : Type 0 where
  Fire : List ℕ → List ℕ → Bool → Export
  Receive : Bool → ℕ → List ℕ → Export
  Query : ℕ → ℕ → List ℕ → List ℕ → List ℕ → Params → Export
  Merge : List ℕ → Bool → Export
  Save : Export
  Compact : Export
  CloseDue : ℕ → ℕ → Export
  Observe : ℕ → Export
  Respond : ℕ → ℕ → List ℕ → Export
  Forget : ℕ → Export
  LocalState : Export
  Burst : BurstCall → Export
  Next : ℕ → ℕ → Export
  Add : Export

-- what the clauses of an export state if it makes one call of the agent
abbrev pub Called : {R E : Type 0} → (Result R E → CallResult) → (E → Code) → (IdealAgent → Call (Result R E)) → Session → Session → Code → Type 0
Called call_result error_code call s t code = Waits s t code × Forgoes s t code × Gives call_result error_code s t code × Takes call_result call s t code

abbrev pub Bursted : BurstCall → Session → Session → Code → Type 0
Bursted call s t code = Stands s t × Leaves s t code × Extends call s t code

abbrev pub Says : Export → Session → Session → Code → Type 0
Says (Fire name payload coalesce) s t code = Called (λ r. call_results.Fired r) fire_code (λ i. fire i (event_of name payload) coalesce) s t code × Tells s t
Says (Receive tags now packet) s t code = Called (λ r. call_results.Received r) receive_code (λ i. receive tags i now packet) s t code × Tells s t
Says (Query now id name payload addr params) s t code = Called (λ r. call_results.QueryFired r) query_code (λ i. fire_query i now id name payload (params_of s.filters addr params)) s t code × ForgetsFilters s t code
Says (Merge packet is_join) s t code = Waits s t code × Tells s t × IsUnbegun s t code × IsUnmerged packet s t code × MergesFrom packet is_join s t code
Says Save s t code = Called (λ r. call_results.LineAppended r) append_line_code (λ i. save i) s t code × Tells s t
Says Compact s t code = Waits s t code × IsUncompacted s t code × Gives (λ r. call_results.LineAppended r) append_line_code s t code × Takes (λ r. call_results.LineAppended r) (λ i. compact i) s t code × Compacts s t code
Says (CloseDue now closed) s t code = Waits s t code × ForgetsLate now s t code × Forgoes s t code × Closes now closed s t code
Says (Observe time) s t code = Waits s t code × KeepsRest s t code × IsNoTime time s t code × Hears time s t code
Says (Respond number now payload) s t code = Waits s t code × (t.agent ≡ s.agent) × Declines number s t code × Responds number now payload s t code
Says (Forget number) s t code = Waits s t code × (t.agent ≡ s.agent) × Declines number s t code × Forgets number s t code
Says LocalState s t code = Waits s t code × ForgetsMembers s t code × Forgoes s t code × Gives (λ r. call_results.State r) state_code s t code × SendsState s t code
Says (Burst call) s t code = Bursted call s t code
Says (Next old new) s t code = Waits s t code × (is_ready s ≡ true → Appends s t × Numbers s t) × LeavesAgent s t × GoesToNext old new s t code
Says Add s t code = (t.agent ≡ s.agent) × (t.call_result ≡ s.call_result) × (t.written ≡ s.written) × (t.replaces ≡ s.replaces) × KeepsBurst s t

-- whether an export's result replaces the result of the call before
abbrev pub gives : Export → Bool
gives (Observe time) = false
gives (Burst call) = false
gives Add = false
gives _ = true

-- The arguments are values of C's types: bytes, and an ID below 2^32.
abbrev pub IsPassed : Export → Type 0
IsPassed (Fire name payload coalesce) = AreBytes name × AreBytes payload
IsPassed (Receive tags now packet) = AreBytes packet
IsPassed (Query now id name payload addr params) = id < 2 ^ 32
IsPassed (Merge packet is_join) = AreBytes packet
IsPassed (Observe time) = time < 2 ^ 64
IsPassed (Burst (bursts.Receives tags now packet)) = AreBytes packet
IsPassed (Burst (bursts.Fires name payload coalesce)) = AreBytes name × AreBytes payload
IsPassed (Burst (bursts.Asks now id name payload params)) = id < 2 ^ 32
IsPassed _ = Unit {0}

-- A host: the session of its handle; the file's beginning that the host confirmed, and a text that will replace it or
-- already has; the events that the getters may have returned to it, and the queries, each by its time and ID; and
-- whether those of the last call aren't among them yet.
pub record Host : Type 0 where
  pub session : Session
  pub file : List ℕ
  pub new : Option (List ℕ)
  pub given : List (TimedEntry EventBody)
  pub queries : List (TimedEntry ℕ)
  pub fresh : Bool

-- After the file has all of the agent's text, the getters can return the result of the last call. (A query that is
-- still to be added to those that wait was returned by an earlier call.)
abbrev pub shown : Host → Host
shown h =
    if h.fresh && is_ready h.session
    then record h { given = h.given ++ map event_entry (events_in h.session.call_result); queries = h.queries ++ query_entries (handed_in h.session.call_result); fresh = false }
    else h

-- the agent's text, by the bytes that are pending for the host's file
abbrev pub text_at : List ℕ → Session → List ℕ
text_at file s = if s.replaces then pending_bytes s.agent.device s.written else file ++ pending_bytes s.agent.device s.written

-- a text that will replace the file's, which is the text of a compaction that was done
abbrev pub replacing : Option (List ℕ) → Export → Session → Code → Option (List ℕ)
replacing new Compact t Done = Some (pending_bytes t.agent.device t.written)
replacing new e t code = new

-- An export, with the session and the code that it left; the host's confirmation that its file has the agent's text; or
-- the end of a session, by a kill or by `serf_agent_close`, and then the opening of the next one on a text.
pub data Deed : Type 0 where
  Calls : Export → Session → Code → Deed
  Writes : Session → Deed
  Dies : Settings → List ℕ → Session → Deed

abbrev pub did : Host → Deed → Host
did h (Calls e t code) = shown (record h { session = t; new = replacing h.new e t code; fresh = h.fresh || (gives e && is_ready h.session) })
did h (Writes t) = shown (record h { session = t; file = text_at h.file h.session; new = None })
did h (Dies settings text t) = record h { session = t; file = text; new = None; fresh = false }

-- A text begins with what the host confirmed that the file has, or with the text that was to replace it, up to other
-- lines: between these bytes, the host may have written its own whole lines that say nothing of clocks, minimum times,
-- events and queries.
pub record BeginsWith (h : Host) (text : List ℕ) : Type 0 where
  pub own : List ℕ
  pub front : List ℕ
  pub tail : List ℕ
  pub whole : text ≡ front ++ tail
  pub lines : DiffersInOtherLines own front
  pub is : (own ≡ h.file) ⊎ (h.new ≡ Some own)

abbrev pub MayDo : List ℕ → Host → Deed → Type 0
MayDo name h (Calls e t code) = Says e h.session t code × IsPassed e
MayDo name h (Writes t) = (t.written ≡ length (text_of h.session.agent.device)) × (t.replaces ≡ false) × (t.agent ≡ h.session.agent) × (t.call_result ≡ h.session.call_result) × KeepsBurst h.session t
MayDo name h (Dies settings text t) = (is_sound (config_of name settings) ≡ true) × GoesOn name settings text t × IsFresh text t × BeginsWith h text

abbrev pub hosted : Host → List Deed → Host
hosted h [] = h
hosted h (deed ∷ rest) = hosted (did h deed) rest

abbrev pub MayHost : List ℕ → Host → List Deed → Type 0
MayHost name h [] = Unit {0}
MayHost name h (deed ∷ rest) = MayDo name h deed × MayHost name (did h deed) rest

-- the host of a first session, on a text
abbrev pub first_host : List ℕ → Session → Host
first_host text t = record { session = t; file = text; new = None; given = []; queries = []; fresh = false }

-- Among the events that the getters may have returned in all lives, no two have the same time, name and payload.
abbrev pub GivesOnce : Type 0
GivesOnce =
    (name : List ℕ) (settings : Settings) (text : List ℕ) (t : Session) (deeds : List Deed) → is_sound (config_of name settings) ≡ true → GoesOn name settings text t → IsFresh text t → MayHost name (first_host text t) deeds
    → AllPairs (λ x y. x ≢ y) (hosted (first_host text t) deeds).given

-- Among the queries, no two have the same time and ID.
abbrev pub GivesQueriesOnce : Type 0
GivesQueriesOnce =
    (name : List ℕ) (settings : Settings) (text : List ℕ) (t : Session) (deeds : List Deed) → is_sound (config_of name settings) ≡ true → GoesOn name settings text t → IsFresh text t → MayHost name (first_host text t) deeds
    → AllPairs (λ x y. x ≢ y) (hosted (first_host text t) deeds).queries

-- An event that is fired has a later time than all events that the getters may have returned before, in any life.
abbrev pub GivesLater : Type 0
GivesLater =
    (name : List ℕ) (settings : Settings) (text : List ℕ) (first t : Session) (deeds : List Deed) (what payload : List ℕ) (coalesce : Bool) (code : Code) (f : Fired) → is_sound (config_of name settings) ≡ true → GoesOn name settings text first → IsFresh text first → MayHost name (first_host text first) deeds
    → let before = hosted (first_host text first) deeds in is_ready before.session ≡ true → Says (Fire what payload coalesce) before.session t code → t.call_result ≡ call_results.Fired (Ok f) → All (λ e. e.time < f.handed.time) before.given

-- A query that is fired has a later time than all queries that the getters may have returned before, in any life.
abbrev pub GivesQueriesLater : Type 0
GivesQueriesLater =
    (name : List ℕ) (settings : Settings) (text : List ℕ) (first t : Session) (deeds : List Deed) (now id : ℕ) (what payload addr : List ℕ) (params : Params) (code : Code) (f : FiredQuery) → is_sound (config_of name settings) ≡ true → GoesOn name settings text first → IsFresh text first → MayHost name (first_host text first) deeds
    → let before = hosted (first_host text first) deeds in is_ready before.session ≡ true → Says (Query now id what payload addr params) before.session t code → t.call_result ≡ call_results.QueryFired (Ok f) → All (λ e. e.time < f.time) before.queries

-- The same is true of an event that is fired in a burst, when its outcome begins to wait.
abbrev pub GivesLaterInBursts : Type 0
GivesLaterInBursts =
    (name : List ℕ) (settings : Settings) (text : List ℕ) (first t : Session) (deeds : List Deed) (what payload : List ℕ) (coalesce : Bool) (code : Code) (f : Fired) → is_sound (config_of name settings) ≡ true → GoesOn name settings text first → IsFresh text first → MayHost name (first_host text first) deeds
    → let before = hosted (first_host text first) deeds in Says (Burst (bursts.Fires what payload coalesce)) before.session t code → t.burst.items ≡ before.session.burst.items ++ burst_outcomes.Fired (Ok f) ∷ [] → All (λ e. e.time < f.handed.time) before.given

-- The same is true of a query that is fired in a burst.
abbrev pub GivesQueriesLaterInBursts : Type 0
GivesQueriesLaterInBursts =
    (name : List ℕ) (settings : Settings) (text : List ℕ) (first t : Session) (deeds : List Deed) (now id : ℕ) (what payload : List ℕ) (params : QueryParams) (code : Code) (f : FiredQuery) → is_sound (config_of name settings) ≡ true → GoesOn name settings text first → IsFresh text first → MayHost name (first_host text first) deeds
    → let before = hosted (first_host text first) deeds in Says (Burst (bursts.Asks now id what payload params)) before.session t code → t.burst.items ≡ before.session.burst.items ++ burst_outcomes.QueryFired (Ok f) ∷ [] → All (λ e. e.time < f.time) before.queries

-- What a host doesn't miss

-- The parts by which events and queries are treated alike: the place where an agent keeps them, and the session's clock
-- for them; what a call accepts, by its result; what a packet contains; and what a state that is merged holds.
pub record Showing (K : Type 0) : Type 1 where
  pub which : TrackOf K
  pub clock : Session → ℕ
  pub entered : Export → CallResult → List (TimedEntry K)
  pub Brings : TimedEntry K → Result Message WireError → Type 0
  pub Holds : TimedEntry K → Result Message WireError → Type 0

abbrev pub BringsEvent : TimedEntry EventBody → Result Message WireError → Type 0
BringsEvent e (Ok (user_event m)) = (m.time ≡ e.time) × (event_of m.name m.payload ≡ e.key)
BringsEvent e _ = ⊥

abbrev pub HoldsEvent : TimedEntry EventBody → Result Message WireError → Type 0
HoldsEvent e (Ok (push_pull m)) = Contains (events_of m.slots) e
HoldsEvent e _ = ⊥

abbrev pub event_kind : Showing EventBody
event_kind = record { which = event_track; clock = λ s. s.agent.concrete.events.clock; entered = λ e call_result. map event_entry (events_in call_result); Brings = BringsEvent; Holds = HoldsEvent }

-- A query is also accepted if its filters exclude the node, and then it isn't handed out. A state holds no queries.
abbrev pub queries_by : Export → CallResult → List (TimedEntry ℕ)
queries_by (Receive tags now packet) (call_results.Received r) = got_query (decoded packet) r
queries_by (Query now id name payload addr params) (call_results.QueryFired r) = asked_query id r
queries_by (Burst (bursts.Receives tags now packet)) (call_results.Received r) = got_query (decoded packet) r
queries_by (Burst (bursts.Asks now id name payload params)) (call_results.QueryFired r) = asked_query id r
queries_by e call_result = []

abbrev pub query_kind : Showing ℕ
query_kind = record { which = query_track; clock = λ s. s.agent.concrete.queries.clock; entered = queries_by; Brings = BringsQuery; Holds = λ e r. ⊥ }

-- what a call accepts if it is made, from one session to the next: it follows from the result, or in a burst from the
-- outcome that waits since then
abbrev pub enters : {K : Type 0} → Showing K → Export → Session → Session → List (TimedEntry K)
enters kind (Burst call) s t = flat_map (λ x. kind.entered (Burst call) (call_result_of x)) (drop (length s.burst.items) t.burst.items)
enters kind e s t = if gives e && is_ready s then kind.entered e t.call_result else []

-- What a host met: what was in the texts on which it opened, and what was accepted by calls whose lines the host
-- confirmed to be in its file; and what was accepted by calls whose lines are still pending. If a kill came before the
-- host's confirmation, what was pending isn't met, unless the next text has it.
pub record Met (K : Type 0) : Type 0 where
  pub written : List (TimedEntry K)
  pub pending : List (TimedEntry K)

abbrev pub all_met : {K : Type 0} → Met K → List (TimedEntry K)
all_met m = m.written ++ m.pending

abbrev pub met_at : {K : Type 0} → Session → Met K → Met K
met_at t m = if is_ready t then record { written = m.written ++ m.pending; pending = [] } else m

abbrev pub met_after : {K : Type 0} → Showing K → Host → Met K → Deed → Met K
met_after kind h m (Calls e t code) = met_at t (record { written = m.written; pending = m.pending ++ enters kind e h.session t })
met_after kind h m (Writes t) = record { written = m.written ++ m.pending; pending = [] }
met_after kind h m (Dies settings text t) = record { written = m.written ++ kind.which.kept whatever text; pending = [] }

abbrev pub met_in : {K : Type 0} → Showing K → Host → Met K → List Deed → Met K
met_in kind h m [] = m
met_in kind h m (deed ∷ rest) = met_in kind (did h deed) (met_after kind h m deed) rest

abbrev pub first_met : {K : Type 0} → Showing K → List ℕ → Met K
first_met kind text = record { written = kind.which.kept whatever text; pending = [] }

-- The settings stay the same, and no text and no join raises the minimum time above this time.
abbrev pub KeepsTo : {K : Type 0} → Showing K → List ℕ → Settings → ℕ → Deed → Type 0
KeepsTo kind name settings time (Dies next text t) = (next ≡ settings) × (min_in kind.which.kind text ≤ time)
KeepsTo kind name settings time (Calls (Merge packet is_join) t code) = (m : PushPull) → decoded packet ≡ Ok (push_pull m) → kind.which.HearsNoneAbove time (config_of name settings) m is_join
KeepsTo kind name settings time deed = Unit {0}

-- a call passes an entry, in a packet or in a state, to a session that is ready, or passes it in a burst
abbrev pub Offers : {K : Type 0} → Showing K → TimedEntry K → Session → Export → Type 0
Offers kind e s (Receive tags now packet) = (is_ready s ≡ true) × kind.Brings e (decoded packet)
Offers kind e s (Merge packet is_join) = (is_ready s ≡ true) × kind.Holds e (decoded packet)
Offers kind e s (Burst (bursts.Receives tags now packet)) = kind.Brings e (decoded packet)
Offers kind e s _ = ⊥

-- a clock after it has observed this time, or has observed everything that a state contains
abbrev pub clock_heard : ℕ → Result Message WireError → ℕ
clock_heard clock (Ok (push_pull m)) = fold (λ c e. observed c e.time) (max clock m.event_clock) (events_of m.slots)
clock_heard clock _ = clock

abbrev pub clock_after : ℕ → ℕ → Export → ℕ
clock_after clock time (Merge packet is_join) = clock_heard clock (decoded packet)
clock_after clock time offer = observed clock time

-- A host's settings stay the same and keep events. A packet or a state arrives, and there is memory for the call. It
-- contains an entry that isn't too long, and that isn't too old after the clock has observed everything that arrived.
-- The entry isn't below a minimum time that a text or a join has set, and was never met, in any life. Then it is
-- accepted, or its time is full: as many entries of this time as the settings allow were met, or more of a later time
-- (proofs/WrongHosts.antt has hosts that miss an entry).
abbrev pub MissesNone : {K : Type 0} → Showing K → Type 0
MissesNone {K} kind =
    (name : List ℕ) (settings : Settings) (text : List ℕ) (first t : Session) (deeds : List Deed) (offer : Export) (code : Code) (e : TimedEntry K) → is_sound (config_of name settings) ≡ true → settings.keep_events ≡ true → GoesOn name settings text first → IsFresh text first → MayHost name (first_host text first) deeds
    → min_in kind.which.kind text ≤ e.time → All (KeepsTo kind name settings e.time) (deeds ++ Calls offer t code ∷ [])
    → let before = (hosted (first_host text first) deeds).session in let met = all_met (met_in kind (first_host text first) (first_met kind text) deeds) in Offers kind e before offer → Says offer before t code → IsPassed offer → code ≢ OutOfMemory
    → kind.which.Short e.key → clock_after (kind.clock before) e.time offer ≤ e.time + kind.which.slots (config_of name settings)
    → (Contains met e → ⊥)
    → let entered = enters kind offer before t in Contains entered e ⊎ IsFull settings.per_time e.time (met ++ entered) []

-- A new event is handed out after the host's file has its line. A new query is accepted, and is handed out if its
-- filters let the node pass.
abbrev pub GivesNew : Type 0
GivesNew = MissesNone event_kind

abbrev pub TakesNewQueries : Type 0
TakesNewQueries = MissesNone query_kind
