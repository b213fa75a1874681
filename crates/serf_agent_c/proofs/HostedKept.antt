-- Its agent has met everything that a host in C met in its lives, and keeps accepting what is new.
use Rattle.serf_agent_c.proofs.Names.{Bool, Err, List, None, Ok, Option, Result, Some, [], ap, append-nil, append_assoc, arith, cond, drop, false, inl, inr, length, map, refl, subst, sym, true, ℕ, ◌&&◌, ◌++◌, ◌+◌, ◌-◌, ◌<◌, ◌^◌, ◌∙◌, ◌∷◌, ◌≡◌, ◌≢◌, ◌≤◌, ◌⊎◌, map-append, Contains, observed, AreBytes, decoded, PushPull, push_pull, EventBody, Device, fresh_device, min_in, Kept, event_of, TimedEntry, Call, MayEnd, Replaces, answers, ended, is_sound, fire, IdealAgent, IsFull, SnapshotView, Track, with_snapshot, IsOpenAt, allowed, last_line, max, KeepsSettings, TellsNoneAbove, stood_after, IsDurable, MayGoOn, MayKeep, StartsWithDurable, whatever, Act, Asks, Closes, Compacts, Fires, Gets, Hears, MayAct, Opens, Saves, Takes, after, event_entry, clock_state, fire_query, receive, receive_read, HasPast, IsSound, delivered, handed_by, joined, save, written_lines, TakesOrFull, TakingLaws, event_track, got_query, query_track, ConcreteState, view_of, Config, EventOut, Outcome, QueryParams, ReceiveError, BurstCall, IsFlushed, call_result_of, events_in, Follows, Went, goes, rests, waits, Add, Burst, Calls, CloseDue, Compact, Dies, Export, Fire, Forget, Host, IsPassed, KeepsTo, LocalState, Merge, Met, Next, Observe, Offers, Query, Receive, Respond, Save, Says, Showing, all_met, clock_after, did, enters, event_kind, met_at, query_kind, replacing, shown, GoesOn, IsFresh, config_of, Appends, is_ready, pending_bytes, BurstOutcome, Code, CallResult, Params, Settings, Session}
use Rattle.std.specs.Prelude.{flat_map}
use Rattle.serf_agent_c.proofs.BurstLaws.{IsPlain, runs-after, kept-step, receive-plain}
use Rattle.serf_agent_c.proofs.HostLaws.{Compacted, closed-follows, host_steps, idle, observed-follows, refuses, renews, same-agent, save-plain, text-ready, unobserved-follows, want}
use Rattle.serf_agent_c.specs.HostLaws.{WentInBurst, lost, made}
use Rattle.serf_agent_c.proofs.HandedOnce.{made-now, Given, adds, full-wider, goes-wider, joins, event-read, query-read, unmet}
use Rattle.serf_agent_c.proofs.OtherLines.{left_with}
use Rattle.serf_agent_c.proofs.HostedCalls.{Below, fired_queries-out, fired-out, hears-quietly, may-hear, no-asking, not-replacing, received-out, replacing-other, told, top-or}
use Rattle.serf_agent.specs.declared.outcome.ReceiveError.TheVariants as receives
use Rattle.serf_agent_c.specs.declared.call_result.CallResult.TheVariants as call_results
use Rattle.serf_agent_c.specs.Bursts as bursts
use Rattle.serf_agent_c.specs.declared.burst_outcome.BurstOutcome.TheVariants as answereds
use Rattle.serf_snapshot.specs.declared.snapshot.AppendLineError.TheVariants as notes
use Rattle.serf_agent_c.specs.declared.code.Code.TheVariants as codes

-- ---- a single time

pub record Aim : Type 0 where
  pub name : List ℕ
  pub settings : Settings
  pub time : ℕ
  pub on : settings.keep_events ≡ true
  pub some : 0 < time

abbrev pub aimed : Aim → Config
aimed g = config_of g.name g.settings

abbrev pub Goes : {K : Type 0} → Showing K → Aim → List (TimedEntry K) → IdealAgent → Type 0
Goes kind g met i = TakesOrFull kind.which g.time (aimed g) met [] i

pub goes-more : {K : Type 0} (kind : Showing K) (g : Aim) (met more : List (TimedEntry K)) (i : IdealAgent) → Goes kind g met i → Goes kind g (met ++ more) i
goes-more kind g met more i = goes-wider kind.which g.time (aimed g) met [] (met ++ more) [] i (adds met more)

-- What holds for events and for queries: a track doesn't depend on the sink, and calls accept what the acts do.
pub record Tracking {K : Type 0} (kind : Showing K) : Type 0 where
  pub taking : TakingLaws kind.which
  pub empty : kind.which.kept whatever [] ≡ []
  pub clock : (i : IdealAgent) (s : Session) → s.agent.concrete ≡ view_of i → kind.clock s ≡ (kind.which.track i).clock
  pub unsunk : (i : IdealAgent) (s : SnapshotView) → kind.which.track (with_snapshot s i) ≡ kind.which.track i
  pub alone : (t : ℕ) (config : Config) (m : PushPull) → kind.which.HearsNoneAbove t config m false
  pub fires : (i : IdealAgent) (name payload : List ℕ) (flag : Bool) → kind.which.entered i (Fires (event_of name payload) flag Kept) ≡ kind.entered (Fire name payload flag) (call_results.Fired (ended i (fire i (event_of name payload) flag) Kept).answer)
  pub fires_on : (i : IdealAgent) (name payload : List ℕ) (flag : Bool) → kind.which.entered i (Fires (event_of name payload) flag Kept) ≡ kind.entered (Burst (bursts.Fires name payload flag)) (call_results.Fired (ended i (fire i (event_of name payload) flag) Kept).answer)
  pub gets : (i : IdealAgent) (tags : Bool) (now : ℕ) (packet : List ℕ) → kind.which.entered i (Gets tags now packet Kept) ≡ kind.entered (Receive tags now packet) (call_results.Received (ended i (receive tags i now packet) Kept).answer)
  pub gets_on : (i : IdealAgent) (tags : Bool) (now : ℕ) (packet : List ℕ) → kind.which.entered i (Gets tags now packet Kept) ≡ kind.entered (Burst (bursts.Receives tags now packet)) (call_results.Received (ended i (receive tags i now packet) Kept).answer)
  pub asks : (i : IdealAgent) (now id : ℕ) (name payload addr : List ℕ) (params : Params) (how : QueryParams) → kind.which.entered i (Asks now id name payload how Kept) ≡ kind.entered (Query now id name payload addr params) (call_results.QueryFired (ended i (fire_query i now id name payload how) Kept).answer)
  pub asks_on : (i : IdealAgent) (now id : ℕ) (name payload : List ℕ) (how : QueryParams) → kind.which.entered i (Asks now id name payload how Kept) ≡ kind.entered (Burst (bursts.Asks now id name payload how)) (call_results.QueryFired (ended i (fire_query i now id name payload how) Kept).answer)
  -- the events of a merge
  pub merges : List EventOut → List (TimedEntry K)
  pub merged : (packet : List ℕ) (join : Bool) (call_result : CallResult) → kind.entered (Merge packet join) call_result ≡ merges (events_in call_result)
  pub merges_none : merges [] ≡ []
  pub merges_both : (xs ys : List EventOut) → merges (xs ++ ys) ≡ merges xs ++ merges ys
  pub takes : (i : IdealAgent) (e : TimedEntry EventBody) → kind.which.entered i (Takes e Kept) ≡ merges (delivered i e)
  -- other acts accept nothing
  pub hears : (i : IdealAgent) (m : PushPull) (join : Bool) → kind.which.entered i (Hears m join Kept) ≡ []
  pub saves : (i : IdealAgent) → kind.which.entered i (Saves Kept) ≡ []
  pub compacts : (i : IdealAgent) → kind.which.entered i (Compacts Kept) ≡ []
  pub closes : (i : IdealAgent) (now : ℕ) → kind.which.entered i (Closes now) ≡ []
  pub opens : (i : IdealAgent) (config : Config) (text : List ℕ) (d : Device) → kind.which.entered i (Opens config text d) ≡ []
  -- what a packet contains is accepted if it is admitted
  pub offers : (i : IdealAgent) (tags : Bool) (now : ℕ) (packet : List ℕ) (e : TimedEntry K) → kind.Brings e (decoded packet) → i.snapshot.stopped ≡ false → kind.which.admission i e.time e.key ≡ None → kind.which.entered i (Gets tags now packet Kept) ≡ e ∷ []

-- events

pub event_tracking : TakingLaws event_track → Tracking event_kind
event_tracking taking = record {
  taking = taking;
  empty = refl;
  clock = λ i s is. ap (λ (a : ConcreteState). a.events.clock) is;
  unsunk = λ i s. refl;
  alone = λ t config m no. absurd (let wrong : false ≡ true = no in cc);
  fires = λ i name payload flag. ap (λ (g : Given). g.events) (fired-out (ended i (fire i (event_of name payload) flag) Kept).answer);
  fires_on = λ i name payload flag. ap (λ (g : Given). g.events) (fired-out (ended i (fire i (event_of name payload) flag) Kept).answer);
  gets = λ i tags now packet. ap (λ (g : Given). g.events) (received-out (ended i (receive tags i now packet) Kept).answer);
  gets_on = λ i tags now packet. ap (λ (g : Given). g.events) (received-out (ended i (receive tags i now packet) Kept).answer);
  asks = λ i now id name payload addr params how. ap (λ (g : Given). g.events) (fired_queries-out (ended i (fire_query i now id name payload how) Kept).answer);
  asks_on = λ i now id name payload how. ap (λ (g : Given). g.events) (fired_queries-out (ended i (fire_query i now id name payload how) Kept).answer);
  merges = λ es. map event_entry es;
  merged = λ packet join call_result. refl;
  merges_none = refl;
  merges_both = λ xs ys. map-append event_entry xs ys;
  takes = λ i e. refl;
  hears = λ i m join. refl;
  saves = λ i. refl;
  compacts = λ i. refl;
  closes = λ i now. refl;
  opens = λ i config text d. refl;
  offers = λ i tags now packet e brings runs new.
      subst (λ (b : Bool). map event_entry (handed_by (ended i (cond b (answers i (Err receives.Stopped)) (receive_read tags i now (decoded packet))) Kept).answer) ≡ e ∷ []) (sym runs) (event-read tags i now e (decoded packet) brings new);
}

-- queries

pub query_tracking : TakingLaws query_track → Tracking query_kind
query_tracking taking = record {
  taking = taking;
  empty = refl;
  clock = λ i s is. ap (λ (a : ConcreteState). a.queries.clock) is;
  unsunk = λ i s. refl;
  alone = λ t config m. tt;
  fires = λ i name payload flag. refl;
  fires_on = λ i name payload flag. refl;
  gets = λ i tags now packet. refl;
  gets_on = λ i tags now packet. refl;
  asks = λ i now id name payload addr params how. refl;
  asks_on = λ i now id name payload how. refl;
  merges = λ es. [];
  merged = λ packet join call_result. refl;
  merges_none = refl;
  merges_both = λ xs ys. refl;
  takes = λ i e. refl;
  hears = λ i m join. refl;
  saves = λ i. refl;
  compacts = λ i. refl;
  closes = λ i now. refl;
  opens = λ i config text d. refl;
  offers = λ i tags now packet e brings runs new.
      subst (λ (b : Bool). got_query (decoded packet) (ended i (cond b (answers i (Err receives.Stopped)) (receive_read tags i now (decoded packet))) Kept).answer ≡ e ∷ []) (sym runs) (query-read tags i now e (decoded packet) brings new);
}

-- ---- calls

-- an act that may occur, doesn't raise the minimum time above the given time, and opens on no text
pub record Doing {K : Type 0} (kind : Showing K) (g : Aim) (i : IdealAgent) (act : Act) : Type 0 where
  pub may : MayAct i act
  pub keep : MayKeep i act
  pub go : MayGoOn i act
  pub same : KeepsSettings (aimed g) act
  pub told : i.config ≡ aimed g → TellsNoneAbove kind.which g.time i act
  pub none : stood_after kind.which [] act ≡ []

pub acted : {K : Type 0} (kind : Showing K) (track : Tracking kind) (g : Aim) (i : IdealAgent) (act : Act) (met : List (TimedEntry K)) → IsSound i → IsDurable i → Doing kind g i act → Goes kind g met i → Goes kind g (met ++ kind.which.entered i act) (after i act)
acted {K} kind track g i act met sound d doing (inl takes) =
    subst (λ (stood : List (TimedEntry K)). TakesOrFull kind.which g.time (aimed g) (met ++ kind.which.entered i act) stood (after i act)) doing.none
    (track.taking.stays g.time (aimed g) met [] i act g.on g.some sound d takes doing.go doing.same (doing.told takes.settings))
acted {K} kind track g i act met sound d doing (inr full) = inr (full-wider (aimed g).per_time g.time met [] (met ++ kind.which.entered i act) [] (adds met (kind.which.entered i act)) full)

-- The agent that a session follows, if all of this was met. Its sink never fails, so it isn't stopped.
pub record Within {K : Type 0} (kind : Showing K) (g : Aim) (file : List ℕ) (s : Session) (met : List (TimedEntry K)) : Type 0 where
  pub agent : IdealAgent
  pub follows : Follows agent file s
  pub durable : IsDurable agent
  pub runs : agent.snapshot.stopped ≡ false
  pub goes : Goes kind g met agent

-- the same agent
pub still : {K : Type 0} (kind : Showing K) (g : Aim) (file : List ℕ) (s t : Session) (met more : List (TimedEntry K)) (w : Within kind g file s met) → Follows w.agent file t → Within kind g file t (met ++ more)
still kind g file s t met more w f = record { agent = w.agent; follows = f; durable = w.durable; runs = w.runs; goes = goes-more kind g met more w.agent w.goes }

-- the same session
pub unmoved : {K : Type 0} (kind : Showing K) (g : Aim) (file : List ℕ) (s t : Session) (met more : List (TimedEntry K)) → Within kind g file s met → t ≡ s → Within kind g file t (met ++ more)
unmoved kind g file s t met more w same = still kind g file s t met more w (subst (λ (u : Session). Follows w.agent file u) (sym same) w.follows)

-- the agent after an act
pub moved : {K : Type 0} (laws : Below) (kind : Showing K) (track : Tracking kind) (g : Aim) (file : List ℕ) (s t : Session) (met more : List (TimedEntry K)) (w : Within kind g file s met) (act : Act) → Follows (after w.agent act) file t → (after w.agent act).snapshot.stopped ≡ false → Doing kind g w.agent act → kind.which.entered w.agent act ≡ more
    → Within kind g file t (met ++ more)
moved {K} laws kind track g file s t met more w act f runs doing is = record {
  agent = after w.agent act;
  follows = f;
  durable = laws.durable w.agent act w.follows.sound w.durable doing.may doing.keep;
  runs = runs;
  goes = subst (λ (l : List (TimedEntry K)). Goes kind g (met ++ l) (after w.agent act)) is (acted kind track g w.agent act met w.follows.sound w.durable doing w.goes);
}

pub went-within : {K R : Type 0} (laws : Below) (kind : Showing K) (track : Tracking kind) (g : Aim) (call_result : R → CallResult) (file : List ℕ) (s t : Session) (met more : List (TimedEntry K)) (w : Within kind g file s met) (act : Act) (call : Call R) → Went call_result w.agent call file s t → IsPlain w.agent call
    → after w.agent act ≡ (ended w.agent call Kept).agent → (MayEnd w.agent call Kept → Doing kind g w.agent act) → (is_ready s ≡ true → t.call_result ≡ call_result (ended w.agent call Kept).answer → kind.which.entered w.agent act ≡ more) → Within kind g file t (met ++ more)
went-within laws kind track g call_result file s t met more w act call (waits unready same) plain becomes doing is = unmoved kind g file s t met more w same
went-within laws kind track g call_result file s t met more w act call (rests ready follows none) plain becomes doing is = still kind g file s t met more w follows
went-within laws kind track g call_result file s t met more w act call (goes ready ends gives follows) plain becomes doing is =
    moved laws kind track g file s t met more w act (subst (λ (j : IdealAgent). Follows j file t) (sym becomes) follows) (subst (λ (j : IdealAgent). j.snapshot.stopped ≡ false) (sym becomes) (runs-after w.agent call plain w.runs)) (doing ends) (is ready gives)

-- what follows a list
following : {A : Type 0} (xs ys : List A) → drop (length xs) (xs ++ ys) ≡ ys
following [] ys = refl
following (x ∷ xs) ys = following xs ys

pub waiting-since : {K : Type 0} (kind : Showing K) (call : BurstCall) (s t : Session) (x : BurstOutcome) → t.burst.items ≡ s.burst.items ++ x ∷ [] → enters kind (Burst call) s t ≡ kind.entered (Burst call) (call_result_of x)
waiting-since {K} kind call s t x burst =
    ap (λ (xs : List BurstOutcome). flat_map (λ y. kind.entered (Burst call) (call_result_of y)) xs) (ap (λ (xs : List BurstOutcome). drop (length s.burst.items) xs) burst ∙ following s.burst.items (x ∷ [])) ∙ append-nil (kind.entered (Burst call) (call_result_of x))

pub bursted-within : {K R : Type 0} (laws : Below) (kind : Showing K) (track : Tracking kind) (g : Aim) (burst_outcome : R → BurstOutcome) (file : List ℕ) (s t : Session) (met : List (TimedEntry K)) (w : Within kind g file s met) (act : Act) (once : BurstCall) (call : Call R) → WentInBurst burst_outcome w.agent call file s t → IsPlain w.agent call
    → after w.agent act ≡ (ended w.agent call Kept).agent → (MayEnd w.agent call Kept → Doing kind g w.agent act) → kind.which.entered w.agent act ≡ kind.entered (Burst once) (call_result_of (burst_outcome (ended w.agent call Kept).answer)) → Within kind g file t (met ++ enters kind (Burst once) s t)
bursted-within laws kind track g burst_outcome file s t met w act once call (lost follows burst) plain becomes doing is = still kind g file s t met (enters kind (Burst once) s t) w follows
bursted-within laws kind track g burst_outcome file s t met w act once call (made ends follows burst) plain becomes doing is =
    moved laws kind track g file s t met (enters kind (Burst once) s t) w act (subst (λ (j : IdealAgent). Follows j file t) (sym becomes) follows) (subst (λ (j : IdealAgent). j.snapshot.stopped ≡ false) (sym becomes) (runs-after w.agent call plain w.runs)) (doing ends)
    (is ∙ sym (waiting-since kind once s t (burst_outcome (ended w.agent call Kept).answer) burst))

-- more was met
pub more-within : {K : Type 0} (kind : Showing K) (g : Aim) (file : List ℕ) (t : Session) (met more : List (TimedEntry K)) → Within kind g file t met → Within kind g file t (met ++ more)
more-within kind g file t met more w = still kind g file t t met more w w.follows

-- an act that accepts nothing
pub quietly : {K : Type 0} (laws : Below) (kind : Showing K) (track : Tracking kind) (g : Aim) (file : List ℕ) (s t : Session) (met more : List (TimedEntry K)) (w : Within kind g file s met) (act : Act) → Follows (after w.agent act) file t → (after w.agent act).snapshot.stopped ≡ false → Doing kind g w.agent act → kind.which.entered w.agent act ≡ []
    → Within kind g file t (met ++ more)
quietly {K} laws kind track g file s t met more w act f runs doing is = more-within kind g file t met more (subst (λ (l : List (TimedEntry K)). Within kind g file t l) (append-nil met) (moved laws kind track g file s t met [] w act f runs doing is))

pub saved-within : {K : Type 0} (laws : Below) (kind : Showing K) (track : Tracking kind) (g : Aim) (file : List ℕ) (s t : Session) (met more : List (TimedEntry K)) (w : Within kind g file s met) (code : Code) → Says Save s t code → Within kind g file t (met ++ more)
saved-within {K} laws kind track g file s t met more w code says =
    more-within kind g file t met more (subst (λ (l : List (TimedEntry K)). Within kind g file t l) (append-nil met) (went-within laws kind track g (λ r. call_results.LineAppended r) file s t met [] w (Saves Kept) (save w.agent) (host_steps.saves s t code w.agent file says w.follows) (save-plain w.agent) refl
    (λ ends. record { may = ends; keep = tt; go = (ends, tt); same = tt; told = λ c. tt; none = refl }) (λ ready gives. track.saves w.agent)))

compact-runs : (i : IdealAgent) (stopped : Bool) (lines : Option (List ℕ)) → i.snapshot.stopped ≡ false → (ended i (cond stopped (answers i (Err notes.Stopped)) (Replaces lines (record { agent = i; answer = Ok (tt {0}) }) (Err notes.SinkError))) Kept).agent.snapshot.stopped ≡ false
compact-runs i true lines runs = runs
compact-runs i false lines runs = runs

pub compacted-within : {K : Type 0} (laws : Below) (kind : Showing K) (track : Tracking kind) (g : Aim) (file : List ℕ) (s t : Session) (met more : List (TimedEntry K)) (w : Within kind g file s met) (code : Code) → Compacted w.agent file s t code → Within kind g file t (met ++ more)
compacted-within laws kind track g file s t met more w code (idle unready same is) = unmoved kind g file s t met more w same
compacted-within laws kind track g file s t met more w code (refuses ready follows other none) = still kind g file s t met more w follows
compacted-within laws kind track g file s t met more w code (renews ready ends follows replaces is none durable recalls) =
    quietly laws kind track g file s t met more w (Compacts Kept) follows (compact-runs w.agent w.agent.snapshot.stopped (written_lines (view_of w.agent)) w.runs) (record { may = ends; keep = tt; go = (ends, tt); same = tt; told = λ c. tt; none = refl }) (track.compacts w.agent)

-- a call that doesn't change the agent
pub left-within : {K : Type 0} (kind : Showing K) (g : Aim) (file : List ℕ) (s t : Session) (met more : List (TimedEntry K)) → Within kind g file s met → (is_ready s ≡ false → t ≡ s) → (is_ready s ≡ true → (t.agent ≡ s.agent) × Appends s t) → Within kind g file t (met ++ more)
left-within kind g file s t met more w unmade same = by (is_ready s) refl
  where
    by : (b : Bool) → is_ready s ≡ b → Within kind g file t (met ++ more)
    by false is = unmoved kind g file s t met more w (unmade is)
    by true is = let p = same is in still kind g file s t met more w (same-agent s t w.agent file is p.0 p.1 w.follows)

pub closed-within : {K : Type 0} (laws : Below) (kind : Showing K) (track : Tracking kind) (g : Aim) (file : List ℕ) (s t : Session) (met more : List (TimedEntry K)) (w : Within kind g file s met) (code : Code) (now closed : ℕ) → Says (CloseDue now closed) s t code → Within kind g file t (met ++ more)
closed-within laws kind track g file s t met more w code now closed may = by (is_ready s) refl
  where
    by : (b : Bool) → is_ready s ≡ b → Within kind g file t (met ++ more)
    by false is = unmoved kind g file s t met more w (may.0 is).1
    by true is = elim (want code) [
      | inl out ↦ still kind g file s t met more w (same-agent s t w.agent file is (may.2 out).0 (may.1 is).1 w.follows)
      | inr other ↦
          quietly laws kind track g file s t met more w (Closes now) (closed-follows s t code now closed w.agent file may is other w.follows) w.runs (record { may = tt; keep = tt; go = (tt, tt); same = tt; told = λ c. tt; none = refl }) (track.closes w.agent now)
    ]

pub observed-within : {K : Type 0} (laws : Below) (kind : Showing K) (track : Tracking kind) (g : Aim) (file : List ℕ) (s t : Session) (met more : List (TimedEntry K)) (w : Within kind g file s met) (code : Code) (time : ℕ) → Says (Observe time) s t code → time < 2 ^ 64 → Within kind g file t (met ++ more)
observed-within laws kind track g file s t met more w code time may small = by (is_ready s) refl
  where
    i : IdealAgent
    i = w.agent

    at-maximum : is_ready s ≡ true → (time ≡ 2 ^ 64 - 1) ⊎ (time < 2 ^ 64 - 1) → Within kind g file t (met ++ more)
    at-maximum ready (inl none) = still kind g file s t met more w (unobserved-follows s t code time i file may ready none w.follows)
    at-maximum ready (inr low) =
        let m = clock_state (time + 1) in
        let act = Hears m false Kept in
        let is : after i act ≡ joined m false i = hears-quietly i m i.config.keep_events in
        let may_hear : MayAct i act = (may-hear i m i.config.keep_events, omega (arith, low), λ asks. absurd (no-asking i m i.config.keep_events asks)) in
        quietly laws kind track g file s t met more w act (subst (λ (j : IdealAgent). Follows j file t) (sym is) (observed-follows s t code time i file may ready low w.follows)) (subst (λ (j : IdealAgent). j.snapshot.stopped ≡ false) (sym is) w.runs)
        (record { may = may_hear; keep = omega arith; go = (may_hear, omega arith); same = tt; told = λ c. track.alone g.time i.config m; none = refl }) (track.hears i m false)

    by : (b : Bool) → is_ready s ≡ b → Within kind g file t (met ++ more)
    by false is = unmoved kind g file s t met more w (may.0 is).1
    by true is = at-maximum is (top-or (2 ^ 64 - 1) time (omega (arith, small)))

-- ---- a host

-- the agent to which a kill reverts if the file begins with this text
pub record KeptAt {K : Type 0} (kind : Showing K) (g : Aim) (front : List ℕ) (met : List (TimedEntry K)) : Type 0 where
  pub agent : IdealAgent
  pub sound : IsSound agent
  pub durable : IsDurable agent
  pub starts : StartsWithDurable agent front
  pub goes : Goes kind g met agent

abbrev pub KeptRenewed : {K : Type 0} → Showing K → Aim → Host → List (TimedEntry K) → Type 0
KeptRenewed kind g h met = (front : List ℕ) → h.new ≡ Some front → KeptAt kind g front met × (h.session.replaces ≡ true)

pub record IsKept {K : Type 0} (kind : Showing K) (g : Aim) (h : Host) (m : Met K) : Type 0 where
  pub inside : Within kind g h.file h.session (all_met m)
  pub following : KeptAt kind g h.file m.written
  pub renewed : KeptRenewed kind g h m.written
  pub quiet : is_ready h.session ≡ true → m.pending ≡ []

-- after its file has everything, a kill reverts to the agent that the session follows
pub settled-kept : {K : Type 0} (kind : Showing K) (g : Aim) (h : Host) (m : Met K) → Within kind g h.file h.session (all_met m) → KeptAt kind g h.file m.written → KeptRenewed kind g h m.written → IsKept kind g h (met_at h.session m)
settled-kept {K} kind g h m w back renewed = by (is_ready h.session) refl
  where
    by : (b : Bool) → is_ready h.session ≡ b → IsKept kind g h (cond b (record { written = m.written ++ m.pending; pending = [] }) m)
    by false is = record { inside = w; following = back; renewed = renewed; quiet = λ ready. absurd (let no : true ≡ false = sym ready ∙ is in cc) }
    by true is = record {
      inside = more-within kind g h.file h.session (all_met m) [] w;
      following = record { agent = w.agent; sound = w.follows.sound; durable = w.durable; starts = record { durable = h.file; tail = []; is = w.follows.disk ∙ ap (λ (x : List ℕ). Some x) (text-ready h.file h.session is); whole = sym (append-nil h.file) }; goes = w.goes };
      renewed = λ front at. absurd (not-replacing h.session is (renewed front at).1);
      quiet = λ ready. refl;
    }

pub shown-kept : {K : Type 0} (kind : Showing K) (g : Aim) (h : Host) (m : Met K) → IsKept kind g h m → IsKept kind g (shown h) m
shown-kept kind g h m k = by (h.fresh && is_ready h.session)
  where
    by : (b : Bool) → IsKept kind g (cond b (told h) h) m
    by false = k
    by true = record { inside = k.inside; following = k.following; renewed = k.renewed; quiet = k.quiet }

-- a call after which a text that is to replace the file's still belongs to the same agent
pub called-kept : {K : Type 0} (kind : Showing K) (g : Aim) (h : Host) (t : Session) (m : Met K) (more : List (TimedEntry K)) (new : Option (List ℕ)) (fresh : Bool) → IsKept kind g h m → Within kind g h.file t (all_met m ++ more) → ((front : List ℕ) → new ≡ Some front → KeptAt kind g front m.written × (t.replaces ≡ true))
    → IsKept kind g (shown (record h { session = t; new = new; fresh = fresh })) (met_at t (record { written = m.written; pending = m.pending ++ more }))
called-kept {K} kind g h t m more new fresh k w renewed =
    let p : Host = record h { session = t; new = new; fresh = fresh } in
    let all : Met K = record { written = m.written; pending = m.pending ++ more } in
    shown-kept kind g p (met_at t all) (settled-kept kind g p all (subst (λ (l : List (TimedEntry K)). Within kind g h.file t l) (append_assoc m.written m.pending more) w) k.following renewed)

pub renewed-on : {K : Type 0} (kind : Showing K) (g : Aim) (h : Host) (t : Session) (m : Met K) → IsKept kind g h m → (h.session.replaces ≡ true → t.replaces ≡ true) → (front : List ℕ) → h.new ≡ Some front → KeptAt kind g front m.written × (t.replaces ≡ true)
renewed-on kind g h t m k keeps front at = let r = k.renewed front at in (r.0, keeps r.1)

pub compacted-kept : {K : Type 0} (laws : Below) (kind : Showing K) (track : Tracking kind) (g : Aim) (h : Host) (t : Session) (code : Code) (m : Met K) (k : IsKept kind g h m) → Compacted k.inside.agent h.file h.session t code
    → (front : List ℕ) → replacing h.new Compact t code ≡ Some front → KeptAt kind g front m.written × (t.replaces ≡ true)
compacted-kept laws kind track g h t code m k (idle unready same is) front at =
    let other : code ≢ codes.Done = λ done. let no : codes.Pending ≡ codes.Done = sym is ∙ done in cc in
    let r = k.renewed front (sym (replacing-other h.new t code other) ∙ at) in
    (r.0, ap (λ (u : Session). u.replaces) same ∙ r.1)
compacted-kept laws kind track g h t code m k (refuses ready f other none) front at = absurd (not-replacing h.session ready (k.renewed front (sym (replacing-other h.new t code other) ∙ at)).1)
compacted-kept {K} laws kind track g h t code m k (renews ready ends f replaces is none durable recalls) front at =
    let i = k.inside.agent in
    let act = Compacts Kept in
    let new = pending_bytes t.agent.device t.written in
    let doing : Doing kind g i act = record { may = ends; keep = tt; go = (ends, tt); same = tt; told = λ c. tt; none = refl } in
    let some : Some new ≡ Some front = ap (λ (c : Code). replacing h.new Compact t c) (sym is) ∙ at in
    let same : new ≡ front = cc in
    let met : all_met m ++ kind.which.entered i act ≡ m.written = ap (λ (l : List (TimedEntry K)). all_met m ++ l) (track.compacts i) ∙ append-nil (all_met m) ∙ ap (λ (l : List (TimedEntry K)). m.written ++ l) (k.quiet ready) ∙ append-nil m.written in (
      record {
        agent = after i act;
        sound = f.sound;
        durable = laws.durable i act k.inside.follows.sound k.inside.durable ends tt;
        starts = record { durable = new; tail = []; is = durable; whole = sym same ∙ sym (append-nil new) };
        goes = subst (λ (l : List (TimedEntry K)). Goes kind g l (after i act)) met (acted kind track g i act (all_met m) k.inside.follows.sound k.inside.durable doing k.inside.goes);
      },
      replaces,
    )

-- the next life
pub opened-kept : {K : Type 0} (laws : Below) (kind : Showing K) (track : Tracking kind) (g : Aim) (h : Host) (next : Settings) (text : List ℕ) (t : Session) (m : Met K) → is_sound (config_of g.name next) ≡ true → GoesOn g.name next text t → IsFresh text t → next ≡ g.settings → min_in kind.which.kind text ≤ g.time → KeptAt kind g text m.written
    → IsKept kind g (did h (Dies next text t)) (record { written = m.written ++ kind.which.kept whatever text; pending = [] })
opened-kept {K} laws kind track g h next text t m ok goes_on fresh same lowest b = record {
  inside = more-within kind g text t met [] (record { agent = after j act; follows = host_steps.opens g.name next text t j b.sound may.2 goes_on fresh; durable = laws.durable j act b.sound b.durable may.0 may.1; runs = refl; goes = opens b.goes });
  following = record { agent = j; sound = b.sound; durable = b.durable; starts = b.starts; goes = goes-more kind g m.written stood j b.goes };
  renewed = λ front at. absurd (let no : None ≡ Some front = at in cc);
  quiet = λ ready. refl;
}
  where
    j : IdealAgent
    j = b.agent

    act : Act
    act = Opens (config_of g.name next) text (fresh_device text)

    stood : List (TimedEntry K)
    stood = kind.which.kept whatever text

    met : List (TimedEntry K)
    met = m.written ++ stood

    may : MayAct j act × MayKeep j act × HasPast (config_of g.name next) j text
    may = laws.opens j (config_of g.name next) text (fresh_device text) b.sound b.durable ok b.starts

    none : m.written ++ kind.which.entered j act ≡ m.written
    none = ap (λ (l : List (TimedEntry K)). m.written ++ l) (track.opens j (config_of g.name next) text (fresh_device text)) ∙ append-nil m.written

    opens : Goes kind g m.written j → Goes kind g met (after j act)
    opens (inl takes) =
        goes-wider kind.which g.time (aimed g) m.written stood met [] (after j act) (joins m.written stood) (subst (λ (l : List (TimedEntry K)). TakesOrFull kind.which g.time (aimed g) l stood (after j act)) none
        (track.taking.stays g.time (aimed g) m.written [] j act g.on g.some b.sound b.durable takes (ok, b.starts) (ap (λ (s : Settings). config_of g.name s) same) (λ durable is. inr lowest)))
    opens (inr full) = inr (full-wider (aimed g).per_time g.time m.written [] met [] (adds m.written stood) full)

-- the agent whose sink failed and left a text, if this text sets no minimum time above the given time
pub goes-left : {K : Type 0} (kind : Showing K) (track : Tracking kind) (g : Aim) (met : List (TimedEntry K)) (i : IdealAgent) (text : List ℕ) → min_in kind.which.kind text ≤ g.time → Goes kind g met i → Goes kind g met (left_with text i)
goes-left {K} kind track g met i text lowest (inr full) = inr full
goes-left {K} kind track g met i text lowest (inl takes) =
    let o = takes.opens in
    let s = (left_with text i).snapshot in
    let low : min_in kind.which.kind text ≤ max g.time ((last_line kind.which.kind s + 1) - kind.which.slots (aimed g)) = omega (arith, lowest) in
    let opens : IsOpenAt kind.which.kind (kind.which.slots (aimed g)) g.time met [] (kind.which.track i) s = record {
      last = o.last;
      known = o.known;
      minimum = o.minimum;
      lowest = λ durable is. (let same : Some text ≡ Some durable = is in let at : text ≡ durable = cc in subst (λ (t : List ℕ). min_in kind.which.kind t ≤ allowed kind.which.kind (kind.which.slots (aimed g)) g.time s) at low);
    } in
    inl (record { settings = takes.settings; opens = subst (λ (tr : Track K). IsOpenAt kind.which.kind (kind.which.slots (aimed g)) g.time met [] tr s) (sym (track.unsunk i s)) opens })

-- ---- an offer

-- a state that is merged delivers what it holds
abbrev pub StateOffers : {K : Type 0} → Showing K → Type 0
StateOffers {K} kind =
    (g : Aim) (what : K) (file : List ℕ) (s t : Session) (met : List (TimedEntry K)) (w : Within kind g file s met) (packet : List ℕ) (join : Bool) (code : Code) → let e : TimedEntry K = record { time = g.time; key = what } in Offers kind e s (Merge packet join) → Says (Merge packet join) s t code → AreBytes packet → code ≢ codes.OutOfMemory
    → ((m : PushPull) → decoded packet ≡ Ok (push_pull m) → kind.which.HearsNoneAbove g.time (aimed g) m join) → kind.which.Short what → clock_after (kind.clock s) g.time (Merge packet join) ≤ g.time + kind.which.slots (aimed g) → (Contains met e → ⊥)
    → let entered = enters kind (Merge packet join) s t in Contains entered e ⊎ IsFull g.settings.per_time g.time (met ++ entered) []

pub offered-kept : {K : Type 0} (kind : Showing K) (track : Tracking kind) → StateOffers kind → (g : Aim) (what : K) (file : List ℕ) (s t : Session) (met : List (TimedEntry K)) (w : Within kind g file s met) (offer : Export) (code : Code) → let e : TimedEntry K = record { time = g.time; key = what } in
    Offers kind e s offer → Says offer s t code → IsPassed offer → code ≢ codes.OutOfMemory → KeepsTo kind g.name g.settings g.time (Calls offer t code) → kind.which.Short what → clock_after (kind.clock s) g.time offer ≤ g.time + kind.which.slots (aimed g) → (Contains met e → ⊥)
    → let entered = enters kind offer s t in Contains entered e ⊎ IsFull g.settings.per_time g.time (met ++ entered) []
offered-kept {K} kind track state g what file s t met w offer code offers says passed other keeps short young new = by offer offers says passed keeps young
  where
    i : IdealAgent
    i = w.agent

    f : Follows w.agent file s
    f = w.follows

    e : TimedEntry K
    e = record { time = g.time; key = what }

    one : (xs : List (TimedEntry K)) → xs ≡ e ∷ [] → Contains xs e
    one xs is = subst (λ (l : List (TimedEntry K)). Contains l e) (sym is) (0, omega arith, refl)

    full-then : (xs : List (TimedEntry K)) → IsFull g.settings.per_time g.time met [] → IsFull g.settings.per_time g.time (met ++ xs) []
    full-then xs full = full-wider g.settings.per_time g.time met [] (met ++ xs) [] (adds met xs) full

    admitted : observed (kind.clock s) g.time ≤ g.time + kind.which.slots (aimed g) → Goes kind g met i → (kind.which.admission i g.time what ≡ None) ⊎ IsFull g.settings.per_time g.time met []
    admitted young (inl takes) = track.taking.takes g.time (aimed g) met [] i what f.sound takes short (subst (λ (n : ℕ). observed n g.time ≤ g.time + kind.which.slots (aimed g)) (track.clock i s f.state) young) (unmet met e new)
    admitted young (inr full) = inr full

    by : (offer : Export) → Offers kind e s offer → Says offer s t code → IsPassed offer → KeepsTo kind g.name g.settings g.time (Calls offer t code) → clock_after (kind.clock s) g.time offer ≤ g.time + kind.which.slots (aimed g)
        → Contains (enters kind offer s t) e ⊎ IsFull g.settings.per_time g.time (met ++ enters kind offer s t) []
    by (Receive tags now packet) offers says passed keeps young = elim (admitted young w.goes) [
      | inl none ↦
          (let call = receive tags i now packet in
          let gives = says.0.2 offers.0 other in
          let step = kept-step i call gives.0 s.agent.device t.agent f.calm (receive-plain tags now packet i) (says.0.3 offers.0 other gives.0 gives.1 i f.sound f.state) in
          let call_result : t.call_result ≡ call_results.Received (ended i call Kept).answer = gives.1 ∙ ap (λ (r : Result Outcome ReceiveError). call_results.Received r) step.0 in
          inl (one (enters kind (Receive tags now packet) s t) (sym (made-now (is_ready s) (kind.entered (Receive tags now packet) t.call_result) offers.0) ∙ ap (λ (x : CallResult). kind.entered (Receive tags now packet) x) call_result ∙ sym (track.gets i tags now packet) ∙ track.offers i tags now packet e offers.1 w.runs none)))
      | inr full ↦ inr (full-then (enters kind (Receive tags now packet) s t) full)
    ]
    by (Burst (bursts.Receives tags now packet)) brings says passed keeps young = elim (admitted young w.goes) [
      | inl none ↦
          (let call = bursts.Receives tags now packet in
          let b = says.2 other i [] s (record { state = f.state; sound = f.sound; calm = f.calm; flushed = f.flushed; outcomes = sym (append-nil s.burst.items); lines = sym (append-nil (pending_bytes s.agent.device s.written)) }) in
          let x = answereds.Received (ended i (receive tags i now packet) Kept).answer in
          inl (one (enters kind (Burst call) s t) (waiting-since kind call s t x b.outcomes ∙ sym (track.gets_on i tags now packet) ∙ track.offers i tags now packet e brings w.runs none)))
      | inr full ↦ inr (full-then (enters kind (Burst (bursts.Receives tags now packet)) s t) full)
    ]
    by (Merge packet join) offers says passed keeps young = state g what file s t met w packet join code offers says passed other keeps short young new
    by (Burst (bursts.Fires name payload flag)) wrong says passed keeps young = absurd wrong
    by (Burst (bursts.Asks now id name payload how)) wrong says passed keeps young = absurd wrong
    by (Fire name payload flag) wrong says passed keeps young = absurd wrong
    by (Query now id name payload addr params) wrong says passed keeps young = absurd wrong
    by Save wrong says passed keeps young = absurd wrong
    by Compact wrong says passed keeps young = absurd wrong
    by (CloseDue now closed) wrong says passed keeps young = absurd wrong
    by (Observe time) wrong says passed keeps young = absurd wrong
    by (Respond number now payload) wrong says passed keeps young = absurd wrong
    by (Forget number) wrong says passed keeps young = absurd wrong
    by LocalState wrong says passed keeps young = absurd wrong
    by (Next old later) wrong says passed keeps young = absurd wrong
    by Add wrong says passed keeps young = absurd wrong
