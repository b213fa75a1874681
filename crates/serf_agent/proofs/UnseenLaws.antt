-- What an agent does doesn't depend on what its sink exposes of its bytes.
use Rattle.serf_agent.proofs.Names.{Bool, Err, IfSome, List, MatchBool, None, Ok, Option, Result, Some, [], ap, append-nil, cond, false, inl, inr, map, nat_le, refl, subst, sym, true, ℕ, ◌++◌, ◌<◌, ◌==◌, ◌∙◌, ◌∷◌, ◌≡◌, ◌≢◌, ◌≤◌, option_map, All, All-head, All-tail, AllPairs, decoded, Message, PushPull, Query, QueryResponse, foreign, push_pull, query, query_response, user_event, WireError, EventBody, clock_line, Device, FailurePlan, Observable, fresh_device, kept_bytes, Failed, KeepsEither, KeepsPart, Kept, MayReplaceBy, MayWrite, SnapshotView, Writing, durable_left_by, last_line, append_line_fails, written, ClockKind, AppendLineError, event_of, TimedEntry, AsksSink, Call, Ends, MayEnd, AppendsLine, Replaces, Step, answers, ended, is_sound, admission, fire, fire_error, fired_as, received_as, IdealAgent, with_snapshot, HandsOutNew, RemembersJoins, TakesNew, TakesNewQueries, BeginsDurable, DiskSuffices, IsDurable, KeepsAfter, StartsWithDurable, StaysDurable, Act, Asks, Closes, Compacts, Fires, Gets, Hears, Lived, MayAct, MayLive, Opens, Saves, Takes, acted, after, fired_query_entries, fired_entries, first_life, got_entries, lived, OpensAfter, answer_ignore_reason, fired_query_at, counts_where, fire_query, is_ack, is_full, query_admission, query_at, query_error, query_fired_as, query_received_as, response_received_as, response_received_at, receive, receive_message, receive_read, HasPast, IsSound, compact, handed_by, hear, heard_by, receive_one, save, written_min_line, MayAppendLine, appended_with, text_with, TrackOf, asked_query, event_track, got_query, query_track, AsksLaterUnseen, FiresLaterUnseen, HandsOutNewUnseen, HandsOutOnceUnseen, HandsOutQueriesOnceUnseen, IsSame, IsUnseen, OpensUnseen, RemembersJoinsUnseen, TakesNewQueriesUnseen, TakesNewUnseen, UnseenLaws, hidden, hidden_call, hidden_life, hidden_snapshot, hidden_step, unseen, unseen_act, Config, OpenQuery, FireError, Fired, FiredQuery, MergeError, Outcome, QueryError, QueryParams, Reason, ReceiveError}
use Rattle.serf_agent.specs.declared.outcome.ReceiveError.TheVariants as receives
use Rattle.serf_agent.specs.Lives.{event_entry}
use Rattle.serf_agent.proofs.KeptLifeLaws.{durable-lived, may-open}
use Rattle.serf_agent.proofs.LifeLaws.{Below, keeps, keeps-first, later, once, queries_later, queries_once, text-of-flushed}
use Rattle.serf_agent.specs.Unseen.{Seen, SeenAll}
use Rattle.serf_agent.proofs.LineLaws.{compacts_so, saves_so}

-- ---- how a call ends

hides-cond : (b : Bool) (x y : SnapshotView) → cond b (hidden_snapshot x) (hidden_snapshot y) ≡ hidden_snapshot (cond b x y)
hides-cond true x y = refl
hides-cond false x y = refl

hides-noted : (kind : ClockKind) (t : ℕ) (line : Option (List ℕ)) (s : SnapshotView) → appended_with kind t line (hidden_snapshot s) Kept ≡ hidden_snapshot (appended_with kind t line s Kept)
hides-noted kind t None s = hides-cond (nat_le t (last_line kind s)) s (written kind t s Kept)
hides-noted kind t (Some line) s = refl

hides-text : (lines : Option (List ℕ)) (s : SnapshotView) → text_with lines (hidden_snapshot s) ≡ text_with lines s
hides-text None s = refl
hides-text (Some lines) s = refl

hides-ended : {R : Type 0} (i : IdealAgent) (call : Call R) (w : Writing) → ended (hidden i) (hidden_call call) (unseen w) ≡ hidden_step (ended i call w)
hides-ended i (Ends step) w = refl
hides-ended {R} i (AppendsLine kind t line step error) Kept = ap (λ (s : SnapshotView). let r : Step R = record { agent = with_snapshot s step.agent; answer = step.answer } in r) (hides-noted kind t line i.snapshot)
hides-ended i (AppendsLine kind t line step error) (Failed durable) = refl
hides-ended i (Replaces lines step error) Kept = refl
hides-ended i (Replaces lines step error) (Failed durable) = refl

-- ---- what it requests of the sink

-- Whatever a sink does that exposes nothing, a sink that exposes its bytes may do as well.
record Chooses {R : Type 0} (i : IdealAgent) (call : Call R) (w : Writing) : Type 0 where
  pub choice : Writing
  pub is : unseen choice ≡ w
  pub may : MayEnd i call choice

keeps-line : (durable : Option (List ℕ)) (line : List ℕ) → KeepsPart durable line durable
keeps-line None line = refl
keeps-line (Some k) line = (0, sym (append-nil k))

-- the choice for a line that failed: the sink keeps what it had kept
fails-line : (s : SnapshotView) (line : List ℕ) (durable : Option (List ℕ)) (plan : Option FailurePlan) → s.plan ≡ plan → MayWrite (hidden_snapshot s) line (Failed durable) → MayWrite s line (Failed s.durable)
fails-line s line durable None is may = (keeps-line s.durable line, subst (λ (o : Option FailurePlan). IfSome o (λ p. (append_line_fails p ≡ true) × (s.durable ≡ s.durable))) (sym is) tt)
fails-line s line durable (Some p) is may =
    let fails = subst (λ (o : Option FailurePlan). IfSome o (λ q. (append_line_fails q ≡ true) × (durable ≡ None))) is may.1 in
    (keeps-line s.durable line, subst (λ (o : Option FailurePlan). IfSome o (λ q. (append_line_fails q ≡ true) × (s.durable ≡ s.durable))) (sym is) (fails.0, refl))

chooses-line : (s : SnapshotView) (line : List ℕ) (w : Writing) → MayWrite (hidden_snapshot s) line w → (v : Writing) × (unseen v ≡ w) × MayWrite s line v
chooses-line s line Kept may = (Kept, refl, may)
chooses-line s line (Failed durable) may = (Failed s.durable, ap (λ (o : Option (List ℕ)). Failed o) (sym may.0), fails-line s line durable s.plan refl may)

chooses-append_line : {R : Type 0} (i : IdealAgent) (kind : ClockKind) (t : ℕ) (line : Option (List ℕ)) (step : Step R) (error : R) (w : Writing) → MayAppendLine kind t line (hidden_snapshot i.snapshot) w → Chooses i (AppendsLine kind t line step error) w
chooses-append_line {R} i kind t None step error w may = by (nat_le t (last_line kind i.snapshot)) may
  where
    low : Bool
    low = nat_le t (last_line kind i.snapshot)

    choose : (b : Bool) → MatchBool b (w ≡ Kept) (MayWrite (hidden_snapshot i.snapshot) (clock_line kind t) w) → (v : Writing) × (unseen v ≡ w) × MatchBool b (v ≡ Kept) (MayWrite i.snapshot (clock_line kind t) v)
    choose true is = (Kept, sym is, refl)
    choose false may = chooses-line i.snapshot (clock_line kind t) w may

    by : (b : Bool) → MatchBool low (w ≡ Kept) (MayWrite (hidden_snapshot i.snapshot) (clock_line kind t) w) → Chooses i (AppendsLine kind t None step error) w
    by b may = let c = choose low may in record { choice = c.0; is = c.1; may = c.2 }
chooses-append_line i kind t (Some line) step error w may = let c = chooses-line i.snapshot (kept_bytes kind t line (last_line kind i.snapshot)) w may in record { choice = c.0; is = c.1; may = c.2 }

keeps-old : (durable : Option (List ℕ)) (text : List ℕ) → KeepsEither durable text durable
keeps-old None text = refl
keeps-old (Some k) text = inl refl

-- the choice for a replacement that failed: the sink keeps the text that its plan says, or else the old one
chooses-text : {R : Type 0} (i : IdealAgent) (lines : Option (List ℕ)) (step : Step R) (error : R) (durable : Option (List ℕ)) (plan : Option FailurePlan) → i.snapshot.plan ≡ plan → MayReplaceBy (text_with lines i.snapshot) (hidden_snapshot i.snapshot) (Failed durable) → Chooses i (Replaces lines step error) (Failed None)
chooses-text i lines step error durable None is may = record { choice = Failed i.snapshot.durable; is = refl; may = (keeps-old i.snapshot.durable (text_with lines i.snapshot), subst (λ (o : Option FailurePlan). IfSome o (λ p. ((p.replaces == 1) ≡ true) × (i.snapshot.durable ≡ durable_left_by p (text_with lines i.snapshot) i.snapshot.durable))) (sym is) tt) }
chooses-text i lines step error durable (Some p) is may =
    let text = text_with lines i.snapshot in
    let fails = subst (λ (o : Option FailurePlan). IfSome o (λ p. ((p.replaces == 1) ≡ true) × (durable ≡ durable_left_by p text None))) is may.1 in
    record { choice = Failed (durable_left_by p text i.snapshot.durable); is = refl; may = (either p.keeps_new i.snapshot.durable, subst (λ (o : Option FailurePlan). IfSome o (λ q. ((q.replaces == 1) ≡ true) × (durable_left_by p text i.snapshot.durable ≡ durable_left_by q text i.snapshot.durable))) (sym is) (fails.0, refl)) }
  where
    either : (b : Bool) (o : Option (List ℕ)) → KeepsEither o (text_with lines i.snapshot) (cond b (option_map (λ (k : List ℕ). text_with lines i.snapshot) o) o)
    either true None = refl
    either true (Some k) = inr refl
    either false o = keeps-old o (text_with lines i.snapshot)

chooses-replace : {R : Type 0} (i : IdealAgent) (lines : Option (List ℕ)) (step : Step R) (error : R) (w : Writing) → MayReplaceBy (text_with lines i.snapshot) (hidden_snapshot i.snapshot) w → unseen w ≡ w → Chooses i (Replaces lines step error) w
chooses-replace i lines step error Kept may is = record { choice = Kept; is = refl; may = may }
chooses-replace i lines step error (Failed durable) may is = subst (λ (w : Writing). Chooses i (Replaces lines step error) w) is (chooses-text i lines step error durable i.snapshot.plan refl may)

-- a sink that exposes nothing exposes nothing after a failure either
shows-none-text : (s : SnapshotView) (text : List ℕ) (w : Writing) → MayReplaceBy text (hidden_snapshot s) w → unseen w ≡ w
shows-none-text s text Kept may = refl
shows-none-text s text (Failed durable) may = ap (λ (o : Option (List ℕ)). Failed o) (sym may.0)

chooses : {R : Type 0} (i : IdealAgent) (call : Call R) (w : Writing) → MayEnd (hidden i) (hidden_call call) w → Chooses i call w
chooses i (Ends step) w may = record { choice = Kept; is = sym may; may = refl }
chooses i (AppendsLine kind t line step error) w may = chooses-append_line i kind t line step error w may
chooses i (Replaces lines step error) w may = chooses-replace i lines step error w (subst (λ (text : List ℕ). MayReplaceBy text (hidden_snapshot i.snapshot) w) (hides-text lines i.snapshot) may) (shows-none-text i.snapshot (text_with lines (hidden_snapshot i.snapshot)) w may)

-- ---- calls

hides-received : (r : Option Reason) (i : IdealAgent) (t : ℕ) (what : EventBody) (flag : Bool) → received_as r (hidden i) t what flag ≡ hidden_call (received_as r i t what flag)
hides-received (Some reason) i t what flag = refl
hides-received None i t what flag = refl

hides-fired : (r : Option FireError) (i : IdealAgent) (what : EventBody) (flag : Bool) → fired_as r (hidden i) what flag ≡ hidden_call (fired_as r i what flag)
hides-fired (Some error) i what flag = refl
hides-fired None i what flag = refl

hides-query_received : (tags : Bool) (r : Option Reason) (i : IdealAgent) (now : ℕ) (q : Query) → query_received_as tags r (hidden i) now q ≡ hidden_call (query_received_as tags r i now q)
hides-query_received tags (Some reason) i now q = refl
hides-query_received tags None i now q = refl

hides-query_fired : (tags : Bool) (r : Option QueryError) (i : IdealAgent) (now : ℕ) (q : Query) → query_fired_as tags r (hidden i) now q ≡ hidden_call (query_fired_as tags r i now q)
hides-query_fired tags (Some error) i now q = refl
hides-query_fired tags None i now q = refl

hides-counts : (full ack : Bool) (i : IdealAgent) (r : QueryResponse) (q : OpenQuery) → counts_where full ack (hidden i) r q ≡ hidden_call (counts_where full ack i r q)
hides-counts true ack i r q = refl
hides-counts false ack i r q = refl

hides-response_as : (x : Option Reason) (i : IdealAgent) (r : QueryResponse) (q : OpenQuery) → response_received_as x (hidden i) r q ≡ hidden_call (response_received_as x i r q)
hides-response_as (Some reason) i r q = refl
hides-response_as None i r q = hides-counts (is_full i.config.responders r q) (is_ack r) i r q

hides-response : (o : Option OpenQuery) (i : IdealAgent) (now : ℕ) (r : QueryResponse) → response_received_at o (hidden i) now r ≡ hidden_call (response_received_at o i now r)
hides-response None i now r = refl
hides-response (Some q) i now r = hides-response_as (answer_ignore_reason now r q) i r q

hides-message : (tags : Bool) (i : IdealAgent) (now : ℕ) (m : Message) → receive_message tags (hidden i) now m ≡ hidden_call (receive_message tags i now m)
hides-message tags i now (user_event e) = hides-received (admission i e.time (event_of e.name e.payload)) i e.time (event_of e.name e.payload) e.coalesce
hides-message tags i now (query q) = hides-query_received tags (query_admission i q.time q.id) i now q
hides-message tags i now (query_response r) = hides-response (fired_query_at r.time i.fired_queries) i now r
hides-message tags i now (push_pull m) = refl
hides-message tags i now (foreign kind) = refl

hides-read : (tags : Bool) (i : IdealAgent) (now : ℕ) (r : Result Message WireError) → receive_read tags (hidden i) now r ≡ hidden_call (receive_read tags i now r)
hides-read tags i now (Ok m) = hides-message tags i now m
hides-read tags i now (Err error) = refl

hides-tagged : (tags : Bool) (i : IdealAgent) (now : ℕ) (packet : List ℕ) → receive tags (hidden i) now packet ≡ hidden_call (receive tags i now packet)
hides-tagged tags i now packet = by i.snapshot.stopped
  where
    by : (b : Bool) → cond b (answers (hidden i) (Err receives.Stopped)) (receive_read tags (hidden i) now (decoded packet)) ≡ hidden_call (cond b (answers i (Err receives.Stopped)) (receive_read tags i now (decoded packet)))
    by true = refl
    by false = hides-read tags i now (decoded packet)

hides-heard : (line : Option (List ℕ)) (i : IdealAgent) (m : PushPull) (is_join : Bool) → heard_by line (hidden i) m is_join ≡ hidden_call (heard_by line i m is_join)
hides-heard None i m is_join = refl
hides-heard (Some line) i m is_join = refl

hides-save : (b : Bool) (i : IdealAgent) → saves_so (hidden i) b ≡ hidden_call (saves_so i b)
hides-save true i = refl
hides-save false i = refl

hides-compact : (b : Bool) (i : IdealAgent) → compacts_so (hidden i) b ≡ hidden_call (compacts_so i b)
hides-compact true i = refl
hides-compact false i = refl

-- ---- acts

hides-act : {R : Type 0} (i : IdealAgent) (call other : Call R) (w : Writing) → other ≡ hidden_call call → ended (hidden i) other (unseen w) ≡ hidden_step (ended i call w)
hides-act {R} i call other w is = ap (λ (c : Call R). ended (hidden i) c (unseen w)) is ∙ hides-ended i call w

same : (i : IdealAgent) (a : Act) → IsSame i a
same i (Fires what flag w) =
    let e = hides-act i (fire i what flag) (fire (hidden i) what flag) w (hides-fired (fire_error i what flag) i what flag) in
    record { agent = ap (λ (s : Step (Result Fired FireError)). s.agent) e; events = ap (λ (s : Step (Result Fired FireError)). fired_entries s.answer) e; queries = refl; entered = refl }
same i (Asks now id name payload params w) =
    let e = hides-act i (fire_query i now id name payload params) (fire_query (hidden i) now id name payload params) w (hides-query_fired params.tags_pass (query_error i id name payload params) i now (query_at i.queries.clock i.config.name id name payload params)) in
    record { agent = ap (λ (s : Step (Result FiredQuery QueryError)). s.agent) e; events = refl; queries = ap (λ (s : Step (Result FiredQuery QueryError)). fired_query_entries s.answer) e; entered = ap (λ (s : Step (Result FiredQuery QueryError)). asked_query id s.answer) e }
same i (Gets tags now packet w) =
    let e = hides-act i (receive tags i now packet) (receive tags (hidden i) now packet) w (hides-tagged tags i now packet) in
    record { agent = ap (λ (s : Step (Result Outcome ReceiveError)). s.agent) e; events = ap (λ (s : Step (Result Outcome ReceiveError)). map event_entry (handed_by s.answer)) e; queries = ap (λ (s : Step (Result Outcome ReceiveError)). got_entries s.answer) e; entered = ap (λ (s : Step (Result Outcome ReceiveError)). got_query (decoded packet) s.answer) e }
same i (Hears m is_join w) =
    let e = hides-act i (hear i m is_join) (hear (hidden i) m is_join) w (hides-heard (written_min_line i.config m is_join) i m is_join) in
    record { agent = ap (λ (s : Step (Result (Unit {0}) MergeError)). s.agent) e; events = refl; queries = refl; entered = refl }
same i (Takes x w) =
    let e = hides-act i (receive_one i x) (receive_one (hidden i) x) w (hides-received (admission i x.time x.key) i x.time x.key false) in
    record { agent = ap (λ (s : Step (Result Outcome ReceiveError)). s.agent) e; events = ap (λ (s : Step (Result Outcome ReceiveError)). map event_entry (handed_by s.answer)) e; queries = refl; entered = refl }
same i (Saves w) =
    let e = hides-act i (save i) (save (hidden i)) w (hides-save i.snapshot.stopped i) in
    record { agent = ap (λ (s : Step (Result (Unit {0}) AppendLineError)). s.agent) e; events = refl; queries = refl; entered = refl }
same i (Compacts w) =
    let e = hides-act i (compact i) (compact (hidden i)) w (hides-compact i.snapshot.stopped i) in
    record { agent = ap (λ (s : Step (Result (Unit {0}) AppendLineError)). s.agent) e; events = refl; queries = refl; entered = refl }
same i (Closes now) = record { agent = refl; events = refl; queries = refl; entered = refl }
same i (Opens config text d) = record { agent = refl; events = refl; queries = refl; entered = refl }

-- ---- steps and lives

chosen : {R : Type 0} (i : IdealAgent) (call other : Call R) (w : Writing) → other ≡ hidden_call call → MayEnd (hidden i) other w → Chooses i call w
chosen {R} i call other w is may = chooses i call w (subst (λ (c : Call R). MayEnd (hidden i) c w) is may)

asks-hidden : {R : Type 0} (call other : Call R) → other ≡ hidden_call call → AsksSink call → AsksSink other
asks-hidden {R} call other is asks = subst (λ (c : Call R). AsksSink c) (sym is) (by call asks)
  where
    by : (call : Call R) → AsksSink call → AsksSink (hidden_call call)
    by (Ends step) asks = asks
    by (AppendsLine kind t line step error) asks = asks
    by (Replaces lines step error) asks = asks

abbrev shown_device : List ℕ → Device → Device
shown_device text d = record { observed_bytes = Some record { buffered = []; durable = text }; plan = d.plan; failures = d.failures; calls = d.calls }

seen : (i : IdealAgent) (b : Act) → IsUnseen b → MayAct (hidden i) b → Seen i b
seen i (Fires what flag w) u may =
    let c = chosen i (fire i what flag) (fire (hidden i) what flag) w (hides-fired (fire_error i what flag) i what flag) may in
    record { act = Fires what flag c.choice; is = ap (λ (v : Writing). Fires what flag v) c.is; may = c.may }
seen i (Asks now id name payload params w) u may =
    let c = chosen i (fire_query i now id name payload params) (fire_query (hidden i) now id name payload params) w (hides-query_fired params.tags_pass (query_error i id name payload params) i now (query_at i.queries.clock i.config.name id name payload params)) may in
    record { act = Asks now id name payload params c.choice; is = ap (λ (v : Writing). Asks now id name payload params v) c.is; may = c.may }
seen i (Gets tags now packet w) u may =
    let c = chosen i (receive tags i now packet) (receive tags (hidden i) now packet) w (hides-tagged tags i now packet) may in
    record { act = Gets tags now packet c.choice; is = ap (λ (v : Writing). Gets tags now packet v) c.is; may = c.may }
seen i (Hears m is_join w) u may =
    let h = hides-heard (written_min_line i.config m is_join) i m is_join in
    let c = chosen i (hear i m is_join) (hear (hidden i) m is_join) w h may.0 in
    record { act = Hears m is_join c.choice; is = ap (λ (v : Writing). Hears m is_join v) c.is; may = (c.may, may.1, λ asks. may.2 (asks-hidden (hear i m is_join) (hear (hidden i) m is_join) h asks)) }
seen i (Takes x w) u may =
    let c = chosen i (receive_one i x) (receive_one (hidden i) x) w (hides-received (admission i x.time x.key) i x.time x.key false) may.2 in
    record { act = Takes x c.choice; is = ap (λ (v : Writing). Takes x v) c.is; may = (may.0, may.1, c.may) }
seen i (Saves w) u may =
    let c = chosen i (save i) (save (hidden i)) w (hides-save i.snapshot.stopped i) may in
    record { act = Saves c.choice; is = ap (λ (v : Writing). Saves v) c.is; may = c.may }
seen i (Compacts w) u may =
    let c = chosen i (compact i) (compact (hidden i)) w (hides-compact i.snapshot.stopped i) may in
    record { act = Compacts c.choice; is = ap (λ (v : Writing). Compacts v) c.is; may = c.may }
seen i (Closes now) u may = record { act = Closes now; is = refl; may = tt }
seen i (Opens config text d) u may =
    let had = may.0 in
    record {
      act = Opens config text (shown_device text d);
      is = ap (λ (o : Option Observable). let a : Act = Opens config text (record { observed_bytes = o; plan = d.plan; failures = d.failures; calls = d.calls }) in a) (sym u);
      may = (record { events = had.events; queries = had.queries }, may.1, λ keeps. let k = may.2 keeps in record { events = k.events; queries = k.queries });
    }

lives : (acts : List Act) (s : Lived) → lived (hidden_life s) (map unseen_act acts) ≡ hidden_life (lived s acts)
lives [] s = refl
lives (a ∷ rest) s =
    let m = same s.agent a in
    let e : acted (hidden_life s) (unseen_act a) ≡ hidden_life (acted s a) = λ k. record { agent = m.agent k; events = s.events ++ m.events k; queries = s.queries ++ m.queries k } in
    ap (λ (t : Lived). lived t (map unseen_act rest)) e ∙ lives rest (acted s a)

-- one act after another: after the first one, the agents are still the same but for what their sinks expose
seen_all : (i : IdealAgent) (bs : List Act) → All IsUnseen bs → MayLive (hidden i) bs → SeenAll i bs
seen_all i [] unseens may = record { acts = []; are = refl; may = tt }
seen_all i (b ∷ bs) unseens may =
    let first = seen i b (All-head IsUnseen b bs unseens) may.0 in
    let next : after (hidden i) b ≡ hidden (after i first.act) = ap (after (hidden i)) (sym first.is) ∙ (same i first.act).agent in
    let rest = seen_all (after i first.act) bs (All-tail IsUnseen b bs unseens) (subst (λ (j : IdealAgent). MayLive j bs) next may.1) in
    record { acts = first.act ∷ rest.acts; are = (λ k. first.is k ∷ rest.are k); may = (first.may, rest.may) }

pub unseen_laws : UnseenLaws
unseen_laws = record { same = same; seen = seen; seen_all = seen_all; begins = λ config text d. refl; lives = lives }

-- ---- what is promised of lives

-- what is promised over a sink that exposes its bytes
pub record BelowUnseen : Type 0 where
  pub life : Below
  pub begins : BeginsDurable
  pub stays : StaysDurable
  pub following : KeepsAfter
  pub suffices : DiskSuffices

pub once_unseen : BelowUnseen → HandsOutOnceUnseen
once_unseen laws = λ config text d acts ok go.
    subst (λ (t : Lived). AllPairs (λ x y. x ≢ y) t.events) (sym (lives acts (first_life config text d))) (once laws.life config text d acts ok (laws.suffices config text d acts ok go).0)

pub queries_once_unseen : BelowUnseen → HandsOutQueriesOnceUnseen
queries_once_unseen laws = λ config text d acts ok go.
    subst (λ (t : Lived). AllPairs (λ x y. x ≢ y) t.queries) (sym (lives acts (first_life config text d))) (queries_once laws.life config text d acts ok (laws.suffices config text d acts ok go).0)

hides-fire : (i : IdealAgent) (what : EventBody) (flag : Bool) (w : Writing) → (ended (hidden i) (fire (hidden i) what flag) (unseen w)).answer ≡ (ended i (fire i what flag) w).answer
hides-fire i what flag w = ap (λ (s : Step (Result Fired FireError)). s.answer) (hides-act i (fire i what flag) (fire (hidden i) what flag) w (hides-fired (fire_error i what flag) i what flag))

pub later_unseen : BelowUnseen → FiresLaterUnseen
later_unseen laws = λ config text d acts what flag w f ok go.
    let s = first_life config text d in
    subst (λ (t : Lived). (ended t.agent (fire t.agent what flag) (unseen w)).answer ≡ Ok f → All (λ (e : TimedEntry EventBody). e.time < f.handed.time) t.events) (sym (lives acts s))
    (λ is. later laws.life config text d acts what flag w f ok (laws.suffices config text d acts ok go).0 (sym (hides-fire (lived s acts).agent what flag w) ∙ is))

hides-fired_queries : (i : IdealAgent) (now id : ℕ) (name payload : List ℕ) (params : QueryParams) (w : Writing) → (ended (hidden i) (fire_query (hidden i) now id name payload params) (unseen w)).answer ≡ (ended i (fire_query i now id name payload params) w).answer
hides-fired_queries i now id name payload params w = ap (λ (s : Step (Result FiredQuery QueryError)). s.answer)
    (hides-act i (fire_query i now id name payload params) (fire_query (hidden i) now id name payload params) w (hides-query_fired params.tags_pass (query_error i id name payload params) i now (query_at i.queries.clock i.config.name id name payload params)))

pub queries_later_unseen : BelowUnseen → AsksLaterUnseen
queries_later_unseen laws = λ config text d acts now id name payload params w f ok go.
    let s = first_life config text d in
    subst (λ (t : Lived). (ended t.agent (fire_query t.agent now id name payload params) (unseen w)).answer ≡ Ok f → All (λ (e : TimedEntry ℕ). e.time < f.time) t.queries) (sym (lives acts s))
    (λ is. queries_later laws.life config text d acts now id name payload params w f ok (laws.suffices config text d acts ok go).0 (sym (hides-fired_queries (lived s acts).agent now id name payload params w) ∙ is))

takes-unseen : {K : Type 0} (which : TrackOf K) → ((i : IdealAgent) (a : Act) → which.entered (hidden i) (unseen_act a) ≡ which.entered i a) → TakesNew which → TakesNewUnseen which
takes-unseen which enters promised = λ config text d acts offer e ok on go same_settings offers runs short young lowest told new.
    elim (promised config text d acts offer e ok on go same_settings offers runs short young lowest told new) [
      | inl out ↦ inl (enters (lived (first_life config text d) acts).agent offer ∙ out)
      | inr full ↦ inr full
    ]

pub new_unseen : HandsOutNew → HandsOutNewUnseen
new_unseen promised = takes-unseen event_track (λ i a. (same i a).events) promised

pub queries_unseen : TakesNewQueries → TakesNewQueriesUnseen
queries_unseen promised = takes-unseen query_track (λ i a. (same i a).entered) promised

pub joins_unseen : RemembersJoins → RemembersJoinsUnseen
joins_unseen promised = λ config text d acts rest m ok go keeps ignores join more on.
    let joined : Lived = record { agent = after (lived (first_life config text d) acts).agent (Hears m true Kept); events = []; queries = [] } in
    subst (λ (t : Lived). All (λ (e : TimedEntry EventBody). m.event_clock ≤ e.time) t.events) (sym (lives rest joined)) (promised config text d acts rest m ok go keeps ignores join more on)

-- ---- openings

sound-hidden : (i : IdealAgent) → IsSound i → IsSound (hidden i)
sound-hidden i s = record { config = s.config; member_clock = s.member_clock; events = s.events; queries = s.queries; short = s.short; snapshot = λ durable at. absurd (let no : None ≡ Some durable = at in cc); fired_queries_below = s.fired_queries_below; fired_queries_distinct = s.fired_queries_distinct; fired_queries_sound = s.fired_queries_sound }

opens-hidden : BelowUnseen → (i : IdealAgent) (config : Config) (text : List ℕ) → IsSound i → IsDurable i → is_sound config ≡ true → StartsWithDurable i text → IsSound (hidden i) × HasPast config (hidden i) text
opens-hidden laws i config text s h ok on =
    let may = may-open laws.life laws.following i config text (fresh_device text) s h (ok, on) in
    let times = text-of-flushed i text s may.0.0 in
    let kept = may.1 in
    (sound-hidden i s, record { times = record { events = times.events; queries = times.queries }; kept = λ keeps. record { events = kept.events; queries = kept.queries } })

pub opens_unseen : BelowUnseen → OpensUnseen
opens_unseen laws = λ config text d acts next left ok go sound_next on.
    let s = first_life config text d in
    let may = laws.suffices config text d acts ok go in
    let first = keeps-first laws.life config text d ok in
    let sound = (keeps laws.life acts s first may.0).sound in
    let durable = durable-lived laws.life laws.stays acts s first.sound (laws.begins config text d) may.0 may.1 in
    subst (λ (t : Lived). IsSound t.agent × HasPast next t.agent left) (sym (lives acts s)) (opens-hidden laws (lived s acts).agent next left sound durable sound_next on)

pub opens_after : BelowUnseen → OpensAfter
opens_after laws i config text d s h ok on =
    let may = may-open laws.life laws.following i config text d s h (ok, on) in
    let times = text-of-flushed i text s may.0.0 in
    let kept = may.1 in
    (may.0, may.1, record { times = record { events = times.events; queries = times.queries }; kept = λ keeps. record { events = kept.events; queries = kept.queries } })
