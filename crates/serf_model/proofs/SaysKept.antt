-- Which events each action leaves in its agent's history and in the agent's text.
use Rattle.serf_model.proofs.Names.{Bool, Err, IsSome, List, None, Ok, Option, Result, Some, [], arith, cond, false, map, nat_lt, refl, subst, sym, true, unwrap_or, ℕ, ◌&&◌, ◌++◌, ◌-◌, ◌<◌, ◌^◌, ◌≡◌, ◌≤◌, ltb-false, All-head, All-nil, All, slice_get, decoded, Message, PushPull, Query, QueryResponse, foreign, push_pull, query, query_response, user_event, WireError, EventBody, sealed, Device, fresh_device, min_line, query_line, Failed, Kept, Writing, TimedEvent, event_of, TimedEntry, MayEnd, answers, ended, planned, will, admission, fire, fire_error, fired_as, received_as, texts_len, written_event, IdealAgent, with_config, kept_lines, IsDurable, IsMessageWritable, MayGoOn, IsWritable, event_entry, kept_events, line_of_event, whatever, Asks, Closes, Compacts, Fires, Gets, Hears, Opens, Saves, Takes, events_out, fired_entries, answer_ignore_reason, fired_query_at, counts_where, is_ack, is_full, query_admission, query_at, query_error, query_fired_as, query_received_as, response_received_as, response_received_at, written_query, receive, receive_read, compact, handed_by, hear, heard_by, save, written_min_line, written_lines, view_of, Config, OpenQuery, EventOut, FireError, Fired, Outcome, QueryError, Reason, BelowMinimum, Oversize, ReceiveError, Below, IdealNode, apply, delivers, fire_gives, receive_gives, reopened, text_after, IsRepresentable, CanTellAct, tailed_by, given_by, Act, Of}
use Rattle.serf_snapshot.specs.declared.kind.ClockKind.TheVariants as kinds
use Rattle.serf_snapshot.specs.declared.snapshot.AppendLineError.TheVariants as notes
use Rattle.serf_agent.specs.declared.outcome.Outcome.TheVariants as outcomes
use Rattle.serf_agent.specs.declared.outcome.ReceiveError.TheVariants as receives
use Rattle.serf_agent.specs.Lives.{Act as LifeAct, after}
use Rattle.serf_model.specs.declared.action.Act.TheVariants as acts
use Rattle.serf_model.proofs.CallsKept.{may-fire}
use Rattle.serf_model.proofs.DurableKept.{durable-planned, durable-step}
use Rattle.serf_model.proofs.LifeActs.{FitsAct, Keeping, Outs, acts-keep, outs-split}
use Rattle.serf_model.proofs.InvariantKept.{compacting, saving}
use Rattle.serf_model.proofs.PerTimeBound.{none-if, out_in}
use Rattle.serf_model.proofs.ReadyLaws.{IsReady}
use Rattle.serf_model.proofs.SaidTexts.{CanBeWritten, DurableSays, IsSaying, LinesSay, says-ended, says-event, says-joined, says-kept, says-lowest, says-query}

-- ---- lines of an agent that keeps its events

event-says : Below → (P : TimedEntry EventBody → Type 0) (config : Config) (t : ℕ) (what : EventBody) → CanBeWritten P (record { time = t; key = what }) → LinesSay P (written_event config t what)
event-says lower P config t what c = by config.keep_events
  where
    by : (b : Bool) → LinesSay P (cond b (Some (line_of_event t what)) None)
    by true = says-event lower P t what c
    by false = tt

query-says : Below → (P : TimedEntry EventBody → Type 0) (config : Config) (t id : ℕ) → LinesSay P (written_query config t id)
query-says lower P config t id = by config.keep_events
  where
    by : (b : Bool) → LinesSay P (cond b (Some (query_line t id)) None)
    by true = says-query lower P t id
    by false = tt

-- ---- events

-- what is admitted isn't below the minimum
admitted-from : (i : IdealAgent) (t : ℕ) (what : EventBody) → admission i t what ≡ None → i.events.minimum ≤ t
admitted-from i t what none =
    let short = none-if (nat_lt 9216 (texts_len what)) Oversize _ none in
    ltb-false t i.events.minimum (none-if (nat_lt t i.events.minimum) BelowMinimum _ short.1).0

says-received : Below → (P : TimedEntry EventBody → Type 0) (i : IdealAgent) (t : ℕ) (what : EventBody) (coalesce : Bool) (r : Option Reason) (w : Writing) → IsReady i → IsDurable i → admission i t what ≡ r → t < 2 ^ 64 - 1 → IsWritable what → MayEnd i (received_as r i t what coalesce) w
    → DurableSays P i.snapshot → All P (map out_in (handed_by (ended i (received_as r i t what coalesce) w).answer)) → DurableSays P (ended i (received_as r i t what coalesce) w).agent.snapshot
says-received lower P i t what coalesce (Some reason) w g d is small told may old outs = old
says-received lower P i t what coalesce None Kept g d is small told may old outs =
    let some : 0 < t = omega (arith, admitted-from i t what is, d.events_min.0) in
    says-ended lower P i (received_as None i t what coalesce) Kept g.consistent.observable may
    (λ kept. event-says lower P i.config t what (record { has = All-head P (record { time = t; key = what }) [] outs; some = some; small = small; told = told })) old
says-received lower P i t what coalesce None (Failed durable) g d is small told may old outs = says-ended lower P i (received_as None i t what coalesce) (Failed durable) g.consistent.observable may (λ kept. absurd (cc kept)) old

says-fired : Below → (P : TimedEntry EventBody → Type 0) (i : IdealAgent) (what : EventBody) (coalesce : Bool) (r : Option FireError) (w : Writing) → IsReady i → IsDurable i → fire_error i what coalesce ≡ r → IsWritable what → MayEnd i (fired_as r i what coalesce) w → DurableSays P i.snapshot
    → All P (fired_entries (ended i (fired_as r i what coalesce) w).answer) → DurableSays P (ended i (fired_as r i what coalesce) w).agent.snapshot
says-fired lower P i what coalesce (Some error) w g d is told may old outs = old
says-fired lower P i what coalesce None Kept g d is told may old outs =
    let from : i.events.minimum ≤ i.events.clock = g.consistent.sound.events.minimum in
    let some : 0 < i.events.clock = omega (arith, from, d.events_min.0) in
    let fits = may-fire i what coalesce g.consistent.sound is in
    says-ended lower P i (fired_as None i what coalesce) Kept g.consistent.observable may
    (λ kept. event-says lower P i.config i.events.clock what (record { has = All-head P (record { time = i.events.clock; key = what }) [] outs; some = some; small = fits.clock; told = told })) old
says-fired lower P i what coalesce None (Failed durable) g d is told may old outs = says-ended lower P i (fired_as None i what coalesce) (Failed durable) g.consistent.observable may (λ kept. absurd (cc kept)) old

-- ---- queries, and answers to them

says-query_received : Below → (P : TimedEntry EventBody → Type 0) (tags : Bool) (i : IdealAgent) (now : ℕ) (q : Query) (r : Option Reason) (w : Writing) → IsReady i → MayEnd i (query_received_as tags r i now q) w → DurableSays P i.snapshot → DurableSays P (ended i (query_received_as tags r i now q) w).agent.snapshot
says-query_received lower P tags i now q (Some reason) w g may old = old
says-query_received lower P tags i now q None w g may old = says-ended lower P i (query_received_as tags None i now q) w g.consistent.observable may (λ kept. query-says lower P i.config q.time q.id) old

says-query_fired : Below → (P : TimedEntry EventBody → Type 0) (tags : Bool) (i : IdealAgent) (now : ℕ) (q : Query) (r : Option QueryError) (w : Writing) → IsReady i → MayEnd i (query_fired_as tags r i now q) w → DurableSays P i.snapshot → DurableSays P (ended i (query_fired_as tags r i now q) w).agent.snapshot
says-query_fired lower P tags i now q (Some error) w g may old = old
says-query_fired lower P tags i now q None w g may old = says-ended lower P i (query_fired_as tags None i now q) w g.consistent.observable may (λ kept. query-says lower P i.config q.time q.id) old

says-response : (P : TimedEntry EventBody → Type 0) (i : IdealAgent) (now : ℕ) (r : QueryResponse) (o : Option OpenQuery) (w : Writing) → DurableSays P i.snapshot → DurableSays P (ended i (response_received_at o i now r) w).agent.snapshot
says-response P i now r None w old = old
says-response P i now r (Some q) w old = by (answer_ignore_reason now r q)
  where
    full : (b : Bool) → DurableSays P (ended i (counts_where b (is_ack r) i r q) w).agent.snapshot
    full true = old
    full false = old

    by : (x : Option Reason) → DurableSays P (ended i (response_received_as x i r q) w).agent.snapshot
    by (Some reason) = old
    by None = full (is_full i.config.responders r q)

-- ---- packets that arrive

says-read : Below → (P : TimedEntry EventBody → Type 0) (tags : Bool) (i : IdealAgent) (now : ℕ) (packet : List ℕ) (r : Result Message WireError) (w : Writing) → IsReady i → IsDurable i → decoded packet ≡ r → ((m : Message) → decoded packet ≡ Ok m → IsMessageWritable m)
    → MayEnd i (receive_read tags i now r) w → DurableSays P i.snapshot → All P (map out_in (handed_by (ended i (receive_read tags i now r) w).answer)) → DurableSays P (ended i (receive_read tags i now r) w).agent.snapshot
says-read lower P tags i now packet (Ok (user_event e)) w g d is told may old outs =
    let what : EventBody = event_of e.name e.payload in
    says-received lower P i e.time what e.coalesce (admission i e.time what) w g d refl (lower.in_range packet (user_event e) is) (told (user_event e) is) may old outs
says-read lower P tags i now packet (Ok (query q)) w g d is told may old outs = says-query_received lower P tags i now q (query_admission i q.time q.id) w g may old
says-read lower P tags i now packet (Ok (query_response r)) w g d is told may old outs = says-response P i now r (fired_query_at r.time i.fired_queries) w old
says-read lower P tags i now packet (Ok (push_pull m)) w g d is told may old outs = old
says-read lower P tags i now packet (Ok (foreign kind)) w g d is told may old outs = old
says-read lower P tags i now packet (Err error) w g d is told may old outs = old

says-gets : Below → (P : TimedEntry EventBody → Type 0) (tags : Bool) (i : IdealAgent) (now : ℕ) (packet : List ℕ) (w : Writing) → IsReady i → IsDurable i → ((m : Message) → decoded packet ≡ Ok m → IsMessageWritable m) → MayEnd i (receive tags i now packet) w
    → DurableSays P i.snapshot → All P (events_out i (Gets tags now packet w)) → DurableSays P (ended i (receive tags i now packet) w).agent.snapshot
says-gets lower P tags i now packet w g d told may old outs = by i.snapshot.stopped may outs
  where
    by : (b : Bool) → (let call = cond b (answers i (Err receives.Stopped)) (receive_read tags i now (decoded packet)) in
        MayEnd i call w → All P (map out_in (handed_by (ended i call w).answer)) → DurableSays P (ended i call w).agent.snapshot)
    by true may outs = old
    by false may outs = says-read lower P tags i now packet (decoded packet) w g d refl told may old outs

-- an agent that merges the clocks of a state
lowest-says : Below → (P : TimedEntry EventBody → Type 0) (config : Config) (s : PushPull) (join : Bool) → LinesSay P (written_min_line config s join)
lowest-says lower P config s join = by (config.keep_events && (join && config.ignore_old))
  where
    by : (b : Bool) → LinesSay P (cond b (Some (min_line kinds.Event s.event_clock)) None)
    by true = says-lowest lower P kinds.Event s.event_clock
    by false = tt

says-heard : Below → (P : TimedEntry EventBody → Type 0) (i : IdealAgent) (s : PushPull) (join : Bool) (w : Writing) → IsReady i → MayEnd i (hear i s join) w → DurableSays P i.snapshot → DurableSays P (ended i (hear i s join) w).agent.snapshot
says-heard lower P i s join w g may old = at (written_min_line i.config s join) (lowest-says lower P i.config s join) may
  where
    at : (line : Option (List ℕ)) → LinesSay P line → MayEnd i (heard_by line i s join) w → DurableSays P (ended i (heard_by line i s join) w).agent.snapshot
    at None says may = old
    at (Some line) says may = says-ended lower P i (heard_by (Some line) i s join) w g.consistent.observable may (λ kept. says) old

-- ---- snapshots

says-saved : Below → (P : TimedEntry EventBody → Type 0) (i : IdealAgent) (w : Writing) → IsReady i → MayEnd i (save i) w → DurableSays P i.snapshot → DurableSays P (ended i (save i) w).agent.snapshot
says-saved lower P i w g may old = by i.snapshot.stopped may
  where
    by : (b : Bool) → (let call = cond b (answers i (Err notes.Stopped)) (saving i) in MayEnd i call w → DurableSays P (ended i call w).agent.snapshot)
    by true may = old
    by false may = says-ended lower P i (saving i) w g.consistent.observable may (λ kept. tt) old

lines-say : Below → (P : TimedEntry EventBody → Type 0) (i : IdealAgent) → IsDurable i → All (λ p. P p.entry) i.events.history → LinesSay P (written_lines (view_of i))
lines-say lower P i d all = by i.config.keep_events
  where
    by : (b : Bool) → LinesSay P (cond b (Some (kept_lines (view_of i))) None)
    by true = says-kept lower P i all d.events_written
    by false = tt

says-compacted : Below → (P : TimedEntry EventBody → Type 0) (i : IdealAgent) (w : Writing) → IsReady i → IsDurable i → MayEnd i (compact i) w → All (λ p. P p.entry) i.events.history → DurableSays P i.snapshot → DurableSays P (ended i (compact i) w).agent.snapshot
says-compacted lower P i w g d may all old = by i.snapshot.stopped may
  where
    by : (b : Bool) → (let call = cond b (answers i (Err notes.Stopped)) (compacting i) in MayEnd i call w → DurableSays P (ended i call w).agent.snapshot)
    by true may = old
    by false may = says-ended lower P i (compacting i) w g.consistent.observable may (lines-say lower P i d all) old

-- ---- openings

-- the events in the durable text followed by a tail, if the durable text is whole
pub says-after : Below → (P : TimedEntry EventBody → Type 0) (i : IdealAgent) (tail : List ℕ) → IsSome i.snapshot.durable → DurableSays P i.snapshot → All P (kept_events whatever tail) → All P (kept_events whatever (text_after i tail))
says-after lower P i tail some old more = by i.snapshot.durable refl some
  where
    by : (k : Option (List ℕ)) → i.snapshot.durable ≡ k → IsSome k → All P (kept_events whatever (unwrap_or k [] ++ tail))
    by None is none = absurd (cc none)
    by (Some durable) is some = let h = old durable is in says-joined lower P durable tail h.whole h.says more

pub says-reopened : Below → (P : TimedEntry EventBody → Type 0) (i : IdealAgent) (text : List ℕ) → All P (kept_events whatever text) → DurableSays P (reopened i text).snapshot
says-reopened lower P i text says new at =
    let same : sealed text ≡ new = cc at in
    subst (IsSaying P) same (record { whole = lower.whole.sealed text; says = subst (λ (es : List TimedEvent). All P (map event_entry es)) (sym (lower.says.sealed whatever text)) says })

-- ---- each act

-- P holds of what an act hands out, and of everything in a text on which it opens. If the act compacts, P holds of
-- everything that was entered.
abbrev pub SaysFit : (TimedEntry EventBody → Type 0) → IdealAgent → LifeAct → Type 0
SaysFit P i (Opens config text d) = (d ≡ fresh_device text) × All P (kept_events whatever text)
SaysFit P i (Compacts w) = All (λ p. P p.entry) i.events.history
SaysFit P i x = All P (events_out i x)

pub says-step : Below → (P : TimedEntry EventBody → Type 0) (i : IdealAgent) (x : LifeAct) → IsReady i → IsDurable i → DurableSays P i.snapshot → MayGoOn i x → SaysFit P i x → DurableSays P (after i x).snapshot
says-step lower P i (Fires what flag w) g d old go outs = says-fired lower P i what flag (fire_error i what flag) w g d refl go.1 go.0 old outs
says-step lower P i (Asks now id name payload params w) g d old go outs =
    says-query_fired lower P params.tags_pass i now (query_at i.queries.clock i.config.name id name payload params) (query_error i id name payload params) w g go.0 old
says-step lower P i (Gets tags now packet w) g d old go outs = says-gets lower P tags i now packet w g d go.1 go.0 old outs
says-step lower P i (Hears s join w) g d old go outs = says-heard lower P i s join w g go.0.0 old
says-step lower P i (Takes e w) g d old go outs = says-received lower P i e.time e.key false (admission i e.time e.key) w g d refl go.0.1 go.1 go.0.2 old outs
says-step lower P i (Saves w) g d old go outs = says-saved lower P i w g go.0 old
says-step lower P i (Compacts w) g d old go all = says-compacted lower P i w g d go.0 all old
says-step lower P i (Closes now) g d old go outs = old
says-step lower P i (Opens config text d) g durable old go says =
    subst (λ (d : Device). DurableSays P (after i (Opens config text d)).snapshot) (sym says.0) (says-reopened lower P (with_config config i) text says.1)

abbrev saying : Below → (TimedEntry EventBody → Type 0) → Keeping
saying lower P = record {
  Has = λ i. IsDurable i × DurableSays P i.snapshot;
  Fits = SaysFit P;
  Handing = Outs P;
  step = λ i x r has go fits. (durable-step lower i x r has.0 go, says-step lower P i x r has.0 has.1 go fits);
  takes = λ i e w outs. outs;
  splits = outs-split P;
  replanned = λ i change has. (durable-planned i change has.0, has.1);
}

-- the events that a delivery hands out
pub given-handed : (packet : List ℕ) (a : Result Outcome ReceiveError) → (receive_gives packet a).events ≡ handed_by a
given-handed packet (Ok (outcomes.Event out)) = refl
given-handed packet (Ok (outcomes.Query handed ack rebroadcast)) = refl
given-handed packet (Ok outcomes.Ack) = refl
given-handed packet (Ok outcomes.Response) = refl
given-handed packet (Ok (outcomes.Ignored reason)) = refl
given-handed packet (Ok (outcomes.Foreign kind)) = refl
given-handed packet (Ok outcomes.PushPull) = refl
given-handed packet (Err error) = refl

-- what is fired, and what a delivery hands out, is the same as what the act in the agent's life hands out
pub fired-outs : (P : TimedEntry EventBody → Type 0) (a : Result Fired FireError) → Outs P (fire_gives a).events → All P (fired_entries a)
fired-outs P (Ok f) outs = outs
fired-outs P (Err error) outs = outs

pub gets-outs : (P : TimedEntry EventBody → Type 0) (m : IdealNode) (now : ℕ) (given : Option (List ℕ)) (packet : List ℕ) → given ≡ Some packet → Outs P (delivers m now given).done.events → All P (events_out m.agent (Gets false now packet (will m.agent (receive false m.agent now packet))))
gets-outs P m now given packet at outs =
    subst (λ (es : List EventOut). All P (map out_in es)) (given-handed packet (planned m.agent (receive false m.agent now packet)).answer) (subst (λ (given : Option (List ℕ)). Outs P (delivers m now given).done.events) at outs)

says-fit : Below → (P : TimedEntry EventBody → Type 0) (m : IdealNode) (sent : List (List ℕ)) (a : ℕ) (act : Act) → IsRepresentable m.agent → All (λ p. P p.entry) m.agent.events.history → DurableSays P m.agent.snapshot → Outs P (apply m sent act).done.events → All P (tailed_by (Of a act))
    → FitsAct (SaysFit P) (Outs P) m sent act
says-fit lower P m sent a (acts.Fire name payload coalesce) g all old outs tailed = fired-outs P (planned m.agent (fire m.agent (event_of name payload) coalesce)).answer outs
says-fit lower P m sent a (acts.Deliver number now) g all old outs tailed = λ packet at. gets-outs P m now (slice_get sent number) packet at outs
says-fit lower P m sent a (acts.Merge number join) g all old outs tailed = (λ packet s at is runs. All-nil P, outs)
says-fit lower P m sent a (acts.Query q) g all old outs tailed = All-nil P
says-fit lower P m sent a (acts.Restart tail) g all old outs tailed = (refl, says-after lower P m.agent tail g.consistent.observable.durable old tailed)
says-fit lower P m sent a (acts.Close now) g all old outs tailed = All-nil P
says-fit lower P m sent a acts.Save g all old outs tailed = All-nil P
says-fit lower P m sent a acts.Compact g all old outs tailed = all
says-fit lower P m sent a _ g all old outs tailed = tt

pub says-apply : Below → (P : TimedEntry EventBody → Type 0) (m : IdealNode) (sent : List (List ℕ)) (a : ℕ) (act : Act) → IsRepresentable m.agent → CanTellAct m.agent.config act (given_by sent act) → m.agent.config.keep_events ≡ true
    → All (λ p. P p.entry) m.agent.events.history → DurableSays P m.agent.snapshot → Outs P (apply m sent act).done.events → All P (tailed_by (Of a act)) → DurableSays P (apply m sent act).node.agent.snapshot
says-apply lower P m sent a act g tells keeps all old outs tailed = (acts-keep lower (saying lower P) m sent act g tells keeps (says-fit lower P m sent a act g all old outs tailed) (g.durable keeps, old)).1
