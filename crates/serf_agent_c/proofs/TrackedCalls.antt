-- What a call appends to the text of a file: the lines of exactly the events that it hands out, and lines that say nothing
-- of handlers.
use Rattle.serf_agent_c.proofs.Names.{AreBytes, Bool, BurstOutcome, Call, CallResult, ConcreteState, DecodesBytes, DecodesInRange, Ends, Err, EventBody, EventsHaveBytes, FireError, Follows, IdealAgent, IsDurable, IsSound, Kept, List, Message, None, Ok, Option, Outcome, QueryError, QueryResponse, Reason, ReceiveError, Replaces, Result, Session, Some, TimedEntry, Went, WireError, AppendsLine, HasBytes, [], admission, answers, ap, append-nil, arith, call_result_of, clock_line, cond, counts_where, decoded, drop, ended, event_entry, event_of, event_kind, enters, events_in, false, fire, fire_error, fire_query, fired_as, fired_entries, foreign, goes, handed_by, is_ready, last_line, length, line_of, map, max_text_bytes, nat_le, nat_lt, pending_bytes, push_pull, query, query_admission, query_error, query_fired_as, query_at, query_received_as, query_response, receive, receive_message, receive_read, received_as, refl, response_received_as, response_received_at, answer_ignore_reason, fired_query_at, is_ack, is_full, rests, save, subst, sym, text_at, texts_len, true, user_event, waits, ℕ, ◌++◌, ◌-◌, ◌<◌, ◌^◌, ◌∙◌, ◌∷◌, ◌≡◌, ◌≤◌, Appends, Burst, BurstCall, GivesNothing, OpenQuery, QueryParams, ltb-false, same_texts}
use Rattle.std.proofs.lemmas.Bool.{leb-false}
use Rattle.std.specs.List.{flat_map}
use Rattle.serf_wire.specs.Message.{Query}
use Rattle.serf_wire.specs.Ranges.{InRange}
use Rattle.serf_snapshot.specs.EventLines.{kept_clock_line, query_line}
use Rattle.serf_snapshot.specs.HandlerLaws.{CanBeWritten}
use Rattle.serf_snapshot.specs.declared.kind.ClockKind.TheVariants as kinds
use Rattle.serf_snapshot.specs.declared.snapshot.AppendLineError.TheVariants as notes
use Rattle.serf_agent.specs.KeptTexts.{line_of_event}
use Rattle.serf_agent.specs.Tracks.{track_reason}
use Rattle.serf_agent.specs.declared.outcome.ReceiveError.TheVariants as receives
use Rattle.serf_agent.specs.declared.outcome.FireError.TheVariants as fires
use Rattle.serf_agent.specs.declared.outcome.Reason.TheVariants as reasons
use Rattle.serf_agent_c.specs.TrackedHosts.{event_of_entry}
use Rattle.serf_agent_c.proofs.BurstLaws.{IsPlain}
use Rattle.serf_agent_c.proofs.HostLaws.{durable-after, ready-parts}
use Rattle.serf_agent_c.specs.HostLaws.{WentInBurst, lost, made}
use Rattle.serf_agent_c.proofs.HostedKept.{waiting-since}
use Rattle.serf_agent_c.proofs.TrackedLines.{Handling, Hands, hands-both, hands-event, hands-nothing, hands-silent}

-- the text of a file after a call
pub record Adds (file : List ℕ) (s t : Session) (es : List (TimedEntry EventBody)) : Type 0 where
  pub more : List ℕ
  pub text : text_at file t ≡ text_at file s ++ more
  pub hands : Hands more es
  pub config : t.agent.concrete.config ≡ s.agent.concrete.config
  pub replaces : t.replaces ≡ s.replaces

pub adds-unmade : (file : List ℕ) (s t : Session) (es : List (TimedEntry EventBody)) → t ≡ s → es ≡ [] → Adds file s t es
adds-unmade file s t es same none = subst (λ (u : Session). Adds file s u es) (sym same) (record {
  more = [];
  text = sym (append-nil (text_at file s));
  hands = subst (Hands []) (sym none) hands-nothing;
  config = refl;
  replaces = refl;
})

pub some-is : {A : Type 0} (x y : A) → Some x ≡ Some y → x ≡ y
some-is {A} x y same = cc same

-- a call that appends nothing
pub adds-nothing : (file : List ℕ) (s t : Session) (es : List (TimedEntry EventBody)) (i j : IdealAgent) → Follows i file s → Follows j file t → j.snapshot.durable ≡ i.snapshot.durable → j.config ≡ i.config → t.replaces ≡ s.replaces → es ≡ [] → Adds file s t es
adds-nothing file s t es i j f g durable config replaces none = record {
  more = [];
  text = some-is (text_at file t) (text_at file s) (sym g.disk ∙ durable ∙ f.disk) ∙ sym (append-nil (text_at file s));
  hands = subst (Hands []) (sym none) hands-nothing;
  config = ap (λ (a : ConcreteState). a.config) g.state ∙ config ∙ sym (ap (λ (a : ConcreteState). a.config) f.state);
  replaces = replaces;
}

-- ---- calls that write a line, and the events that they hand out

abbrev LineHands : Option (List ℕ) → List (TimedEntry EventBody) → Type 0
LineHands None es = es ≡ []
LineHands (Some line) es = Hands line es

abbrev pub Leads : {R : Type 0} → IdealAgent → Call R → List (TimedEntry EventBody) → Type 0
Leads i (Ends step) es = (es ≡ []) × (step.agent.config ≡ i.config)
Leads i (AppendsLine kind t line step error) es = LineHands line es × (step.agent.config ≡ i.config)
Leads i (Replaces lines step error) es = ⊥

pub leads-line : {R : Type 0} → Handling → (i : IdealAgent) (call : Call R) (es : List (TimedEntry EventBody)) → Leads i call es → Hands (line_of i call) es
leads-line laws i (Ends step) es l = subst (Hands []) (sym l.0) hands-nothing
leads-line laws i (AppendsLine kind t None step error) es l = subst (Hands (line_of i (AppendsLine kind t None step error))) (sym l.0) (by (nat_le t (last_line kind i.snapshot)))
  where
    by : (b : Bool) → Hands (cond b [] (clock_line kind t)) []
    by true = hands-nothing
    by false = hands-silent (clock_line kind t) (laws.silent_clock_line kind t)
leads-line laws i (AppendsLine kind t (Some line) step error) es l = by (nat_le t (last_line kind i.snapshot))
  where
    by : (b : Bool) → Hands (cond b [] (kept_clock_line kind t) ++ line) es
    by true = l.0
    by false = hands-both (kept_clock_line kind t) line [] es (hands-silent (kept_clock_line kind t) (laws.silent_kept_clock_line kind t)) l.0
leads-line laws i (Replaces lines step error) es l = absurd l

pub leads-config : {R : Type 0} (i : IdealAgent) (call : Call R) (es : List (TimedEntry EventBody)) → Leads i call es → (ended i call Kept).agent.config ≡ i.config
leads-config i (Ends step) es l = l.1
leads-config i (AppendsLine kind t line step error) es l = l.1
leads-config i (Replaces lines step error) es l = absurd l

leads-if : {R : Type 0} (i : IdealAgent) (b : Bool) (x y : Call R) (f : R → List (TimedEntry EventBody)) → Leads i x (f (ended i x Kept).answer) → Leads i y (f (ended i y Kept).answer) → Leads i (cond b x y) (f (ended i (cond b x y) Kept).answer)
leads-if i true x y f p q = p
leads-if i false x y f p q = q

abbrev pub received_entries : Result Outcome ReceiveError → List (TimedEntry EventBody)
received_entries r = map event_entry (handed_by r)

-- an event that is admitted can be written in a line
refused-not : {A : Type 0} (b : Bool) (x : A) (rest : Option A) → cond b (Some x) rest ≡ None → (b ≡ false) × (rest ≡ None)
refused-not true x rest is = absurd (cc is)
refused-not false x rest is = (refl, is)

pub admitted-time : (i : IdealAgent) (t : ℕ) (what : EventBody) → IsDurable i → admission i t what ≡ None → 0 < t
admitted-time i t what d none =
    let long = refused-not (nat_lt max_text_bytes (texts_len what)) reasons.Oversize (track_reason same_texts i.config.event_buffer i.config.per_time i.life i.events t what) none in
    let low = refused-not (nat_lt t i.events.minimum) reasons.BelowMinimum _ long.1 in
    let least : i.events.minimum ≤ t = ltb-false t i.events.minimum low.0 in
    let some : 0 < i.events.minimum = d.events_min.0 in
    omega (arith, least, some)

can-write : (t : ℕ) (what : EventBody) → 0 < t → t < 2 ^ 64 - 1 → HasBytes what → CanBeWritten (event_of_entry (record { time = t; key = what }))
can-write t what some small bytes = record { some = some; small = small; name = bytes.name; payload = bytes.payload }

pub event-leads : (i : IdealAgent) (reason : Option Reason) (t : ℕ) (what : EventBody) (flag : Bool) → i.config.keep_events ≡ true → (reason ≡ None → 0 < t) → t < 2 ^ 64 - 1 → HasBytes what → Leads i (received_as reason i t what flag) (received_entries (ended i (received_as reason i t what flag) Kept).answer)
event-leads i (Some reason) t what flag keeps some small bytes = (refl, refl)
event-leads i None t what flag keeps some small bytes =
    let e : TimedEntry EventBody = record { time = t; key = what } in
    (subst (λ (b : Bool). LineHands (cond b (Some (line_of_event t what)) None) (e ∷ [])) (sym keeps) (hands-event e (can-write t what (some refl) small bytes)), refl)

query-leads : Handling → (tags : Bool) (reason : Option Reason) (i : IdealAgent) (now : ℕ) (q : Query) → i.config.keep_events ≡ true → Leads i (query_received_as tags reason i now q) (received_entries (ended i (query_received_as tags reason i now q) Kept).answer)
query-leads laws tags (Some reason) i now q keeps = (refl, refl)
query-leads laws tags None i now q keeps = (subst (λ (b : Bool). LineHands (cond b (Some (query_line q.time q.id)) None) []) (sym keeps) (hands-silent (query_line q.time q.id) (laws.silent_query_line q.time q.id)), refl)

counts-leads : (full ack : Bool) (i : IdealAgent) (r : QueryResponse) (q : OpenQuery) → Leads i (counts_where full ack i r q) (received_entries (ended i (counts_where full ack i r q) Kept).answer)
counts-leads true ack i r q = (refl, refl)
counts-leads false true i r q = (refl, refl)
counts-leads false false i r q = (refl, refl)

counted-leads : (reason : Option Reason) (i : IdealAgent) (r : QueryResponse) (q : OpenQuery) → Leads i (response_received_as reason i r q) (received_entries (ended i (response_received_as reason i r q) Kept).answer)
counted-leads (Some reason) i r q = (refl, refl)
counted-leads None i r q = counts-leads (is_full i.config.responders r q) (is_ack r) i r q

response-leads : (found : Option OpenQuery) (i : IdealAgent) (now : ℕ) (r : QueryResponse) → Leads i (response_received_at found i now r) (received_entries (ended i (response_received_at found i now r) Kept).answer)
response-leads None i now r = (refl, refl)
response-leads (Some q) i now r = counted-leads (answer_ignore_reason now r q) i r q

message-leads : Handling → (tags : Bool) (i : IdealAgent) (now : ℕ) (m : Message) → i.config.keep_events ≡ true → IsDurable i → InRange m → EventsHaveBytes m → Leads i (receive_message tags i now m) (received_entries (ended i (receive_message tags i now m) Kept).answer)
message-leads laws tags i now (user_event e) keeps d range bytes =
    let what : EventBody = event_of e.name e.payload in
    event-leads i (admission i e.time what) e.time what e.coalesce keeps (admitted-time i e.time what d) range (record { name = bytes.name; payload = bytes.payload })
message-leads laws tags i now (query q) keeps d range bytes = query-leads laws tags (query_admission i q.time q.id) i now q keeps
message-leads laws tags i now (query_response r) keeps d range bytes = response-leads (fired_query_at r.time i.fired_queries) i now r
message-leads laws tags i now (push_pull m) keeps d range bytes = (refl, refl)
message-leads laws tags i now (foreign kind) keeps d range bytes = (refl, refl)

read-leads : Handling → (tags : Bool) (i : IdealAgent) (now : ℕ) (r : Result Message WireError) → i.config.keep_events ≡ true → IsDurable i → ((m : Message) → r ≡ Ok m → InRange m × EventsHaveBytes m) → Leads i (receive_read tags i now r) (received_entries (ended i (receive_read tags i now r) Kept).answer)
read-leads laws tags i now (Ok m) keeps d about = let a = about m refl in message-leads laws tags i now m keeps d a.0 a.1
read-leads laws tags i now (Err error) keeps d about = (refl, refl)

pub receive-leads : Handling → DecodesInRange → DecodesBytes → (tags : Bool) (i : IdealAgent) (now : ℕ) (packet : List ℕ) → i.config.keep_events ≡ true → IsDurable i → AreBytes packet → Leads i (receive tags i now packet) (received_entries (ended i (receive tags i now packet) Kept).answer)
receive-leads laws ranged texts tags i now packet keeps d bytes =
    leads-if i i.snapshot.stopped (answers i (Err receives.Stopped)) (receive_read tags i now (decoded packet)) received_entries (refl, refl)
    (read-leads laws tags i now (decoded packet) keeps d (λ m at. (ranged packet m at, texts packet m bytes at)))

fired-leads : (error : Option FireError) (i : IdealAgent) (what : EventBody) (flag : Bool) → i.config.keep_events ≡ true → (error ≡ None → i.events.clock < 2 ^ 64 - 1) → 0 < i.events.clock → HasBytes what → Leads i (fired_as error i what flag) (fired_entries (ended i (fired_as error i what flag) Kept).answer)
fired-leads (Some error) i what flag keeps small some bytes = (refl, refl)
fired-leads None i what flag keeps small some bytes =
    let e : TimedEntry EventBody = record { time = i.events.clock; key = what } in
    (subst (λ (b : Bool). LineHands (cond b (Some (line_of_event i.events.clock what)) None) (e ∷ [])) (sym keeps) (hands-event e (can-write i.events.clock what some (small refl) bytes)), refl)

clock-below : (i : IdealAgent) (what : EventBody) (flag : Bool) → fire_error i what flag ≡ None → i.events.clock < 2 ^ 64 - 1
clock-below i what flag none =
    let a = refused-not i.snapshot.stopped fires.Stopped _ none in
    let b = refused-not _ fires.TooLarge _ a.1 in
    let c = refused-not (nat_le (2 ^ 64 - 1) i.events.clock) fires.Exhausted None b.1 in
    leb-false (2 ^ 64 - 1) i.events.clock c.0

pub fire-leads : (i : IdealAgent) (what : EventBody) (flag : Bool) → i.config.keep_events ≡ true → IsSound i → IsDurable i → HasBytes what → Leads i (fire i what flag) (fired_entries (ended i (fire i what flag) Kept).answer)
fire-leads i what flag keeps sound d bytes =
    let least = sound.events.minimum in
    let some : 0 < i.events.minimum = d.events_min.0 in
    fired-leads (fire_error i what flag) i what flag keeps (clock-below i what flag) (omega (arith, least, some)) bytes

fired_queries-leads : Handling → (tags : Bool) (error : Option QueryError) (i : IdealAgent) (now : ℕ) (q : Query) → i.config.keep_events ≡ true → Leads i (query_fired_as tags error i now q) []
fired_queries-leads laws tags (Some error) i now q keeps = (refl, refl)
fired_queries-leads laws tags None i now q keeps = (subst (λ (b : Bool). LineHands (cond b (Some (query_line q.time q.id)) None) []) (sym keeps) (hands-silent (query_line q.time q.id) (laws.silent_query_line q.time q.id)), refl)

pub query-fire-leads : Handling → (i : IdealAgent) (now id : ℕ) (name payload : List ℕ) (params : QueryParams) → i.config.keep_events ≡ true → Leads i (fire_query i now id name payload params) []
query-fire-leads laws i now id name payload params keeps = fired_queries-leads laws params.tags_pass (query_error i id name payload params) i now (query_at i.queries.clock i.config.name id name payload params) keeps

pub save-leads : (i : IdealAgent) → Leads i (save i) []
save-leads i = leads-if i i.snapshot.stopped (answers i (Err notes.Stopped)) (AppendsLine kinds.Member (i.member_clock - 1) None (record { agent = i; answer = Ok (tt {0}) }) (Err notes.SinkError)) (λ r. []) (refl, refl) (refl, refl)

-- ---- plain calls and calls of a burst

not-ready : (s : Session) → is_ready s ≡ true → s.replaces ≡ false
not-ready s ready = (ready-parts s.replaces (pending_bytes s.agent.device s.written) ready).0

pub same-replaces : (s t : Session) → is_ready s ≡ true → Appends s t → t.replaces ≡ s.replaces
same-replaces s t ready appends = appends.1 ∙ sym (not-ready s ready)

adds-line : {R : Type 0} → Handling → (i : IdealAgent) (call : Call R) (file : List ℕ) (s t : Session) (es : List (TimedEntry EventBody)) → Follows i file s → Follows (ended i call Kept).agent file t → IsPlain i call → Leads i call es → t.replaces ≡ s.replaces → Adds file s t es
adds-line laws i call file s t es f g plain leads replaces = record {
  more = line_of i call;
  text = some-is (text_at file t) (text_at file s ++ line_of i call) (sym g.disk ∙ durable-after i call (text_at file s) plain f.disk);
  hands = leads-line laws i call es leads;
  config = ap (λ (a : ConcreteState). a.config) g.state ∙ leads-config i call es leads ∙ sym (ap (λ (a : ConcreteState). a.config) f.state);
  replaces = replaces;
}

pub went-adds : {R : Type 0} → Handling → (call_result : R → CallResult) (i : IdealAgent) (call : Call R) (file : List ℕ) (s t : Session) (es more : List (TimedEntry EventBody)) → Went call_result i call file s t → Follows i file s → IsPlain i call → Leads i call es
    → (is_ready s ≡ true → Appends s t) → (is_ready s ≡ false → more ≡ []) → (GivesNothing t.call_result → more ≡ []) → (is_ready s ≡ true → t.call_result ≡ call_result (ended i call Kept).answer → more ≡ es) → Adds file s t more
went-adds laws call_result i call file s t es more (waits unready same) f plain leads appends idle nothing is = adds-unmade file s t more same (idle unready)
went-adds laws call_result i call file s t es more (rests ready g none) f plain leads appends idle nothing is = adds-nothing file s t more i i f g refl refl (same-replaces s t ready (appends ready)) (nothing none)
went-adds laws call_result i call file s t es more (goes ready ends gives g) f plain leads appends idle nothing is =
    subst (Adds file s t) (sym (is ready gives)) (adds-line laws i call file s t es f g plain leads (same-replaces s t ready (appends ready)))

drop-all : {A : Type 0} (xs : List A) → drop (length xs) xs ≡ []
drop-all [] = refl
drop-all (x ∷ xs) = drop-all xs

none-since : (call : BurstCall) (s t : Session) → t.burst.items ≡ s.burst.items → enters event_kind (Burst call) s t ≡ []
none-since call s t same = ap (λ (xs : List BurstOutcome). flat_map (λ (y : BurstOutcome). map event_entry (events_in (call_result_of y))) (drop (length s.burst.items) xs)) same ∙ ap (λ (xs : List BurstOutcome). flat_map (λ (y : BurstOutcome). map event_entry (events_in (call_result_of y))) xs) (drop-all s.burst.items)

pub bursted-adds : {R : Type 0} → Handling → (burst_outcome : R → BurstOutcome) (i : IdealAgent) (once : BurstCall) (call : Call R) (file : List ℕ) (s t : Session) (es : List (TimedEntry EventBody)) → WentInBurst burst_outcome i call file s t → Follows i file s → IsPlain i call → Leads i call es → t.replaces ≡ s.replaces
    → es ≡ map event_entry (events_in (call_result_of (burst_outcome (ended i call Kept).answer))) → Adds file s t (enters event_kind (Burst once) s t)
bursted-adds laws burst_outcome i once call file s t es (lost g burst) f plain leads replaces is = adds-nothing file s t (enters event_kind (Burst once) s t) i i f g refl refl replaces (none-since once s t burst)
bursted-adds laws burst_outcome i once call file s t es (made ends g burst) f plain leads replaces is =
    subst (Adds file s t) (is ∙ sym (waiting-since event_kind once s t (burst_outcome (ended i call Kept).answer) burst)) (adds-line laws i call file s t es f g plain leads replaces)
