-- A burst with one more call is a burst.
use Rattle.serf_agent_c.proofs.Names.{Bool, Err, List, None, Ok, Option, Result, Some, [], ap, append-nil, append_assoc, arith, cond, drop, false, length, min, nat_le, refl, subst, sym, true, ℕ, ◌++◌, ◌∙◌, ◌∷◌, ◌≡◌, drop-append-le, drop_min, IsSomeAnd, MatchBool, decoded, Message, QueryResponse, foreign, push_pull, query, query_response, user_event, WireError, EventBody, clock_line, Device, Observable, appended, flushed, kept_bytes, Failed, Kept, MayWrite, SnapshotView, Writing, last_line, written, ClockKind, event_of, Call, Ends, MayEnd, AppendsLine, Replaces, ended, LeavesDevice, device_after, admission, fire, fire_error, fired_as, received_as, IdealAgent, answer_ignore_reason, fired_query_at, counts_where, fire_query, is_ack, is_full, query_admission, query_at, query_error, query_fired_as, query_received_as, response_received_as, response_received_at, receive, receive_message, receive_read, IsSound, Steps, appended_with, AgentState, view_of, OpenQuery, FireError, QueryError, QueryParams, Reason, BurstCall, Bursts, IsFlushed, answers_of, line_of, lines_of, no_failure, outcome, outcome_of, bytes_in, text_of, BurstOutcome, Session}
use Rattle.serf_wire.specs.Message.{Query}
use Rattle.serf_agent_c.specs.Bursts.{after}

-- Lists of calls

after-push : (i : IdealAgent) (calls : List BurstCall) (call : BurstCall) → after i (calls ++ call ∷ []) ≡ (outcome_of (after i calls) call).agent
after-push i [] call = refl
after-push i (c ∷ cs) call = after-push (outcome_of i c).agent cs call

answers-push : (i : IdealAgent) (calls : List BurstCall) (call : BurstCall) → answers_of i (calls ++ call ∷ []) ≡ answers_of i calls ++ (outcome_of (after i calls) call).answer ∷ []
answers-push i [] call = refl
answers-push i (c ∷ cs) call = ap (λ (xs : List BurstOutcome). (outcome_of i c).answer ∷ xs) (answers-push (outcome_of i c).agent cs call)

lines-push : (i : IdealAgent) (calls : List BurstCall) (call : BurstCall) → lines_of i (calls ++ call ∷ []) ≡ lines_of i calls ++ (outcome_of (after i calls) call).line
lines-push i [] call = append-nil (outcome_of i call).line
lines-push i (c ∷ cs) call =
    ap (λ (xs : List ℕ). (outcome_of i c).line ++ xs) (lines-push (outcome_of i c).agent cs call)
    ∙ sym (append_assoc (outcome_of i c).line (lines_of (outcome_of i c).agent cs) (outcome_of (after (outcome_of i c).agent cs) call).line)

-- Calls that change the snapshot only by a line

abbrev pub IsPlain : {R : Type 0} → IdealAgent → Call R → Type 0
IsPlain i (Ends step) = step.agent.snapshot ≡ i.snapshot
IsPlain i (AppendsLine kind t line step error) = Unit {0}
IsPlain i (Replaces lines step error) = ⊥

pub plain-if : {R : Type 0} (i : IdealAgent) (b : Bool) (x y : Call R) → IsPlain i x → IsPlain i y → IsPlain i (cond b x y)
plain-if i true x y p q = p
plain-if i false x y p q = q

pub event-plain : (reason : Option Reason) (i : IdealAgent) (t : ℕ) (what : EventBody) (coalesce : Bool) → IsPlain i (received_as reason i t what coalesce)
event-plain (Some reason) i t what coalesce = refl
event-plain None i t what coalesce = tt

query-plain : (tags : Bool) (reason : Option Reason) (i : IdealAgent) (now : ℕ) (q : Query) → IsPlain i (query_received_as tags reason i now q)
query-plain tags (Some reason) i now q = refl
query-plain tags None i now q = tt

counts-plain : (full ack : Bool) (i : IdealAgent) (r : QueryResponse) (q : OpenQuery) → IsPlain i (counts_where full ack i r q)
counts-plain true ack i r q = refl
counts-plain false ack i r q = refl

counted-plain : (reason : Option Reason) (i : IdealAgent) (r : QueryResponse) (q : OpenQuery) → IsPlain i (response_received_as reason i r q)
counted-plain (Some reason) i r q = refl
counted-plain None i r q = counts-plain (is_full i.config.responders r q) (is_ack r) i r q

response-plain : (found : Option OpenQuery) (i : IdealAgent) (now : ℕ) (r : QueryResponse) → IsPlain i (response_received_at found i now r)
response-plain None i now r = refl
response-plain (Some q) i now r = counted-plain (answer_ignore_reason now r q) i r q

message-plain : (tags : Bool) (i : IdealAgent) (now : ℕ) (m : Message) → IsPlain i (receive_message tags i now m)
message-plain tags i now (user_event e) = event-plain (admission i e.time (event_of e.name e.payload)) i e.time (event_of e.name e.payload) e.coalesce
message-plain tags i now (query q) = query-plain tags (query_admission i q.time q.id) i now q
message-plain tags i now (query_response r) = response-plain (fired_query_at r.time i.fired_queries) i now r
message-plain tags i now (push_pull m) = refl
message-plain tags i now (foreign kind) = refl

read-plain : (tags : Bool) (i : IdealAgent) (now : ℕ) (m : Result Message WireError) → IsPlain i (receive_read tags i now m)
read-plain tags i now (Ok m) = message-plain tags i now m
read-plain tags i now (Err error) = refl

pub receive-plain : (tags : Bool) (now : ℕ) (packet : List ℕ) (i : IdealAgent) → IsPlain i (receive tags i now packet)
receive-plain tags now packet i = plain-if i i.snapshot.stopped _ (receive_read tags i now (decoded packet)) refl (read-plain tags i now (decoded packet))

fired-plain : (error : Option FireError) (i : IdealAgent) (what : EventBody) (coalesce : Bool) → IsPlain i (fired_as error i what coalesce)
fired-plain (Some error) i what coalesce = refl
fired-plain None i what coalesce = tt

pub fire-plain : (what : EventBody) (coalesce : Bool) (i : IdealAgent) → IsPlain i (fire i what coalesce)
fire-plain what coalesce i = fired-plain (fire_error i what coalesce) i what coalesce

fired_queries-plain : (tags : Bool) (error : Option QueryError) (i : IdealAgent) (now : ℕ) (q : Query) → IsPlain i (query_fired_as tags error i now q)
fired_queries-plain tags (Some error) i now q = refl
fired_queries-plain tags None i now q = tt

pub query-fire-plain : (now id : ℕ) (name payload : List ℕ) (params : QueryParams) (i : IdealAgent) → IsPlain i (fire_query i now id name payload params)
query-fire-plain now id name payload params i = fired_queries-plain params.tags_pass (query_error i id name payload params) i now (query_at i.queries.clock i.config.name id name payload params)

-- A sink that is planned never to fail doesn't fail, and its plan stays the same

calm-append_line : (s : SnapshotView) (line : List ℕ) (b : Bool) (w : Writing) → s.plan ≡ Some no_failure → MatchBool b (w ≡ Kept) (MayWrite s line w) → w ≡ Kept
calm-append_line s line true w calm may = may
calm-append_line s line false Kept calm may = refl
calm-append_line s line false (Failed durable) calm may =
    let planned = rw calm at may.1 in
    let wrong : false ≡ true = planned.0 in
    cc

pub calm-kept : {R : Type 0} (i : IdealAgent) (call : Call R) (w : Writing) → i.snapshot.plan ≡ Some no_failure → IsPlain i call → MayEnd i call w → w ≡ Kept
calm-kept i (Ends step) w calm plain may = may
calm-kept i (AppendsLine kind t None step error) w calm plain may = calm-append_line i.snapshot (clock_line kind t) (nat_le t (last_line kind i.snapshot)) w calm may
calm-kept i (AppendsLine kind t (Some line) step error) w calm plain may = calm-append_line i.snapshot (kept_bytes kind t line (last_line kind i.snapshot)) false w calm may
calm-kept i (Replaces lines step error) w calm plain may = absurd plain

noted-calm : (kind : ClockKind) (t : ℕ) (line : Option (List ℕ)) (s : SnapshotView) → s.plan ≡ Some no_failure → (appended_with kind t line s Kept).plan ≡ Some no_failure
noted-calm kind t None s calm = by (nat_le t (last_line kind s))
  where
    by : (b : Bool) → (cond b s (written kind t s Kept)).plan ≡ Some no_failure
    by true = calm
    by false = rw calm
noted-calm kind t (Some line) s calm = rw calm

pub calm-after : {R : Type 0} (i : IdealAgent) (call : Call R) → i.snapshot.plan ≡ Some no_failure → IsPlain i call → (ended i call Kept).agent.snapshot.plan ≡ Some no_failure
calm-after i (Ends step) calm plain = ap (λ (s : SnapshotView). s.plan) plain ∙ calm
calm-after i (AppendsLine kind t line step error) calm plain = noted-calm kind t line i.snapshot calm
calm-after i (Replaces lines step error) calm plain = absurd plain

-- and the agent isn't stopped
runs-cond : (b : Bool) (x y : SnapshotView) → x.stopped ≡ false → y.stopped ≡ false → (cond b x y).stopped ≡ false
runs-cond true x y p q = p
runs-cond false x y p q = q

pub runs-after : {R : Type 0} (i : IdealAgent) (call : Call R) → IsPlain i call → i.snapshot.stopped ≡ false → (ended i call Kept).agent.snapshot.stopped ≡ false
runs-after i (Ends step) plain runs = ap (λ (s : SnapshotView). s.stopped) plain ∙ runs
runs-after i (AppendsLine kind t None step error) plain runs = runs-cond (nat_le t (last_line kind i.snapshot)) i.snapshot (written kind t i.snapshot Kept) runs runs
runs-after i (AppendsLine kind t (Some line) step error) plain runs = runs
runs-after i (Replaces lines step error) plain runs = absurd plain

-- the agent and its device after a call whose line is durable
abbrev pub Leaves : {R : Type 0} → IdealAgent → Call R → R → Device → AgentState → Writing → Type 0
Leaves i call r old new w = (r ≡ (ended i call w).answer) × (new.concrete ≡ view_of (ended i call w).agent) × IsSound (ended i call w).agent × LeavesDevice i call w old new.device

pub kept-step : {R : Type 0} (i : IdealAgent) (call : Call R) (r : R) (old : Device) (new : AgentState) → i.snapshot.plan ≡ Some no_failure → IsPlain i call → Steps i call r old new → Leaves i call r old new Kept
kept-step i call r old new calm plain s = subst (λ (w : Writing). Leaves i call r old new w) (calm-kept i call s.writing calm plain s.allowed) (s.answers, s.state, s.sound, s.device)

-- The text of the device

abbrev pub BytesAfter : Option Observable → List ℕ → Option Observable → Type 0
BytesAfter old line new = (bytes_in (Rattle.std.specs.Option.option_map (λ (t : Observable). t.durable) new) ≡ bytes_in (Rattle.std.specs.Option.option_map (λ (t : Observable). t.durable) old) ++ line) × IsSomeAnd new (λ (b : Observable). b.buffered ≡ [])

same-bytes : (old : Option Observable) → IsSomeAnd old (λ (b : Observable). b.buffered ≡ []) → BytesAfter old [] old
same-bytes old is = (sym (append-nil _), is)

line-bytes : (d : Device) (o : Option Observable) (line : List ℕ) → d.observed_bytes ≡ o → IsSomeAnd o (λ (b : Observable). b.buffered ≡ []) → BytesAfter d.observed_bytes line (flushed (appended line d)).observed_bytes
line-bytes d (Some b) line is flushed = rw (is, flushed) (refl, refl)
line-bytes d None line is flushed = absurd flushed

append_line-bytes : (b : Bool) (d : Device) (line : List ℕ) → IsFlushed d → BytesAfter d.observed_bytes (cond b [] line) (cond b d (flushed (appended line d))).observed_bytes
append_line-bytes true d line is = same-bytes d.observed_bytes is
append_line-bytes false d line is = line-bytes d d.observed_bytes line refl is

pub device-bytes : {R : Type 0} (i : IdealAgent) (call : Call R) (d : Device) → IsPlain i call → IsFlushed d → BytesAfter d.observed_bytes (line_of i call) (device_after i call d).observed_bytes
device-bytes i (Ends step) d plain is = same-bytes d.observed_bytes is
device-bytes i (AppendsLine kind t None step error) d plain is = append_line-bytes (nat_le t (last_line kind i.snapshot)) d (clock_line kind t) is
device-bytes i (AppendsLine kind t (Some line) step error) d plain is = append_line-bytes false d (kept_bytes kind t line (last_line kind i.snapshot)) is
device-bytes i (Replaces lines step error) d plain is = absurd plain

-- what a file lacks of a text, if no more of the file is taken as written than was there before the last line
lacks-more : (n : ℕ) (old line new : List ℕ) → new ≡ old ++ line → drop (min n (length old)) new ≡ drop n old ++ line
lacks-more n old line new is = rw (is, drop-append-le (min n (length old)) old line (omega arith), drop_min n old)

-- One more call

pub extended : {R : Type 0} (burst_outcome : R → BurstOutcome) (f : IdealAgent → Call R) (call : BurstCall) → ((j : IdealAgent) → outcome_of j call ≡ outcome burst_outcome j (f j)) → ((j : IdealAgent) → IsPlain j (f j))
    → (s t : Session) (r : R) → ((j : IdealAgent) → IsSound j → s.agent.concrete ≡ view_of j → Steps j (f j) r s.agent.device t.agent)
    → t.burst.items ≡ s.burst.items ++ burst_outcome r ∷ [] → t.written ≡ min s.written (length (text_of s.agent.device))
    → (i : IdealAgent) (calls : List BurstCall) (a : Session) → Bursts i calls a s → Bursts i (calls ++ call ∷ []) a t
extended burst_outcome f call is plain s t r steps queued written i calls a b =
    let j : IdealAgent = after i calls in
    let made = kept-step j (f j) r s.agent.device t.agent b.calm (plain j) (steps j b.sound b.state) in
    let next : after i (calls ++ call ∷ []) ≡ (ended j (f j) Kept).agent = after-push i calls call ∙ ap (λ o. o.agent) (is j) in
    let bytes = rw (← made.3) at (device-bytes j (f j) s.agent.device (plain j) b.flushed) in
    record {
      state = rw next made.1;
      sound = rw next made.2;
      calm = rw next (calm-after j (f j) b.calm (plain j));
      flushed = bytes.1;
      outcomes = rw (queued, b.outcomes, answers-push i calls call, is j, made.0) (append_assoc a.burst.items (answers_of i calls) _);
      lines = rw (written, lines-push i calls call, is j) (lacks-more s.written (text_of s.agent.device) (line_of j (f j)) (text_of t.agent.device) bytes.0 ∙ ap (λ (xs : List ℕ). xs ++ line_of j (f j)) b.lines ∙ append_assoc _ (lines_of i calls) (line_of j (f j)));
    }
