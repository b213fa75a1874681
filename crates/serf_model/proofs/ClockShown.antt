-- An agent's clocks, for events and for queries, are never higher than its turns show.
use Rattle.serf_model.proofs.Names.{Bool, Err, List, None, Ok, Option, Result, Some, [], arith, cond, false, refl, true, ℕ, ◌∷◌, ◌≡◌, ◌≤◌, fold, max, slice_get, observed, decoded, Message, PushPull, Query, QueryResponse, foreign, push_pull, query, query_response, user_event, WireError, EventBody, AppendLineError, event_of, TimedEntry, Call, Step, answers, planned, admission, fire_error, fired_as, received_as, DeliveredQuery, IdealAgent, answer_ignore_reason, fired_query_at, counts_where, is_ack, is_full, query_admission, query_at, query_error, query_fired_as, query_received_as, respond_error, response_received_as, response_received_at, receive_read, compact, events_of, hear, heard_by, merge_refusal, receive_one, save, send_state, written_min_line, view_of, OpenQuery, FireError, MergeError, Outcome, PushPullError, QueryError, Reason, ReceiveError, RespondError, Applied, IdealNode, Merged, apply, delivers, fire_gives, merges_as, merges_events, merges_given, merges_heard, merges_on, append_line_gives, query_gives, receive_gives, responds, responds_as, state_gives, clock_given, clock_shown, clock_told, query_clock_given, query_clock_shown, query_clock_told, given_by, Act, Action, Of, Answer}
use Rattle.serf_agent.specs.declared.outcome.Outcome.TheVariants as outcomes
use Rattle.serf_agent.specs.declared.outcome.ReceiveError.TheVariants as receives
use Rattle.serf_snapshot.specs.declared.snapshot.AppendLineError.TheVariants as notes
use Rattle.serf_model.specs.declared.action.Act.TheVariants as acts
use Rattle.serf_model.specs.declared.line.Answer.TheVariants as lines
use Rattle.serf_model.specs.declared.line.Refusal.TheVariants as refusals
use Rattle.serf_model.proofs.InvariantKept.{compacting, saving}
use Rattle.serf_model.proofs.CallsKept.{kept-or-failed}

-- the clock of events is at most the first number, and the clock of queries at most the second
abbrev pub AreLow : IdealAgent → ℕ → ℕ → Type 0
AreLow i events queries = (i.events.clock ≤ events) × (i.queries.clock ≤ queries)

-- the same after a message has raised the two numbers
abbrev AreWritable : IdealAgent → ℕ → ℕ → Act → Result Message WireError → Type 0
AreWritable i e q act r = AreLow i (clock_told e act r) (query_clock_told q act r)

-- the same after what a turn shows has raised the two numbers
abbrev pub AreShown : IdealAgent → ℕ → ℕ → Action → Option (List ℕ) → Answer → Type 0
AreShown i e q action given answer = AreLow i (clock_shown e action given answer) (query_clock_shown q action given answer)

-- ---- a message that is received raises a clock

abbrev pub rising : ℕ → List (TimedEntry EventBody) → ℕ
rising clock es = fold (λ c e. observed c e.time) clock es

pub rising-up : (clock : ℕ) (es : List (TimedEntry EventBody)) → clock ≤ rising clock es
rising-up clock [] = omega arith
rising-up clock (e ∷ es) = let more = rising-up (observed clock e.time) es in omega (arith, more)

told-up : (e q : ℕ) (act : Act) (r : Result Message WireError) → (e ≤ clock_told e act r) × (q ≤ query_clock_told q act r)
told-up e q (acts.Deliver number now) (Ok (user_event x)) = (omega arith, omega arith)
told-up e q (acts.Deliver number now) (Ok (query x)) = (omega arith, omega arith)
told-up e q (acts.Merge number join) (Ok (push_pull m)) = let more = rising-up (max e m.event_clock) (events_of m.slots) in (omega (arith, more), omega arith)
told-up e q _ _ = (omega arith, omega arith)

given-up : (e q : ℕ) (action : Action) (given : Option (List ℕ)) → (e ≤ clock_given e action given) × (q ≤ query_clock_given q action given)
given-up e q (Of a act) (Some packet) = told-up e q act (decoded packet)
given-up e q _ _ = (omega arith, omega arith)

told-low : (i : IdealAgent) (e q : ℕ) (act : Act) (r : Result Message WireError) → AreLow i e q → AreWritable i e q act r
told-low i e q act r low = let up = told-up e q act r in (omega (arith, low.0, up.0), omega (arith, low.1, up.1))

-- ---- what an answer shows

-- whether an answer contains a clock
abbrev pub says_clock : Answer → Bool
says_clock (lines.Restarted member_clock event_clock query_clock) = true
says_clock (lines.Fired t) = true
says_clock (lines.Queried t) = true
says_clock _ = false

-- if an answer contains no clock, the clocks are what the given packet raises them to
silent : (i : IdealAgent) (e q : ℕ) (action : Action) (given : Option (List ℕ)) (answer : Answer) → AreLow i (clock_given e action given) (query_clock_given q action given) → says_clock answer ≡ false → AreShown i e q action given answer
silent i e q action given (lines.Restarted member_clock event_clock query_clock) low on = absurd (cc on)
silent i e q action given (lines.Fired t) low on = absurd (cc on)
silent i e q action given (lines.Queried t) low on = absurd (cc on)
silent i e q action given _ low on = low

-- clocks that don't change
stays : (i : IdealAgent) (e q : ℕ) (action : Action) (given : Option (List ℕ)) (answer : Answer) → AreLow i e q → says_clock answer ≡ false → AreShown i e q action given answer
stays i e q action given answer low on = let up = given-up e q action given in silent i e q action given answer (omega (arith, low.0, up.0), omega (arith, low.1, up.1)) on

-- ---- what packets contain

pub received-low : (i : IdealAgent) (t e q : ℕ) (what : EventBody) (coalesce : Bool) (r : Option Reason) → AreLow i e q → AreLow (planned i (received_as r i t what coalesce)).agent (observed e t) q
received-low i t e q what coalesce (Some reason) low = (omega (arith, low.0), low.1)
received-low i t e q what coalesce None low =
    kept-or-failed (λ o. AreLow o.agent (observed e t) q) i (received_as None i t what coalesce) (omega (arith, low.0), low.1) (λ d. (omega (arith, low.0), low.1))

query-low : (i : IdealAgent) (now e q : ℕ) (x : Query) (r : Option Reason) → AreLow i e q → AreLow (planned i (query_received_as false r i now x)).agent e (observed q x.time)
query-low i now e q x (Some reason) low = (low.0, omega (arith, low.1))
query-low i now e q x None low =
    kept-or-failed (λ o. AreLow o.agent e (observed q x.time)) i (query_received_as false None i now x) (low.0, omega (arith, low.1)) (λ d. (low.0, omega (arith, low.1)))

response-low : (i : IdealAgent) (now e q : ℕ) (r : QueryResponse) (o : Option OpenQuery) → AreLow i e q → AreLow (planned i (response_received_at o i now r)).agent e q
response-low i now e q r None low = low
response-low i now e q r (Some x) low = by (answer_ignore_reason now r x)
  where
    full : (b : Bool) → AreLow (planned i (counts_where b (is_ack r) i r x)).agent e q
    full true = low
    full false = low

    by : (reason : Option Reason) → AreLow (planned i (response_received_as reason i r x)).agent e q
    by (Some reason) = low
    by None = full (is_full i.config.responders r x)

read-low : (i : IdealAgent) (number now e q : ℕ) (r : Result Message WireError) → AreLow i e q → AreWritable (planned i (receive_read false i now r)).agent e q (acts.Deliver number now) r
read-low i number now e q (Ok (user_event x)) low = received-low i x.time e q (event_of x.name x.payload) x.coalesce (admission i x.time (event_of x.name x.payload)) low
read-low i number now e q (Ok (query x)) low = query-low i now e q x (query_admission i x.time x.id) low
read-low i number now e q (Ok (query_response r)) low = response-low i now e q r (fired_query_at r.time i.fired_queries) low
read-low i number now e q (Ok (push_pull m)) low = low
read-low i number now e q (Ok (foreign kind)) low = low
read-low i number now e q (Err error) low = low

-- the answer to a delivery contains no clock
pub receive-silent : (packet : List ℕ) (x : Result Outcome ReceiveError) → says_clock (receive_gives packet x).answer ≡ false
receive-silent packet (Ok (outcomes.Event out)) = refl
receive-silent packet (Ok (outcomes.Query handed ack rebroadcast)) = refl
receive-silent packet (Ok outcomes.Ack) = refl
receive-silent packet (Ok outcomes.Response) = refl
receive-silent packet (Ok (outcomes.Ignored reason)) = refl
receive-silent packet (Ok (outcomes.Foreign kind)) = refl
receive-silent packet (Ok outcomes.PushPull) = refl
receive-silent packet (Err error) = refl

delivers-low : (m : IdealNode) (a number now e q : ℕ) (given : Option (List ℕ)) → AreLow m.agent e q → (let o = delivers m now given in AreShown o.node.agent e q (Of a (acts.Deliver number now)) given o.done.answer)
delivers-low m a number now e q None low = low
delivers-low m a number now e q (Some packet) low = by m.agent.snapshot.stopped
  where
    at : (call : Call (Result Outcome ReceiveError)) → AreWritable (planned m.agent call).agent e q (acts.Deliver number now) (decoded packet)
        → AreShown (planned m.agent call).agent e q (Of a (acts.Deliver number now)) (Some packet) (receive_gives packet (planned m.agent call).answer).answer
    at call told = silent (planned m.agent call).agent e q (Of a (acts.Deliver number now)) (Some packet) (receive_gives packet (planned m.agent call).answer).answer told (receive-silent packet (planned m.agent call).answer)

    by : (b : Bool) → (let call = cond b (answers m.agent (Err receives.Stopped)) (receive_read false m.agent now (decoded packet)) in
        AreShown (planned m.agent call).agent e q (Of a (acts.Deliver number now)) (Some packet) (receive_gives packet (planned m.agent call).answer).answer)
    by true = at (answers m.agent (Err receives.Stopped)) (told-low m.agent e q (acts.Deliver number now) (decoded packet) low)
    by false = at (receive_read false m.agent now (decoded packet)) (read-low m.agent number now e q (decoded packet) low)

-- ---- merges

on-low : (o : Step (Result Outcome ReceiveError)) (rest : IdealAgent → Merged) (e q : ℕ) → AreLow o.agent e q → AreLow (rest o.agent).agent e q → AreLow (merges_on o rest).agent e q
on-low o rest e q first more = by o.answer
  where
    by : (r : Result Outcome ReceiveError) → AreLow (merges_on (record { agent = o.agent; answer = r }) rest).agent e q
    by (Ok outcome) = more
    by (Err error) = first

merges-low : (es : List (TimedEntry EventBody)) (i : IdealAgent) (e q : ℕ) → AreLow i e q → AreLow (merges_events es i).agent (rising e es) q
merges-low [] i e q low = low
merges-low (x ∷ es) i e q low =
    let first = received-low i x.time e q x.key false (admission i x.time x.key) low in
    let up = rising-up (observed e x.time) es in
    on-low (planned i (receive_one i x)) (merges_events es) (rising (observed e x.time) es) q (omega (arith, first.0, up), first.1) (merges-low es (planned i (receive_one i x)).agent (observed e x.time) q first)

pub heard-low : (i : IdealAgent) (s : PushPull) (join : Bool) (e q : ℕ) → AreLow i e q → AreLow (planned i (hear i s join)).agent (max e s.event_clock) (max q s.query_clock)
heard-low i s join e q low = by (written_min_line i.config s join)
  where
    by : (line : Option (List ℕ)) → AreLow (planned i (heard_by line i s join)).agent (max e s.event_clock) (max q s.query_clock)
    by None = (omega (arith, low.0), omega (arith, low.1))
    by (Some line) =
        kept-or-failed (λ o. AreLow o.agent (max e s.event_clock) (max q s.query_clock)) i (heard_by (Some line) i s join) (omega (arith, low.0), omega (arith, low.1)) (λ d. (omega (arith, low.0), omega (arith, low.1)))

-- how high a merge leaves the clocks, and that its answer contains none
abbrev MergesLow : Applied → ℕ → ℕ → Type 0
MergesLow o e q = AreLow o.node.agent e q × (says_clock o.done.answer ≡ false)

merged-low : (m : IdealNode) (s : PushPull) (join : Bool) (e q : ℕ) → AreLow m.agent e q → MergesLow (merges_heard m (events_of s.slots) (planned m.agent (hear m.agent s join))) (rising (max e s.event_clock) (events_of s.slots)) (max q s.query_clock)
merged-low m s join e q low = by (planned m.agent (hear m.agent s join)).answer
  where
    heard : AreLow (planned m.agent (hear m.agent s join)).agent (max e s.event_clock) (max q s.query_clock)
    heard = heard-low m.agent s join e q low

    failed : (b : Bool) → says_clock (cond b (lines.Refused refusals.SinkError) lines.Merged) ≡ false
    failed true = refl
    failed false = refl

    by : (r : Result (Unit {0}) MergeError) → MergesLow (merges_heard m (events_of s.slots) (record { agent = (planned m.agent (hear m.agent s join)).agent; answer = r })) (rising (max e s.event_clock) (events_of s.slots)) (max q s.query_clock)
    by (Ok done) =
        let agent : IdealAgent = (planned m.agent (hear m.agent s join)).agent in
        (merges-low (events_of s.slots) agent (max e s.event_clock) (max q s.query_clock) heard, failed (merges_events (events_of s.slots) agent).failed)
    by (Err error) = (let up = rising-up (max e s.event_clock) (events_of s.slots) in (omega (arith, heard.0, up), heard.1), refl)

merge-low : (m : IdealNode) (number : ℕ) (join : Bool) (e q : ℕ) (f : Option MergeError) (r : Result Message WireError) → AreLow m.agent e q
    → MergesLow (merges_as f m join r) (clock_told e (acts.Merge number join) r) (query_clock_told q (acts.Merge number join) r)
merge-low m number join e q None (Ok (push_pull s)) low = merged-low m s join e q low
merge-low m number join e q (Some error) r low = (told-low m.agent e q (acts.Merge number join) r low, refl)
merge-low m number join e q None _ low = (low, refl)

merges_given-low : (m : IdealNode) (a number : ℕ) (join : Bool) (e q : ℕ) (given : Option (List ℕ)) → AreLow m.agent e q → (let o = merges_given m join given in AreShown o.node.agent e q (Of a (acts.Merge number join)) given o.done.answer)
merges_given-low m a number join e q None low = low
merges_given-low m a number join e q (Some packet) low =
    let o : Applied = merges_given m join (Some packet) in
    let h = merge-low m number join e q (merge_refusal m.agent.snapshot (decoded packet)) (decoded packet) low in
    silent (merges_given m join (Some packet)).node.agent e q (Of a (acts.Merge number join)) (Some packet) (merges_given m join (Some packet)).done.answer h.0 h.1

-- ---- the other acts

fired-low : (i : IdealAgent) (action : Action) (given : Option (List ℕ)) (e q : ℕ) (what : EventBody) (coalesce : Bool) (r : Option FireError) → AreLow i e q
    → (let step = planned i (fired_as r i what coalesce) in AreShown step.agent e q action given (fire_gives step.answer).answer)
fired-low i action given e q what coalesce (Some error) low = stays i e q action given (fire_gives (Err error)).answer low refl
fired-low i action given e q what coalesce None low =
    let up = given-up e q action given in
    kept-or-failed (λ o. AreShown o.agent e q action given (fire_gives o.answer).answer) i (fired_as None i what coalesce) (omega (arith, low.0), omega (arith, low.1, up.1))
    (λ d. stays i e q action given (lines.Refused refusals.SinkError) low refl)

query_fired-low : (i : IdealAgent) (action : Action) (given : Option (List ℕ)) (tags : Bool) (now e q : ℕ) (x : Query) (r : Option QueryError) → AreLow i e q
    → (let step = planned i (query_fired_as tags r i now x) in AreShown step.agent e q action given (query_gives step.answer).answer)
query_fired-low i action given tags now e q x (Some error) low = stays i e q action given (query_gives (Err error)).answer low refl
query_fired-low i action given tags now e q x None low =
    let up = given-up e q action given in
    kept-or-failed (λ o. AreShown o.agent e q action given (query_gives o.answer).answer) i (query_fired_as tags None i now x) (omega (arith, low.0, up.0), omega (arith, low.1))
    (λ d. stays i e q action given (lines.Refused refusals.SinkError) low refl)

pub state-silent : (r : Result (List ℕ) PushPullError) → says_clock (state_gives r).answer ≡ false
state-silent (Ok packet) = refl
state-silent (Err error) = refl

responds-low : (m : IdealNode) (action : Action) (given : Option (List ℕ)) (e q number now : ℕ) (payload : List ℕ) (h : Option (Option DeliveredQuery)) → AreLow m.agent e q → (let o = responds m number h now payload in AreShown o.node.agent e q action given o.done.answer)
responds-low m action given e q number now payload None low = stays m.agent e q action given (lines.Refused refusals.NoQuery) low refl
responds-low m action given e q number now payload (Some None) low = stays m.agent e q action given (lines.Refused refusals.NoQuery) low refl
responds-low m action given e q number now payload (Some (Some h)) low = by (respond_error h now payload)
  where
    by : (r : Option RespondError) → (let o = responds_as r m number h payload in AreShown o.node.agent e q action given o.done.answer)
    by (Some error) = stays m.agent e q action given (responds_as (Some error) m number h payload).done.answer low refl
    by None = stays m.agent e q action given lines.Replied low refl

-- a save or a compaction
append_line-low : (i : IdealAgent) (action : Action) (given : Option (List ℕ)) (e q : ℕ) (says : Answer) (call : Call (Result (Unit {0}) AppendLineError)) → says_clock says ≡ false → AreLow (planned i call).agent e q
    → (let step = planned i call in AreShown step.agent e q action given (append_line_gives says step.answer).answer)
append_line-low i action given e q says call on low = stays (planned i call).agent e q action given (append_line_gives says (planned i call).answer).answer low (by (planned i call).answer)
  where
    by : (r : Result (Unit {0}) AppendLineError) → says_clock (append_line_gives says r).answer ≡ false
    by (Ok done) = on
    by (Err error) = refl

saves-low : (i : IdealAgent) (e q : ℕ) → AreLow i e q → AreLow (planned i (save i)).agent e q
saves-low i e q low = by i.snapshot.stopped
  where
    by : (b : Bool) → AreLow (planned i (cond b (answers i (Err notes.Stopped)) (saving i))).agent e q
    by true = low
    by false = kept-or-failed (λ o. AreLow o.agent e q) i (saving i) low (λ d. low)

compacts-low : (i : IdealAgent) (e q : ℕ) → AreLow i e q → AreLow (planned i (compact i)).agent e q
compacts-low i e q low = by i.snapshot.stopped
  where
    by : (b : Bool) → AreLow (planned i (cond b (answers i (Err notes.Stopped)) (compacting i))).agent e q
    by true = low
    by false = kept-or-failed (λ o. AreLow o.agent e q) i (compacting i) low (λ d. low)

-- ---- each act

pub clocks-apply : (m : IdealNode) (sent : List (List ℕ)) (a e q : ℕ) (act : Act) → AreLow m.agent e q → (let o = apply m sent act in AreShown o.node.agent e q (Of a act) (given_by sent act) o.done.answer)
clocks-apply m sent a e q (acts.Fire name payload coalesce) low =
    fired-low m.agent (Of a (acts.Fire name payload coalesce)) None e q (event_of name payload) coalesce (fire_error m.agent (event_of name payload) coalesce) low
clocks-apply m sent a e q (acts.Deliver number now) low = delivers-low m a number now e q (slice_get sent number) low
clocks-apply m sent a e q acts.State low = let r = send_state (view_of m.agent) [] [] in stays m.agent e q (Of a acts.State) None (state_gives r).answer low (state-silent r)
clocks-apply m sent a e q (acts.Merge number join) low = merges_given-low m a number join e q (slice_get sent number) low
clocks-apply m sent a e q (acts.Query n) low =
    query_fired-low m.agent (Of a (acts.Query n)) None n.params.tags_pass n.moment e q (query_at m.agent.queries.clock m.agent.config.name n.id n.name n.payload n.params) (query_error m.agent n.id n.name n.payload n.params) low
clocks-apply m sent a e q (acts.Respond number now payload) low = responds-low m (Of a (acts.Respond number now payload)) None e q number now payload (slice_get m.handed number) low
clocks-apply m sent a e q (acts.Restart tail) low = (omega arith, omega arith)
clocks-apply m sent a e q (acts.Break call n) low = low
clocks-apply m sent a e q (acts.Close now) low = low
clocks-apply m sent a e q acts.Save low = append_line-low m.agent (Of a acts.Save) None e q lines.Saved (save m.agent) refl (saves-low m.agent e q low)
clocks-apply m sent a e q acts.Compact low = append_line-low m.agent (Of a acts.Compact) None e q lines.Compacted (compact m.agent) refl (compacts-low m.agent e q low)
