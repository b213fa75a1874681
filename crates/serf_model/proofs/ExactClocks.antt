-- While an agent isn't stopped, its clocks, for events and for queries, are exactly those that its turns show.
use Rattle.serf_model.proofs.Names.{arith, restarted_by, opened, fresh_device, unopened, first_node, Config, Bool, Err, List, None, Ok, Option, Result, Some, [], ap, cond, false, refl, sym, true, true≢false, ℕ, ◌-◌, ◌∙◌, ◌∷◌, ◌≡◌, max, slice_get, observed, decoded, Message, PushPull, Query, QueryResponse, foreign, push_pull, query, query_response, user_event, WireError, EventBody, AppendLineError, event_of, TimedEntry, Call, Step, answers, planned, admission, fire_error, fired_as, received_as, written_event, DeliveredQuery, IdealAgent, answer_ignore_reason, fired_query_at, counts_where, is_ack, is_full, query_admission, query_at, query_error, query_fired_as, query_received_as, written_query, respond_error, response_received_as, response_received_at, receive_read, compact, events_of, hear, heard_by, merge_refusal, receive_one, save, send_state, written_min_line, view_of, OpenQuery, FireError, MergeError, Outcome, QueryError, Reason, ReceiveError, RespondError, Applied, IdealNode, Merged, apply, delivers, fire_gives, merges_as, merges_events, merges_given, merges_heard, merges_on, append_line_gives, query_gives, receive_gives, responds, responds_as, state_gives, clock_given, clock_shown, clock_told, query_clock_given, query_clock_shown, query_clock_told, given_by, Act, Action, Of, Answer}
use Rattle.serf_agent.specs.declared.outcome.MergeError.TheVariants as merges
use Rattle.serf_agent.specs.declared.outcome.ReceiveError.TheVariants as receives
use Rattle.serf_snapshot.specs.declared.kind.ClockKind.TheVariants as kinds
use Rattle.serf_snapshot.specs.declared.snapshot.AppendLineError.TheVariants as notes
use Rattle.serf_model.specs.declared.action.Act.TheVariants as acts
use Rattle.serf_model.specs.declared.line.Answer.TheVariants as lines
use Rattle.serf_model.specs.declared.line.Refusal.TheVariants as refusals
use Rattle.serf_model.proofs.CallsKept.{kept-or-failed}
use Rattle.serf_model.proofs.ClockShown.{receive-silent, rising, says_clock, state-silent}
use Rattle.serf_model.proofs.InvariantKept.{compacting, saving, stopped-noted}

-- if the agent isn't stopped, its clocks are these
abbrev pub AreExact : IdealAgent → ℕ → ℕ → Type 0
AreExact i e q = i.snapshot.stopped ≡ false → (i.events.clock ≡ e) × (i.queries.clock ≡ q)

-- the same after what a turn shows has raised the two numbers
abbrev pub AreExactlyShown : IdealAgent → ℕ → ℕ → Action → Option (List ℕ) → Answer → Type 0
AreExactlyShown i e q action given answer = AreExact i (clock_shown e action given answer) (query_clock_shown q action given answer)

-- nothing is said of an agent that is stopped
stopped-exact : (i : IdealAgent) (e q : ℕ) → i.snapshot.stopped ≡ true → AreExact i e q
stopped-exact i e q stopped = λ runs. absurd (true≢false (sym stopped ∙ runs))

-- if an answer contains no clock, the clocks are what the given packet raises them to
silent : (i : IdealAgent) (e q : ℕ) (action : Action) (given : Option (List ℕ)) (answer : Answer) → AreExact i (clock_given e action given) (query_clock_given q action given) → says_clock answer ≡ false → AreExactlyShown i e q action given answer
silent i e q action given (lines.Restarted member_clock event_clock query_clock) exact on = absurd (cc on)
silent i e q action given (lines.Fired t) exact on = absurd (cc on)
silent i e q action given (lines.Queried t) exact on = absurd (cc on)
silent i e q action given _ exact on = exact

-- ---- what packets contain

received-exact : (i : IdealAgent) (t e q : ℕ) (what : EventBody) (coalesce : Bool) (r : Option Reason) → AreExact i e q → AreExact (planned i (received_as r i t what coalesce)).agent (observed e t) q
received-exact i t e q what coalesce (Some reason) exact = λ runs. let same = exact runs in (ap (λ (n : ℕ). observed n t) same.0, same.1)
received-exact i t e q what coalesce None exact =
    kept-or-failed (λ o. AreExact o.agent (observed e t) q) i (received_as None i t what coalesce)
    (λ runs. let same = exact (sym (stopped-noted kinds.Event t (written_event i.config t what) i.snapshot) ∙ runs) in (ap (λ (n : ℕ). observed n t) same.0, same.1)) (λ d runs. absurd (true≢false runs))

query-exact : (i : IdealAgent) (now e q : ℕ) (x : Query) (r : Option Reason) → AreExact i e q → AreExact (planned i (query_received_as false r i now x)).agent e (observed q x.time)
query-exact i now e q x (Some reason) exact = λ runs. let same = exact runs in (same.0, ap (λ (n : ℕ). observed n x.time) same.1)
query-exact i now e q x None exact =
    kept-or-failed (λ o. AreExact o.agent e (observed q x.time)) i (query_received_as false None i now x)
    (λ runs. let same = exact (sym (stopped-noted kinds.Query x.time (written_query i.config x.time x.id) i.snapshot) ∙ runs) in (same.0, ap (λ (n : ℕ). observed n x.time) same.1)) (λ d runs. absurd (true≢false runs))

response-exact : (i : IdealAgent) (now e q : ℕ) (r : QueryResponse) (o : Option OpenQuery) → AreExact i e q → AreExact (planned i (response_received_at o i now r)).agent e q
response-exact i now e q r None exact = exact
response-exact i now e q r (Some x) exact = by (answer_ignore_reason now r x)
  where
    full : (b : Bool) → AreExact (planned i (counts_where b (is_ack r) i r x)).agent e q
    full true = exact
    full false = exact

    by : (reason : Option Reason) → AreExact (planned i (response_received_as reason i r x)).agent e q
    by (Some reason) = exact
    by None = full (is_full i.config.responders r x)

read-exact : (i : IdealAgent) (number now e q : ℕ) (r : Result Message WireError) → AreExact i e q → AreExact (planned i (receive_read false i now r)).agent (clock_told e (acts.Deliver number now) r) (query_clock_told q (acts.Deliver number now) r)
read-exact i number now e q (Ok (user_event x)) exact = received-exact i x.time e q (event_of x.name x.payload) x.coalesce (admission i x.time (event_of x.name x.payload)) exact
read-exact i number now e q (Ok (query x)) exact = query-exact i now e q x (query_admission i x.time x.id) exact
read-exact i number now e q (Ok (query_response r)) exact = response-exact i now e q r (fired_query_at r.time i.fired_queries) exact
read-exact i number now e q (Ok (push_pull m)) exact = exact
read-exact i number now e q (Ok (foreign kind)) exact = exact
read-exact i number now e q (Err error) exact = exact

delivers-exact : (m : IdealNode) (a number now e q : ℕ) (given : Option (List ℕ)) → AreExact m.agent e q → (let o = delivers m now given in AreExactlyShown o.node.agent e q (Of a (acts.Deliver number now)) given o.done.answer)
delivers-exact m a number now e q None exact = exact
delivers-exact m a number now e q (Some packet) exact = by m.agent.snapshot.stopped refl
  where
    at : (call : Call (Result Outcome ReceiveError)) → AreExact (planned m.agent call).agent (clock_told e (acts.Deliver number now) (decoded packet)) (query_clock_told q (acts.Deliver number now) (decoded packet))
        → AreExactlyShown (planned m.agent call).agent e q (Of a (acts.Deliver number now)) (Some packet) (receive_gives packet (planned m.agent call).answer).answer
    at call told = silent (planned m.agent call).agent e q (Of a (acts.Deliver number now)) (Some packet) (receive_gives packet (planned m.agent call).answer).answer told (receive-silent packet (planned m.agent call).answer)

    by : (b : Bool) → m.agent.snapshot.stopped ≡ b → (let call = cond b (answers m.agent (Err receives.Stopped)) (receive_read false m.agent now (decoded packet)) in
        AreExactlyShown (planned m.agent call).agent e q (Of a (acts.Deliver number now)) (Some packet) (receive_gives packet (planned m.agent call).answer).answer)
    by true is = at (answers m.agent (Err receives.Stopped)) (stopped-exact m.agent (clock_told e (acts.Deliver number now) (decoded packet)) (query_clock_told q (acts.Deliver number now) (decoded packet)) is)
    by false is = at (receive_read false m.agent now (decoded packet)) (read-exact m.agent number now e q (decoded packet) exact)

-- ---- merges

-- if the sink fails at an event, the agent is stopped
failed-stops : (i : IdealAgent) (t : ℕ) (what : EventBody) (coalesce : Bool) (r : Option Reason) (error : ReceiveError) → (planned i (received_as r i t what coalesce)).answer ≡ Err error → (planned i (received_as r i t what coalesce)).agent.snapshot.stopped ≡ true
failed-stops i t what coalesce (Some reason) error is = absurd (cc is)
failed-stops i t what coalesce None error is = kept-or-failed (λ o. o.answer ≡ Err error → o.agent.snapshot.stopped ≡ true) i (received_as None i t what coalesce) (λ is. absurd (cc is)) (λ d is. refl) is

on-exact : (o : Step (Result Outcome ReceiveError)) (rest : IdealAgent → Merged) (e q : ℕ) → ((error : ReceiveError) → o.answer ≡ Err error → o.agent.snapshot.stopped ≡ true) → AreExact (rest o.agent).agent e q → AreExact (merges_on o rest).agent e q
on-exact o rest e q stops more = by o.answer refl
  where
    by : (r : Result Outcome ReceiveError) → o.answer ≡ r → AreExact (merges_on (record { agent = o.agent; answer = r }) rest).agent e q
    by (Ok outcome) is = more
    by (Err error) is = stopped-exact o.agent e q (stops error is)

merges-exact : (es : List (TimedEntry EventBody)) (i : IdealAgent) (e q : ℕ) → AreExact i e q → AreExact (merges_events es i).agent (rising e es) q
merges-exact [] i e q exact = exact
merges-exact (x ∷ es) i e q exact =
    on-exact (planned i (receive_one i x)) (merges_events es) (rising (observed e x.time) es) q (λ error is. failed-stops i x.time x.key false (admission i x.time x.key) error is)
    (merges-exact es (planned i (receive_one i x)).agent (observed e x.time) q (received-exact i x.time e q x.key false (admission i x.time x.key) exact))

heard-exact : (i : IdealAgent) (s : PushPull) (join : Bool) (e q : ℕ) → AreExact i e q → AreExact (planned i (hear i s join)).agent (max e s.event_clock) (max q s.query_clock)
heard-exact i s join e q exact = by (written_min_line i.config s join)
  where
    raised : i.snapshot.stopped ≡ false → (max i.events.clock s.event_clock ≡ max e s.event_clock) × (max i.queries.clock s.query_clock ≡ max q s.query_clock)
    raised runs = let same = exact runs in (ap (λ (n : ℕ). max n s.event_clock) same.0, ap (λ (n : ℕ). max n s.query_clock) same.1)

    by : (line : Option (List ℕ)) → AreExact (planned i (heard_by line i s join)).agent (max e s.event_clock) (max q s.query_clock)
    by None = raised
    by (Some line) = kept-or-failed (λ o. AreExact o.agent (max e s.event_clock) (max q s.query_clock)) i (heard_by (Some line) i s join) (λ runs. raised runs) (λ d runs. absurd (true≢false runs))

hear-stops : (i : IdealAgent) (s : PushPull) (join : Bool) (error : MergeError) → (planned i (hear i s join)).answer ≡ Err error → (planned i (hear i s join)).agent.snapshot.stopped ≡ true
hear-stops i s join error is = by (written_min_line i.config s join) is
  where
    by : (line : Option (List ℕ)) → (planned i (heard_by line i s join)).answer ≡ Err error → (planned i (heard_by line i s join)).agent.snapshot.stopped ≡ true
    by None is = absurd (cc is)
    by (Some line) is = kept-or-failed (λ o. o.answer ≡ Err error → o.agent.snapshot.stopped ≡ true) i (heard_by (Some line) i s join) (λ is. absurd (cc is)) (λ d is. refl) is

-- the clocks after a merge, and that its answer contains none
abbrev MergesExactly : Applied → ℕ → ℕ → Type 0
MergesExactly o e q = AreExact o.node.agent e q × (says_clock o.done.answer ≡ false)

merged-exact : (m : IdealNode) (s : PushPull) (join : Bool) (e q : ℕ) → AreExact m.agent e q
    → MergesExactly (merges_heard m (events_of s.slots) (planned m.agent (hear m.agent s join))) (rising (max e s.event_clock) (events_of s.slots)) (max q s.query_clock)
merged-exact m s join e q exact = by (planned m.agent (hear m.agent s join)).answer refl
  where
    failed : (b : Bool) → says_clock (cond b (lines.Refused refusals.SinkError) lines.Merged) ≡ false
    failed true = refl
    failed false = refl

    by : (r : Result (Unit {0}) MergeError) → (planned m.agent (hear m.agent s join)).answer ≡ r
        → MergesExactly (merges_heard m (events_of s.slots) (record { agent = (planned m.agent (hear m.agent s join)).agent; answer = r })) (rising (max e s.event_clock) (events_of s.slots)) (max q s.query_clock)
    by (Ok done) is =
        let agent : IdealAgent = (planned m.agent (hear m.agent s join)).agent in
        (merges-exact (events_of s.slots) agent (max e s.event_clock) (max q s.query_clock) (heard-exact m.agent s join e q exact), failed (merges_events (events_of s.slots) agent).failed)
    by (Err error) is = (stopped-exact (planned m.agent (hear m.agent s join)).agent (rising (max e s.event_clock) (events_of s.slots)) (max q s.query_clock) (hear-stops m.agent s join error is), refl)

merge-exact : (m : IdealNode) (number : ℕ) (join : Bool) (e q : ℕ) (f : Option MergeError) (r : Result Message WireError) → merge_refusal m.agent.snapshot r ≡ f → AreExact m.agent e q
    → MergesExactly (merges_as f m join r) (clock_told e (acts.Merge number join) r) (query_clock_told q (acts.Merge number join) r)
merge-exact m number join e q None (Ok (push_pull s)) is exact = merged-exact m s join e q exact
merge-exact m number join e q (Some error) (Ok (push_pull s)) is exact = (λ runs. absurd (by m.agent.snapshot.stopped runs is), refl)
  where
    by : (b : Bool) → b ≡ false → cond b (Some merges.Stopped) None ≡ Some error → ⊥
    by true runs is = true≢false runs
    by false runs is = cc is
merge-exact m number join e q (Some error) _ is exact = (exact, refl)
merge-exact m number join e q None _ is exact = (exact, refl)

merges_given-exact : (m : IdealNode) (a number : ℕ) (join : Bool) (e q : ℕ) (given : Option (List ℕ)) → AreExact m.agent e q → (let o = merges_given m join given in AreExactlyShown o.node.agent e q (Of a (acts.Merge number join)) given o.done.answer)
merges_given-exact m a number join e q None exact = exact
merges_given-exact m a number join e q (Some packet) exact =
    let h = merge-exact m number join e q (merge_refusal m.agent.snapshot (decoded packet)) (decoded packet) refl exact in
    silent (merges_given m join (Some packet)).node.agent e q (Of a (acts.Merge number join)) (Some packet) (merges_given m join (Some packet)).done.answer h.0 h.1

-- ---- the other acts

fired-exact : (i : IdealAgent) (a : ℕ) (act : Act) (e q : ℕ) (what : EventBody) (coalesce : Bool) (r : Option FireError) → AreExact i e q
    → (let step = planned i (fired_as r i what coalesce) in AreExactlyShown step.agent e q (Of a act) None (fire_gives step.answer).answer)
fired-exact i a act e q what coalesce (Some error) exact = exact
fired-exact i a act e q what coalesce None exact =
    kept-or-failed (λ o. AreExactlyShown o.agent e q (Of a act) None (fire_gives o.answer).answer) i (fired_as None i what coalesce)
    (λ runs. let same = exact (sym (stopped-noted kinds.Event i.events.clock (written_event i.config i.events.clock what) i.snapshot) ∙ runs) in (ap (λ (n : ℕ). observed n i.events.clock) same.0, same.1)) (λ d runs. absurd (true≢false runs))

query_fired-exact : (i : IdealAgent) (a : ℕ) (act : Act) (tags : Bool) (now e q : ℕ) (x : Query) (r : Option QueryError) → AreExact i e q
    → (let step = planned i (query_fired_as tags r i now x) in AreExactlyShown step.agent e q (Of a act) None (query_gives step.answer).answer)
query_fired-exact i a act tags now e q x (Some error) exact = exact
query_fired-exact i a act tags now e q x None exact =
    kept-or-failed (λ o. AreExactlyShown o.agent e q (Of a act) None (query_gives o.answer).answer) i (query_fired_as tags None i now x)
    (λ runs. let same = exact (sym (stopped-noted kinds.Query x.time (written_query i.config x.time x.id) i.snapshot) ∙ runs) in (same.0, ap (λ (n : ℕ). observed n x.time) same.1)) (λ d runs. absurd (true≢false runs))

responds-exact : (m : IdealNode) (a : ℕ) (act : Act) (e q number now : ℕ) (payload : List ℕ) (h : Option (Option DeliveredQuery)) → AreExact m.agent e q → (let o = responds m number h now payload in AreExactlyShown o.node.agent e q (Of a act) None o.done.answer)
responds-exact m a act e q number now payload None exact = exact
responds-exact m a act e q number now payload (Some None) exact = exact
responds-exact m a act e q number now payload (Some (Some h)) exact = by (respond_error h now payload)
  where
    by : (r : Option RespondError) → (let o = responds_as r m number h payload in AreExactlyShown o.node.agent e q (Of a act) None o.done.answer)
    by (Some error) = exact
    by None = exact

append_line-silent : (says : Answer) (r : Result (Unit {0}) AppendLineError) → says_clock says ≡ false → says_clock (append_line_gives says r).answer ≡ false
append_line-silent says (Ok done) on = on
append_line-silent says (Err error) on = refl

saves-exact : (i : IdealAgent) (e q : ℕ) → AreExact i e q → AreExact (planned i (save i)).agent e q
saves-exact i e q exact = by i.snapshot.stopped
  where
    by : (b : Bool) → AreExact (planned i (cond b (answers i (Err notes.Stopped)) (saving i))).agent e q
    by true = exact
    by false = kept-or-failed (λ o. AreExact o.agent e q) i (saving i) (λ runs. exact (sym (stopped-noted kinds.Member (i.member_clock - 1) None i.snapshot) ∙ runs)) (λ d runs. absurd (true≢false runs))

compacts-exact : (i : IdealAgent) (e q : ℕ) → AreExact i e q → AreExact (planned i (compact i)).agent e q
compacts-exact i e q exact = by i.snapshot.stopped
  where
    by : (b : Bool) → AreExact (planned i (cond b (answers i (Err notes.Stopped)) (compacting i))).agent e q
    by true = exact
    by false = kept-or-failed (λ o. AreExact o.agent e q) i (compacting i) exact (λ d runs. absurd (true≢false runs))

-- ---- each act

pub exact-apply : (m : IdealNode) (sent : List (List ℕ)) (a e q : ℕ) (act : Act) → AreExact m.agent e q → (let o = apply m sent act in AreExactlyShown o.node.agent e q (Of a act) (given_by sent act) o.done.answer)
exact-apply m sent a e q (acts.Fire name payload coalesce) exact = fired-exact m.agent a (acts.Fire name payload coalesce) e q (event_of name payload) coalesce (fire_error m.agent (event_of name payload) coalesce) exact
exact-apply m sent a e q (acts.Deliver number now) exact = delivers-exact m a number now e q (slice_get sent number) exact
exact-apply m sent a e q acts.State exact = let r = send_state (view_of m.agent) [] [] in silent m.agent e q (Of a acts.State) None (state_gives r).answer exact (state-silent r)
exact-apply m sent a e q (acts.Merge number join) exact = merges_given-exact m a number join e q (slice_get sent number) exact
exact-apply m sent a e q (acts.Query n) exact =
    query_fired-exact m.agent a (acts.Query n) n.params.tags_pass n.moment e q (query_at m.agent.queries.clock m.agent.config.name n.id n.name n.payload n.params) (query_error m.agent n.id n.name n.payload n.params) exact
exact-apply m sent a e q (acts.Respond number now payload) exact = responds-exact m a (acts.Respond number now payload) e q number now payload (slice_get m.handed number) exact
exact-apply m sent a e q (acts.Restart tail) exact = λ runs. (refl, refl)
exact-apply m sent a e q (acts.Break call n) exact = exact
exact-apply m sent a e q (acts.Close now) exact = exact
exact-apply m sent a e q acts.Save exact =
    silent (planned m.agent (save m.agent)).agent e q (Of a acts.Save) None (append_line_gives lines.Saved (planned m.agent (save m.agent)).answer).answer (saves-exact m.agent e q exact) (append_line-silent lines.Saved (planned m.agent (save m.agent)).answer refl)
exact-apply m sent a e q acts.Compact exact =
    silent (planned m.agent (compact m.agent)).agent e q (Of a acts.Compact) None (append_line_gives lines.Compacted (planned m.agent (compact m.agent)).answer).answer (compacts-exact m.agent e q exact) (append_line-silent lines.Compacted (planned m.agent (compact m.agent)).answer refl)

-- the clocks of a first life
pub first-exact : (config : Config) → AreExact (first_node config).agent 1 1
first-exact config = by config.keep_events
  where
    by : (b : Bool) → AreExact (restarted_by b [] (opened [] (fresh_device [])) (unopened config (opened [] (fresh_device [])))) 1 1
    by true = λ runs. (omega arith, omega arith)
    by false = λ runs. (omega arith, omega arith)
