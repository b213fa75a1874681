-- For each promise, a short list of turns that breaks it, and the proof that the promise refuses this list. If somebody
-- changes a definition so that it promises nothing, this file isn't proved any more.
use Rattle.serf_model.proofs.Names.{Bool, List, None, Ok, Option, Some, [], ap, arith, cond, false, inl, inr, length, map, refl, subst, sym, true, ℕ, ◌++◌, ◌+◌, ◌<◌, ◌∙◌, ◌∷◌, ◌≡◌, ◌≢◌, ◌≤◌, eq-eqb, All-cons, All-nil, slice_index_or, option_to_list, All, AllPairs, Contains, not, pos, slice_get, observed, decoded, Message, PushPull, Query, QueryResponse, UserEvent, push_pull, query, query_response, user_event, WireError, EventBody, event_of, TimedEntry, count_at, texts_len, HasMet, IsMet, deadline_of, is_ack, query_at, events_of, of_life, Config, OpenQuery, QueryParams, AckedOnce, AnswersMade, CountedInTime, CountedOnce, CountedSent, HoldsCounted, HoldsSent, IsAwaited, IsMade, IsSentTo, OpenQueriesHold, OpenQueriesSent, RepliedOnce, acked, answer_brought, injected, life_of, query_answered, replied, reply_deadline, EventsBounded, QueriesBounded, WindowsBounded, IdealNode, HandsOutEntered, HandsOutGiven, MessagesFired, NewIsHanded, OnlyToActor, messages_fired, query_message, IsToCome, QueriesKept, clock_told, events_shown, min_written, queries_shown, query_clock_told, query_min_written, Held, HeldOrTailed, Later, Once, OnlyFired, OnlyFiredOrTailed, QueryFired, QueryHandedOnce, QueryLater, QueryOnce, WasFired, WasFiredOrTailed, QueryOnlyFired, WasQueried, actor_keeps, keeps, tail_events, tailed_by, tailed_in, tails_to, Turn, actor_of, events_brought, query_brought, Action, Of, Answer, EventLine, QueryLine}
use Rattle.std.specs.Prelude.{Result, filter}
use Rattle.serf_agent.specs.declared.outcome.Reason.TheVariants as reasons
use Rattle.serf_model.specs.declared.action.Act.TheVariants as acts
use Rattle.serf_model.specs.declared.line.Answer.TheVariants as answers
use Rattle.serf_model.specs.NotMissed.{Kept}

-- ---- turns

-- a turn that is given no packet and sends none
abbrev pub turn : Action → Answer → List EventLine → Option QueryLine → Turn
turn action answer events handed = record { action = action; line = record { answer = answer; sent = []; events = events; handed = handed }; given = None; packets = [] }

-- a packet is delivered to an agent
abbrev pub delivery : ℕ → List ℕ → Answer → Option QueryLine → Turn
delivery a packet answer handed = record { action = Of a (acts.Deliver 0 0); line = record { answer = answer; sent = []; events = []; handed = handed }; given = Some packet; packets = [] }

-- agent 0 merges a state, but not at a join
abbrev pub merging : List ℕ → Turn
merging packet = record { action = Of 0 (acts.Merge 0 false); line = record { answer = answers.Merged; sent = []; events = []; handed = None }; given = Some packet; packets = [] }

-- agent 0 sends a packet, whatever its action is
abbrev pub sending : Action → Answer → List ℕ → Turn
sending action answer packet = record { action = action; line = record { answer = answer; sent = 0 ∷ []; events = []; handed = None }; given = None; packets = packet ∷ [] }

-- an agent is handed an event of this time whose texts are empty
abbrev pub handed_event : ℕ → ℕ → EventLine
handed_event a t = record { agent = a; time = t; name = []; payload = []; coalesce = false }

abbrev pub handed_query : ℕ → ℕ → ℕ → List ℕ → QueryLine
handed_query a t id name = record { agent = a; index = 0; time = t; id = id; name = name; payload = [] }

-- agent 0 fires a query
abbrev asking : ℕ → List ℕ → QueryParams → Action
asking id name params = Of 0 (acts.Query record { moment = 0; id = id; name = name; payload = []; params = params })

abbrev firing : QueryParams → ℕ → ℕ → Turn
firing params id t = turn (asking id [] params) (answers.Queried t) [] None

pub in-none : {X : Type 0} (x : X) → Contains [] x → ⊥
in-none x h = absurd (let lt = h.1 in omega arith)

-- ---- events

-- an agent is handed the same event in two turns
once-refuses : (let t = turn (Of 0 (acts.Close 0)) (answers.Closed 0) (handed_event 0 1 ∷ []) None in Once (t ∷ t ∷ [])) → ⊥
once-refuses h = h 0 0 1 (record { time = 1; key = event_of [] [] }) (omega arith) (omega arith) refl

-- an event is handed out that no agent fired
fired-refuses : OnlyFired (turn (Of 0 (acts.Close 0)) (answers.Closed 0) (handed_event 0 1 ∷ []) None ∷ []) → ⊥
fired-refuses h = elim (h [] (turn (Of 0 (acts.Close 0)) (answers.Closed 0) (handed_event 0 1 ∷ []) None) [] refl 0 (handed_event 0 1) (omega arith)) [
  | inl fired ↦ in-none _ fired
  | inr brought ↦ in-none _ brought
]

-- an agent that was handed an event with time 5 fires one with time 3
later-refuses : Later (turn (Of 0 (acts.Close 0)) (answers.Closed 0) (handed_event 0 5 ∷ []) None ∷ turn (Of 0 (acts.Fire [] [] false)) (answers.Fired 3) [] None ∷ []) → ⊥
later-refuses h =
    let before : Turn = turn (Of 0 (acts.Close 0)) (answers.Closed 0) (handed_event 0 5 ∷ []) None in
    let less : 5 < 3 = h (before ∷ []) (turn (Of 0 (acts.Fire [] [] false)) (answers.Fired 3) [] None) [] refl 0 3 refl refl 0 (record { time = 5; key = event_of [] [] }) (omega arith) in
    absurd (omega arith)

-- an event that the agent was never handed is ignored as seen
seen-refuses : (packet : List ℕ) (e : UserEvent) → decoded packet ≡ Ok (user_event e) → Held (delivery 0 packet (answers.Ignored reasons.Seen) None ∷ []) → ⊥
seen-refuses packet e reads h = in-none _ (h.1 [] (delivery 0 packet (answers.Ignored reasons.Seen) None) [] refl 0 packet e refl refl refl reads)

-- a packet carries an event that no agent fired
carries-refuses : (packet : List ℕ) (e : UserEvent) → decoded packet ≡ Ok (user_event e) → Held (sending (Of 0 acts.State) answers.State packet ∷ []) → ⊥
carries-refuses packet e reads h =
    let turn : Turn = sending (Of 0 acts.State) answers.State packet in
    let all : All (WasFired (turn ∷ [])) (events_brought (decoded packet)) = h.0 [] turn [] refl 0 packet (omega arith) in
    let found : WasFired (turn ∷ []) (record { time = e.time; key = event_of e.name e.payload }) = subst (λ r. All (WasFired (turn ∷ [])) (events_brought r)) reads all 0 (record { time = e.time; key = event_of e.name e.payload }) (omega arith) in
    elim found [
      | inl fired ↦ in-none _ fired
      | inr brought ↦ in-none _ brought
    ]

-- a turn that opens no agent has no tail, whatever the settings are
no-tail : (configs : List Config) (turn : Turn) → tailed_by turn.action ≡ [] → tailed_in configs turn ≡ []
no-tail configs turn none = ap (λ l. cond (actor_keeps configs (actor_of turn.action)) l []) none ∙ by (actor_keeps configs (actor_of turn.action))
  where
    by : (b : Bool) → cond {A = List (TimedEntry EventBody)} b [] [] ≡ []
    by true = refl
    by false = refl

not-tailed : (configs : List Config) (turn : Turn) (e : TimedEntry EventBody) → tailed_in configs turn ≡ [] → Contains (tail_events configs (turn ∷ [])) e → ⊥
not-tailed configs turn e none h = in-none e (subst (λ (l : List (TimedEntry EventBody)). Contains l e) (ap (λ l. l ++ []) none) h)

-- an event is handed out that no agent fired and that is in no tail
tailed-refuses : (configs : List Config) → OnlyFiredOrTailed configs (turn (Of 0 (acts.Close 0)) (answers.Closed 0) (handed_event 0 1 ∷ []) None ∷ []) → ⊥
tailed-refuses configs h =
    let wrong : Turn = turn (Of 0 (acts.Close 0)) (answers.Closed 0) (handed_event 0 1 ∷ []) None in
    elim (h [] wrong [] refl 0 (handed_event 0 1) (omega arith)) [
      | inl (inl fired) ↦ in-none _ fired
      | inl (inr brought) ↦ in-none _ brought
      | inr tailed ↦ not-tailed configs wrong _ (no-tail configs wrong refl) tailed
    ]

-- an agent that keeps no events hands out what is in its tail
untold-refuses : (configs : List Config) (config : Config) (tail : List ℕ) → slice_get configs 0 ≡ Some config → config.keep_events ≡ false
    → OnlyFiredOrTailed configs (turn (Of 0 (acts.Restart tail)) (answers.Restarted 1 1 1) (handed_event 0 1 ∷ []) None ∷ []) → ⊥
untold-refuses configs config tail at none h =
    let wrong : Turn = turn (Of 0 (acts.Restart tail)) (answers.Restarted 1 1 1) (handed_event 0 1 ∷ []) None in
    let drops : tailed_in configs wrong ≡ [] = ap (λ c. cond (keeps c) (tailed_by wrong.action) []) at ∙ ap (λ b. cond b (tailed_by wrong.action) []) none in
    elim (h [] wrong [] refl 0 (handed_event 0 1) (omega arith)) [
      | inl (inl fired) ↦ in-none _ fired
      | inl (inr brought) ↦ in-none _ brought
      | inr tailed ↦ not-tailed configs wrong _ drops tailed
    ]

-- a packet carries an event that no agent fired and that is in no tail
carries_tailed-refuses : (configs : List Config) (packet : List ℕ) (e : UserEvent) → decoded packet ≡ Ok (user_event e) → HeldOrTailed configs (sending (Of 0 acts.State) answers.State packet ∷ []) → ⊥
carries_tailed-refuses configs packet e reads h =
    let wrong : Turn = sending (Of 0 acts.State) answers.State packet in
    let all : All (WasFiredOrTailed configs (wrong ∷ [])) (events_brought (decoded packet)) = h.0 [] wrong [] refl 0 packet (omega arith) in
    let found : WasFiredOrTailed configs (wrong ∷ []) (record { time = e.time; key = event_of e.name e.payload }) =
    subst (λ r. All (WasFiredOrTailed configs (wrong ∷ [])) (events_brought r)) reads all 0 (record { time = e.time; key = event_of e.name e.payload }) (omega arith) in
    elim found [
      | inl (inl fired) ↦ in-none _ fired
      | inl (inr brought) ↦ in-none _ brought
      | inr tailed ↦ not-tailed configs wrong _ (no-tail configs wrong refl) tailed
    ]

-- an agent ignores an event as seen that is only in another agent's tail
seen_tailed-refuses : (configs : List Config) (tail packet : List ℕ) (e : UserEvent) → decoded packet ≡ Ok (user_event e)
    → HeldOrTailed configs (turn (Of 1 (acts.Restart tail)) (answers.Restarted 1 1 1) [] None ∷ delivery 0 packet (answers.Ignored reasons.Seen) None ∷ []) → ⊥
seen_tailed-refuses configs tail packet e reads h =
    let before : List Turn = turn (Of 1 (acts.Restart tail)) (answers.Restarted 1 1 1) [] None ∷ [] in
    elim (h.1 before (delivery 0 packet (answers.Ignored reasons.Seen) None) [] refl 0 packet e refl refl refl reads) [
      | inl handed ↦ in-none _ handed
      | inr tailed ↦ in-none _ tailed
    ]

-- if nothing was handed out and nothing is in a tail, nothing was met
unmet : {K : Type 0} (stood : List (TimedEntry K)) (k t : ℕ) → 0 < k → ((e : TimedEntry K) → Contains stood e → ⊥) → HasMet k t [] stood → ⊥
unmet {K} stood k t some none h = by h.entries h.many h.met
  where
    by : (es : List (TimedEntry K)) → k ≤ length es → All (λ e. (e.time ≡ t) × IsMet [] stood e) es → ⊥
    by [] many met = absurd (omega (arith, some, many))
    by (x ∷ xs) many met = elim ((met 0 x (omega arith)).1) [
      | inl handed ↦ in-none x handed
      | inr tailed ↦ none x tailed
    ]

-- an agent that keeps its events was opened again, and ignores an event that is new to it and within its window
kept-refuses : (configs : List Config) (c : Config) (packet : List ℕ) (e : UserEvent) → slice_get configs 0 ≡ Some c → c.keep_events ≡ true → 0 < c.per_time → decoded packet ≡ Ok (user_event e) → 0 < e.time → texts_len (event_of e.name e.payload) ≤ 9216
    → observed 5 e.time ≤ e.time + c.event_buffer → Kept configs (turn (Of 0 (acts.Restart [])) (answers.Restarted 1 5 1) [] None ∷ delivery 0 packet (answers.Ignored reasons.BelowMinimum) None ∷ []) → ⊥
kept-refuses configs c packet e at on few reads some short young h =
    let there : Contains (events_brought (decoded packet)) entry = subst (λ r. Contains (events_brought r) entry) (sym reads) (0, omega arith, refl) in
    elim (h (restart ∷ []) ignored [] refl 0 c entry at on refl refl there come) [
      | inl found ↦ in-none entry found
      | inr (inl full) ↦ unmet (tails_to configs 0 (restart ∷ [])) c.per_time e.time few none full
      | inr (inr later) ↦ unmet (tails_to configs 0 (restart ∷ [])) (c.per_time + 1) later.0 (omega arith) none later.2
    ]
  where
    restart : Turn
    restart = turn (Of 0 (acts.Restart [])) (answers.Restarted 1 5 1) [] None

    ignored : Turn
    ignored = delivery 0 packet (answers.Ignored reasons.BelowMinimum) None

    entry : TimedEntry EventBody
    entry = record { time = e.time; key = event_of e.name e.payload }

    none : (x : TimedEntry EventBody) → Contains (tails_to configs 0 (restart ∷ [])) x → ⊥
    none x tailed = not-tailed configs restart x (no-tail configs restart refl) tailed

    unmet-by : IsMet [] (tails_to configs 0 (restart ∷ [])) entry → ⊥
    unmet-by (inl handed) = in-none entry handed
    unmet-by (inr tailed) = none entry tailed

    come : IsToCome events_shown configs 0 c (restart ∷ []) ignored entry
    come = record {
      some = some;
      short = short;
      young = subst (λ r. clock_told 5 (acts.Deliver 0 0) r ≤ e.time + c.event_buffer) (sym reads) young;
      told = All-cons (λ (t : Turn). min_written c t ≤ e.time) restart (ignored ∷ []) (omega (arith, some)) (All-cons (λ (t : Turn). min_written c t ≤ e.time) ignored [] (omega arith) (All-nil (λ (t : Turn). min_written c t ≤ e.time)));
      new = λ met. unmet-by met;
    }

-- an agent that keeps its events merges a state, and hands out none of its events
kept-refuses_state : (configs : List Config) (c : Config) (packet : List ℕ) (m : PushPull) (e : TimedEntry EventBody) → slice_get configs 0 ≡ Some c → c.keep_events ≡ true → 0 < c.per_time → decoded packet ≡ Ok (push_pull m) → Contains (events_of m.slots) e → 0 < e.time → texts_len e.key ≤ 9216
    → clock_told 1 (acts.Merge 0 false) (Ok (push_pull m)) ≤ e.time + c.event_buffer → Kept configs (merging packet ∷ []) → ⊥
kept-refuses_state configs c packet m e at on few reads carries some short young h =
    elim (h [] (merging packet) [] refl 0 c e at on refl refl (subst (λ r. Contains (events_brought r) e) (sym reads) carries) come) [
      | inl found ↦ in-none e found
      | inr (inl full) ↦ unmet [] c.per_time e.time few in-none full
      | inr (inr later) ↦ unmet [] (c.per_time + 1) later.0 (omega arith) in-none later.2
    ]
  where
    unmet-by : IsMet [] [] e → ⊥
    unmet-by (inl handed) = in-none e handed
    unmet-by (inr tailed) = in-none e tailed

    come : IsToCome events_shown configs 0 c [] (merging packet) e
    come = record {
      some = some;
      short = short;
      young = subst (λ r. clock_told 1 (acts.Merge 0 false) r ≤ e.time + c.event_buffer) (sym reads) young;
      told = All-cons (λ (t : Turn). min_written c t ≤ e.time) (merging packet) [] (omega arith) (All-nil (λ (t : Turn). min_written c t ≤ e.time));
      new = λ met. unmet-by met;
    }

-- an agent that keeps its events was opened again, and ignores a query that is new to it and within its window
queries_kept-refuses : (configs : List Config) (c : Config) (packet : List ℕ) (q : Query) → slice_get configs 0 ≡ Some c → c.keep_events ≡ true → 0 < c.per_time → decoded packet ≡ Ok (query q) → 0 < q.time → observed 5 q.time ≤ q.time + c.query_buffer
    → QueriesKept configs (turn (Of 0 (acts.Restart [])) (answers.Restarted 1 1 5) [] None ∷ delivery 0 packet (answers.Ignored reasons.BelowMinimum) None ∷ []) → ⊥
queries_kept-refuses configs c packet q at on few reads some young h =
    let there : Contains (query_brought (decoded packet)) entry = subst (λ r. Contains (query_brought r) entry) (sym reads) (0, omega arith, refl) in
    elim (h (restart ∷ []) ignored [] refl 0 c entry at on refl refl there come) [
      | inl found ↦ in-none entry found
      | inr (inl full) ↦ unmet [] c.per_time q.time few in-none full
      | inr (inr later) ↦ unmet [] (c.per_time + 1) later.0 (omega arith) in-none later.2
    ]
  where
    restart : Turn
    restart = turn (Of 0 (acts.Restart [])) (answers.Restarted 1 1 5) [] None

    ignored : Turn
    ignored = delivery 0 packet (answers.Ignored reasons.BelowMinimum) None

    entry : TimedEntry ℕ
    entry = record { time = q.time; key = q.id }

    unmet-by : IsMet [] [] entry → ⊥
    unmet-by (inl entered) = in-none entry entered
    unmet-by (inr tailed) = in-none entry tailed

    come : IsToCome queries_shown configs 0 c (restart ∷ []) ignored entry
    come = record {
      some = some;
      short = tt;
      young = subst (λ r. query_clock_told 5 (acts.Deliver 0 0) r ≤ q.time + c.query_buffer) (sym reads) young;
      told = All-cons (λ (t : Turn). query_min_written t ≤ q.time) restart (ignored ∷ []) (omega (arith, some)) (All-cons (λ (t : Turn). query_min_written t ≤ q.time) ignored [] (omega arith) (All-nil (λ (t : Turn). query_min_written t ≤ q.time)));
      new = λ met. unmet-by met;
    }

-- a turn hands out an event to an agent that doesn't act
to_actor-refuses : OnlyToActor (turn (Of 0 (acts.Fire [] [] false)) (answers.Fired 1) (handed_event 0 1 ∷ handed_event 1 1 ∷ []) None ∷ []) → ⊥
to_actor-refuses h =
    let same : Some 0 ≡ Some 1 = (h [] (turn (Of 0 (acts.Fire [] [] false)) (answers.Fired 1) (handed_event 0 1 ∷ handed_event 1 1 ∷ []) None) [] refl).0 1 (handed_event 0 1) (omega arith) in
    absurd (cc same)

-- a turn that is given no packet hands out an event that an earlier turn fired
given-refuses : HandsOutGiven (turn (Of 0 (acts.Fire [] [] false)) (answers.Fired 1) (handed_event 0 1 ∷ []) None ∷ turn (Of 1 (acts.Close 0)) (answers.Closed 0) (handed_event 1 1 ∷ []) None ∷ []) → ⊥
given-refuses h = elim (h (turn (Of 0 (acts.Fire [] [] false)) (answers.Fired 1) (handed_event 0 1 ∷ []) None ∷ []) (turn (Of 1 (acts.Close 0)) (answers.Closed 0) (handed_event 1 1 ∷ []) None) [] refl 0 (handed_event 1 1) (omega arith)) [
  | inl fired ↦ in-none _ fired
  | inr given ↦ in-none _ given
]

-- an event is new, but isn't handed out
new-refuses : (packet : List ℕ) → NewIsHanded (delivery 0 packet answers.New None ∷ []) → ⊥
new-refuses packet h = let found = h [] (delivery 0 packet answers.New None) [] refl refl in let empty = found.1 in absurd (cc empty)

-- ---- queries

-- the same query enters in two turns
query_once-refuses : (params : QueryParams) → QueryOnce (firing params 7 1 ∷ firing params 7 1 ∷ []) → ⊥
query_once-refuses params h = h 0 0 1 (record { time = 1; key = 7 }) (omega arith) (omega arith) refl

-- an agent is handed the same query in two turns
query_handed-refuses : (let t = turn (Of 0 (acts.Close 0)) (answers.Closed 0) [] (Some (handed_query 0 1 7 [])) in QueryHandedOnce (t ∷ t ∷ [])) → ⊥
query_handed-refuses h = h 0 0 1 (record { time = 1; key = 7 }) (omega arith) (omega arith) refl

-- an agent that fired a query with time 5 fires one with time 3
query_later-refuses : (params : QueryParams) → QueryLater (firing params 7 5 ∷ firing params 7 3 ∷ []) → ⊥
query_later-refuses params h =
    let less : 5 < 3 = h (firing params 7 5 ∷ []) (firing params 7 3) [] refl 0 3 refl refl 0 (record { time = 5; key = 7 }) (omega arith) in
    absurd (omega arith)

-- a query enters from a packet that was never sent
query_fired-refuses : (packet : List ℕ) → QueryFired (delivery 0 packet answers.Query None ∷ []) → ⊥
query_fired-refuses packet h = elim (h [] (delivery 0 packet answers.Query None) [] refl packet refl refl) [
  | inl fired ↦ in-none _ fired
  | inr brought ↦ in-none _ brought
]

-- a query is handed out that didn't enter: no packet arrived, and no query was fired
entered-refuses : (configs : List Config) → HandsOutEntered configs (turn (Of 1 (acts.Close 0)) (answers.Closed 0) [] (Some (handed_query 1 5 9 [])) ∷ []) → ⊥
entered-refuses configs h =
    let found = h [] (turn (Of 1 (acts.Close 0)) (answers.Closed 0) [] (Some (handed_query 1 5 9 []))) [] refl (handed_query 1 5 9 []) refl in
    let empty = found.1 in
    absurd (cc empty)

-- the query that is handed out has another name than the query that arrived
entered-refuses_name : (configs : List Config) (packet : List ℕ) (q : Query) → decoded packet ≡ Ok (query q) → q.name ≡ 1 ∷ [] → HandsOutEntered configs (delivery 1 packet answers.Query (Some (handed_query 1 q.time q.id (2 ∷ []))) ∷ []) → ⊥
entered-refuses_name configs packet q reads name h =
    let turn : Turn = delivery 1 packet answers.Query (Some (handed_query 1 q.time q.id (2 ∷ []))) in
    let found = h [] turn [] refl (handed_query 1 q.time q.id (2 ∷ [])) refl in
    let brought : q ∷ [] ≡ found.0 ∷ [] = sym (ap query_message reads) ∙ found.1 in
    let same : q ≡ found.0 = cc brought in
    let names : 2 ∷ [] ≡ 1 ∷ [] = found.2.name ∙ ap (λ (x : Query). x.name) (sym same) ∙ name in
    absurd (cc names)

-- a query enters at another agent with another name than the one with which it was fired
messages-refuses : (configs : List Config) (params : QueryParams) (packet : List ℕ) (q : Query) → decoded packet ≡ Ok (query q) → q.name ≡ 2 ∷ []
    → MessagesFired configs (turn (asking 7 (1 ∷ []) params) (answers.Queried 1) [] None ∷ delivery 1 packet answers.Query None ∷ []) → ⊥
messages-refuses configs params packet q reads name h =
    let first : Turn = turn (asking 7 (1 ∷ []) params) (answers.Queried 1) [] None in
    elim (h (first ∷ []) (delivery 1 packet answers.Query None) [] refl packet refl refl) [
      | inl all ↦ of (slice_get configs 0) (subst (λ l. All (Contains (messages_fired configs (first ∷ []))) l) (ap query_message reads) all 0 q (omega arith))
      | inr brought ↦ in-none _ brought
    ]
  where
    of : (r : Option Config) → Contains (map (λ (c : Config). query_at 1 c.name 7 (1 ∷ []) [] params) (option_to_list r) ++ []) q → ⊥
    of None found = in-none _ found
    of (Some c) found =
        let at : found.0 ≡ 0 = (let lt = found.1 in omega arith) in
        let same : query_at 1 c.name 7 (1 ∷ []) [] params ≡ q = subst (λ (k : ℕ). slice_index_or (query_at 1 c.name 7 (1 ∷ []) [] params ∷ []) k q ≡ q) at found.2 in
        let names : 1 ∷ [] ≡ 2 ∷ [] = ap (λ (x : Query). x.name) same ∙ name in
        absurd (cc names)

-- a query enters that no agent fired
only_fired-refuses : (packet : List ℕ) (q : Query) → decoded packet ≡ Ok (query q) → QueryOnlyFired (delivery 0 packet answers.Query None ∷ []) → ⊥
only_fired-refuses packet q reads h =
    let turn : Turn = delivery 0 packet answers.Query None in
    elim (subst (λ r. All (WasQueried (turn ∷ [])) (query_brought r)) reads (h [] turn [] refl) 0 (record { time = q.time; key = q.id }) (omega arith)) [
      | inl fired ↦ in-none _ fired
      | inr brought ↦ in-none _ brought
    ]

-- ---- acks and responses

-- agent 0 fires a query, and is handed it
abbrev fired_queries : QueryParams → Turn
fired_queries params = turn (asking 7 [] params) (answers.Queried 1) [] (Some (handed_query 0 1 7 []))

-- an agent's ack is counted twice
counted_once-refuses : (packet : List ℕ) (r : QueryResponse) → decoded packet ≡ Ok (query_response r) → CountedOnce (delivery 0 packet answers.Ack None ∷ delivery 0 packet answers.Ack None ∷ []) → ⊥
counted_once-refuses packet r reads h =
    subst (λ (m : Result Message WireError). AllPairs (λ (x y : QueryResponse). x.time ≡ y.time → x.from ≢ y.from) ((answer_brought m ++ []) ++ ((answer_brought m ++ []) ++ []))) reads (h 0 true) 0 1 r (omega arith) (omega arith) refl refl

-- an ack is counted for a query that the agent never fired
in_time-refuses : (packet : List ℕ) (r : QueryResponse) → decoded packet ≡ Ok (query_response r) → CountedInTime (delivery 0 packet answers.Ack None ∷ []) → ⊥
in_time-refuses packet r reads h =
    let turn : Turn = delivery 0 packet answers.Ack None in
    let awaited : IsAwaited [] 0 r = subst (λ (m : Result Message WireError). All (IsAwaited [] 0) (answer_brought m ++ [])) reads (h [] turn [] refl 0 0 0 true refl) 0 r (omega arith) in
    in-none awaited.query awaited.fired

-- an ack is counted, but no packet arrived
sent-refuses : CountedSent (turn (Of 0 (acts.Deliver 0 0)) answers.Ack [] None ∷ []) → ⊥
sent-refuses h =
    let found = h [] (turn (Of 0 (acts.Deliver 0 0)) answers.Ack [] None) [] refl true refl in
    let given = found.given in
    absurd (cc given)

-- an agent answers a query that it was never handed
made-refuses : (configs : List Config) (packet : List ℕ) (r : QueryResponse) → decoded packet ≡ Ok (query_response r) → AnswersMade configs (sending (Of 0 (acts.Close 0)) (answers.Closed 0) packet ∷ []) → ⊥
made-refuses configs packet r reads h =
    let turn : Turn = sending (Of 0 (acts.Close 0)) (answers.Closed 0) packet in
    of (subst (λ (m : Result Message WireError). All (IsMade configs [] turn) (answer_brought m ++ [])) reads (h [] turn [] refl) 0 r (omega arith))
  where
    of : IsMade configs [] (sending (Of 0 (acts.Close 0)) (answers.Closed 0) packet) r → ⊥
    of (injected i) = let action = i.action in absurd (cc action)
    of (acked a) = let hands = a.hands in absurd (cc hands)
    of (replied a) = let replied = a.replied in absurd (cc replied)

-- an agent acks the same query twice
acked-refuses : (packet : List ℕ) (r : QueryResponse) → decoded packet ≡ Ok (query_response r) → is_ack r ≡ true → (let t = sending (Of 0 (acts.Close 0)) (answers.Closed 0) packet in AckedOnce (t ∷ t ∷ [])) → ⊥
acked-refuses packet r reads ack h =
    let both : AllPairs (λ (x y : TimedEntry ℕ). x ≢ y) (map query_answered (filter is_ack (r ∷ r ∷ []))) =
    subst (λ (m : Result Message WireError). AllPairs (λ (x y : TimedEntry ℕ). x ≢ y) (map query_answered (filter is_ack ((answer_brought m ++ []) ++ ((answer_brought m ++ []) ++ []))))) reads (h 0) in
    let plain : AllPairs (λ (x y : TimedEntry ℕ). x ≢ y) (query_answered r ∷ query_answered r ∷ []) = subst (λ (b : Bool). AllPairs (λ (x y : TimedEntry ℕ). x ≢ y) (map query_answered (cond b (r ∷ cond b (r ∷ []) []) (cond b (r ∷ []) [])))) ack both in
    plain 0 1 (query_answered r) (omega arith) (omega arith) refl

-- an agent answers the same query twice
replied-refuses : (packet : List ℕ) (r : QueryResponse) → decoded packet ≡ Ok (query_response r) → is_ack r ≡ false → (let t = sending (Of 0 (acts.Respond 0 5 [])) answers.Replied packet in RepliedOnce (t ∷ t ∷ [])) → ⊥
replied-refuses packet r reads reply h =
    let both : AllPairs (λ (x y : TimedEntry ℕ). x ≢ y) (map query_answered (filter (λ r. not (is_ack r)) (r ∷ r ∷ []))) =
    subst (λ (m : Result Message WireError). AllPairs (λ (x y : TimedEntry ℕ). x ≢ y) (map query_answered (filter (λ r. not (is_ack r)) ((answer_brought m ++ []) ++ ((answer_brought m ++ []) ++ []))))) reads (h 0) in
    let plain : AllPairs (λ (x y : TimedEntry ℕ). x ≢ y) (query_answered r ∷ query_answered r ∷ []) =
    subst (λ (b : Bool). AllPairs (λ (x y : TimedEntry ℕ). x ≢ y) (map query_answered (cond (not b) (r ∷ cond (not b) (r ∷ []) []) (cond (not b) (r ∷ []) [])))) reply both in
    plain 0 1 (query_answered r) (omega arith) (omega arith) refl

-- an agent answers a query whose deadline is past
late-refuses : (configs : List Config) (params : QueryParams) (packet : List ℕ) (r : QueryResponse) → params.timeout ≡ pos 10 → decoded packet ≡ Ok (query_response r) → r.payload ≡ []
    → AnswersMade configs (fired_queries params ∷ sending (Of 0 (acts.Respond 0 20 [])) answers.Replied packet ∷ []) → ⊥
late-refuses configs params packet r timeout reads empty h =
    let turn : Turn = sending (Of 0 (acts.Respond 0 20 [])) answers.Replied packet in
    of (subst (λ (m : Result Message WireError). All (IsMade configs (fired_queries params ∷ []) turn) (answer_brought m ++ [])) reads (h (fired_queries params ∷ []) turn [] refl) 0 r (omega arith))
  where
    of : IsMade configs (fired_queries params ∷ []) (sending (Of 0 (acts.Respond 0 20 [])) answers.Replied packet) r → ⊥
    of (injected i) = let action = i.action in absurd (cc action)
    of (acked a) = let hands = a.hands in absurd (cc hands)
    of (replied a) =
        let action = a.action in
        let agent : 0 ≡ a.agent = cc action in
        let now : 20 ≡ a.now = cc action in
        let there : Contains (life_of 0 (fired_queries params ∷ [])) a.handing = subst (λ (n : ℕ). Contains (life_of n (fired_queries params ∷ [])) a.handing) (sym agent) a.there in
        let at : there.0 ≡ 0 = (let lt = there.1 in omega arith) in
        let same : fired_queries params ≡ a.handing = subst (λ (k : ℕ). slice_index_or (fired_queries params ∷ []) k a.handing ≡ a.handing) at there.2 in
        let until : reply_deadline (fired_queries params) ≡ a.deadline ∷ [] = ap reply_deadline same ∙ a.until in
        let ten : deadline_of 0 (pos 10) ∷ [] ≡ a.deadline ∷ [] = ap (λ t. deadline_of 0 t ∷ []) (sym timeout) ∙ until in
        let ends : 10 ≡ a.deadline = cc ten in
        let in_time = a.in_time in
        absurd (omega arith)

-- ---- bounds

-- an agent that accepts one event of each time is handed two of the same time
events-refuses : (c : Config) → c.per_time ≡ 1 → EventsBounded (c ∷ []) (turn (Of 0 (acts.Close 0)) (answers.Closed 0) (handed_event 0 1 ∷ handed_event 0 1 ∷ []) None ∷ []) → ⊥
events-refuses c one h =
    let maximum : 2 ≤ c.per_time = (h [] (turn (Of 0 (acts.Close 0)) (answers.Closed 0) (handed_event 0 1 ∷ handed_event 0 1 ∷ []) None) [] refl 0 c refl).bounded.of_one_time 1 in
    absurd (omega arith)

-- an agent is handed an event of more than 9,216 bytes
long-refuses : (c : Config) (name : List ℕ) → length name ≡ 9217 → EventsBounded (c ∷ []) (turn (Of 0 (acts.Close 0)) (answers.Closed 0) (record { agent = 0; time = 1; name = name; payload = []; coalesce = false } ∷ []) None ∷ []) → ⊥
long-refuses c name long h =
    let line : EventLine = record { agent = 0; time = 1; name = name; payload = []; coalesce = false } in
    let all = (h [] (turn (Of 0 (acts.Close 0)) (answers.Closed 0) (line ∷ []) None) [] refl 0 c refl).short in
    let short : length name + length {A = ℕ} [] ≤ 9216 = all 0 (record { time = 1; key = event_of name [] }) (omega arith) in
    absurd (omega arith)

-- the same for queries
queries-refuses : (c : Config) (params : QueryParams) → c.per_time ≡ 1 → QueriesBounded (c ∷ []) (firing params 7 1 ∷ firing params 8 1 ∷ []) → ⊥
queries-refuses c params one h =
    let maximum : 2 ≤ c.per_time = (h (firing params 7 1 ∷ []) (firing params 8 1) [] refl 0 c refl).of_one_time 1 in
    absurd (omega arith)

-- an agent that accepts one event of each time restored two of the same time at a restart: its window has both, though
-- nothing was handed out
windows-refuse : (m : IdealNode) (e : TimedEntry EventBody) → m.agent.config.per_time ≡ 1 → of_life m.agent.life m.agent.events.history ≡ e ∷ e ∷ [] → WindowsBounded (record { cluster = record { nodes = m ∷ []; sent = [] }; turns = [] }) → ⊥
windows-refuse m e one took h =
    let bounded = h 0 m (omega arith) in
    let maximum : count_at (e ∷ e ∷ []) e.time ≤ m.agent.config.per_time = subst (λ (es : List (TimedEntry EventBody)). count_at es e.time ≤ m.agent.config.per_time) took (bounded.events.bounded.of_one_time e.time) in
    let two : count_at (e ∷ e ∷ []) e.time ≡ 2 = rw (eq-eqb e.time e.time refl) refl in
    absurd (omega (arith, maximum, two))

-- an open query that was never fired
open-refuses : (m : IdealNode) (q : ℕ × OpenQuery) → m.agent.fired_queries ≡ q ∷ [] → OpenQueriesHold (record { cluster = record { nodes = m ∷ []; sent = [] }; turns = [] }) → ⊥
open-refuses m q fired_queries h = let held = subst (λ l. All (HoldsCounted 0 []) l) fired_queries (h 0 m refl) 0 q (omega arith) in in-none _ held.fired

-- an open query holds a name with which no answer was sent
sent_to-refuses : (m : IdealNode) (q : ℕ × OpenQuery) (name : List ℕ) → m.agent.fired_queries ≡ q ∷ [] → q.1.acks ≡ name ∷ [] → OpenQueriesSent (record { cluster = record { nodes = m ∷ []; sent = [] }; turns = [] }) → ⊥
sent_to-refuses m q name fired_queries acks h =
    let held = subst (λ l. All (HoldsSent []) l) fired_queries (h 0 m refl) 0 q (omega arith) in
    let found = subst (All (λ name. (r : QueryResponse) × IsSentTo [] q true r × (r.from ≡ name))) acks held.acks 0 name (omega arith) in
    in-none _ found.1.sent
