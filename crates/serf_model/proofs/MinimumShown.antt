-- The minimum time of events that an agent accepts is never higher than its turns show.
use Rattle.serf_model.proofs.Names.{Bool, Err, List, None, Ok, Option, Result, Some, [], ap, arith, cond, false, inl, inr, refl, subst, sym, true, ℕ, true≢false, ◌&&◌, ◌∙◌, ◌∷◌, ◌≡◌, ◌≤◌, ◌⊎◌, max, slice_get, decoded, Message, PushPull, Query, QueryResponse, foreign, push_pull, query, query_response, user_event, WireError, EventBody, event_of, TimedEntry, Step, answers, planned, admission, fire_error, fired_as, received_as, DeliveredQuery, IdealAgent, answer_ignore_reason, fired_query_at, counts_where, is_ack, is_full, query_admission, query_at, query_error, query_fired_as, query_received_as, respond_error, response_received_as, response_received_at, receive_read, compact, events_of, hear, heard_by, merge_refusal, receive_one, save, written_min_line, Config, OpenQuery, FireError, MergeError, Outcome, QueryError, Reason, ReceiveError, RespondError, is_restarted, Applied, Cluster, IdealNode, Merged, applied, apply, delivers, merges_as, merges_events, merges_given, merges_heard, merges_on, responds, responds_as, is_stopped, min_written, min_written_by, state_clock, Turn, given_by, Act, Action, Of, Answer}
use Rattle.serf_agent.specs.declared.outcome.ReceiveError.TheVariants as receives
use Rattle.serf_snapshot.specs.declared.snapshot.AppendLineError.TheVariants as notes
use Rattle.serf_model.specs.declared.action.Act.TheVariants as acts
use Rattle.serf_model.specs.declared.line.Answer.TheVariants as lines
use Rattle.serf_model.specs.Taken.{minimum_shown, minimum_then}
use Rattle.serf_model.proofs.CallsKept.{kept-or-failed}
use Rattle.serf_model.proofs.Effects.{Effect, counts, hears, idle-enters, reopens}
use Rattle.serf_model.proofs.InvariantKept.{compacting, saving}
use Rattle.serf_model.proofs.TakesKept.{not-stopped}

-- ---- acts that keep the minimum

abbrev Same : IdealAgent → IdealAgent → Type 0
Same i j = j.events.minimum ≡ i.events.minimum

received-same : (i : IdealAgent) (t : ℕ) (what : EventBody) (coalesce : Bool) (r : Option Reason) → Same i (planned i (received_as r i t what coalesce)).agent
received-same i t what coalesce (Some reason) = refl
received-same i t what coalesce None = kept-or-failed (λ o. Same i o.agent) i (received_as None i t what coalesce) refl (λ d. refl)

query-same : (i : IdealAgent) (now : ℕ) (x : Query) (r : Option Reason) → Same i (planned i (query_received_as false r i now x)).agent
query-same i now x (Some reason) = refl
query-same i now x None = kept-or-failed (λ o. Same i o.agent) i (query_received_as false None i now x) refl (λ d. refl)

response-same : (i : IdealAgent) (now : ℕ) (r : QueryResponse) (o : Option OpenQuery) → Same i (planned i (response_received_at o i now r)).agent
response-same i now r None = refl
response-same i now r (Some x) = by (answer_ignore_reason now r x)
  where
    counted : (full : Bool) → Same i (planned i (counts_where full (is_ack r) i r x)).agent
    counted true = refl
    counted false = refl

    by : (reason : Option Reason) → Same i (planned i (response_received_as reason i r x)).agent
    by (Some reason) = refl
    by None = counted (is_full i.config.responders r x)

read-same : (i : IdealAgent) (now : ℕ) (r : Result Message WireError) → Same i (planned i (receive_read false i now r)).agent
read-same i now (Ok (user_event x)) = received-same i x.time (event_of x.name x.payload) x.coalesce (admission i x.time (event_of x.name x.payload))
read-same i now (Ok (query x)) = query-same i now x (query_admission i x.time x.id)
read-same i now (Ok (query_response r)) = response-same i now r (fired_query_at r.time i.fired_queries)
read-same i now (Ok (push_pull m)) = refl
read-same i now (Ok (foreign kind)) = refl
read-same i now (Err error) = refl

delivers-same : (m : IdealNode) (now : ℕ) (given : Option (List ℕ)) → Same m.agent (delivers m now given).node.agent
delivers-same m now None = refl
delivers-same m now (Some packet) = by m.agent.snapshot.stopped
  where
    by : (b : Bool) → Same m.agent (planned m.agent (cond b (answers m.agent (Err receives.Stopped)) (receive_read false m.agent now (decoded packet)))).agent
    by true = refl
    by false = read-same m.agent now (decoded packet)

fired-same : (i : IdealAgent) (what : EventBody) (coalesce : Bool) (r : Option FireError) → Same i (planned i (fired_as r i what coalesce)).agent
fired-same i what coalesce (Some error) = refl
fired-same i what coalesce None = kept-or-failed (λ o. Same i o.agent) i (fired_as None i what coalesce) refl (λ d. refl)

query_fired-same : (i : IdealAgent) (tags : Bool) (now : ℕ) (x : Query) (r : Option QueryError) → Same i (planned i (query_fired_as tags r i now x)).agent
query_fired-same i tags now x (Some error) = refl
query_fired-same i tags now x None = kept-or-failed (λ o. Same i o.agent) i (query_fired_as tags None i now x) refl (λ d. refl)

responds-same : (m : IdealNode) (number now : ℕ) (payload : List ℕ) (h : Option (Option DeliveredQuery)) → Same m.agent (responds m number h now payload).node.agent
responds-same m number now payload None = refl
responds-same m number now payload (Some None) = refl
responds-same m number now payload (Some (Some h)) = by (respond_error h now payload)
  where
    by : (r : Option RespondError) → Same m.agent (responds_as r m number h payload).node.agent
    by (Some error) = refl
    by None = refl

saves-same : (i : IdealAgent) → Same i (planned i (save i)).agent
saves-same i = by i.snapshot.stopped
  where
    by : (b : Bool) → Same i (planned i (cond b (answers i (Err notes.Stopped)) (saving i))).agent
    by true = refl
    by false = kept-or-failed (λ o. Same i o.agent) i (saving i) refl (λ d. refl)

compacts-same : (i : IdealAgent) → Same i (planned i (compact i)).agent
compacts-same i = by i.snapshot.stopped
  where
    by : (b : Bool) → Same i (planned i (cond b (answers i (Err notes.Stopped)) (compacting i))).agent
    by true = refl
    by false = kept-or-failed (λ o. Same i o.agent) i (compacting i) refl (λ d. refl)

-- ---- merges

on-same : (i : IdealAgent) (o : Step (Result Outcome ReceiveError)) (rest : IdealAgent → Merged) → Same i o.agent → Same o.agent (rest o.agent).agent → Same i (merges_on o rest).agent
on-same i o rest first more = by o.answer
  where
    by : (r : Result Outcome ReceiveError) → Same i (merges_on (record { agent = o.agent; answer = r }) rest).agent
    by (Ok outcome) = more ∙ first
    by (Err error) = first

pub merges-same : (es : List (TimedEntry EventBody)) (i : IdealAgent) → (merges_events es i).agent.events.minimum ≡ i.events.minimum
merges-same [] i = refl
merges-same (x ∷ es) i = on-same i (planned i (receive_one i x)) (merges_events es) (received-same i x.time x.key false (admission i x.time x.key)) (merges-same es (planned i (receive_one i x)).agent)

-- the minimum that a state sets, if the agent merges it
abbrev pub told_by : IdealAgent → PushPull → Bool → ℕ
told_by i s join = cond (join && i.config.ignore_old) s.event_clock 0

pub heard-minimum : (i : IdealAgent) (s : PushPull) (join : Bool) → (planned i (hear i s join)).agent.events.minimum ≤ max i.events.minimum (told_by i s join)
heard-minimum i s join = by (written_min_line i.config s join)
  where
    by : (line : Option (List ℕ)) → (planned i (heard_by line i s join)).agent.events.minimum ≤ max i.events.minimum (told_by i s join)
    by None = omega arith
    by (Some line) = kept-or-failed (λ o. o.agent.events.minimum ≤ max i.events.minimum (told_by i s join)) i (heard_by (Some line) i s join) (omega arith) (λ d. omega arith)

merged-minimum : (m : IdealNode) (s : PushPull) (join : Bool) → (merges_heard m (events_of s.slots) (planned m.agent (hear m.agent s join))).node.agent.events.minimum ≤ max m.agent.events.minimum (told_by m.agent s join)
merged-minimum m s join = by (planned m.agent (hear m.agent s join)).answer
  where
    heard : (planned m.agent (hear m.agent s join)).agent.events.minimum ≤ max m.agent.events.minimum (told_by m.agent s join)
    heard = heard-minimum m.agent s join

    by : (r : Result (Unit {0}) MergeError) → (merges_heard m (events_of s.slots) (record { agent = (planned m.agent (hear m.agent s join)).agent; answer = r })).node.agent.events.minimum ≤ max m.agent.events.minimum (told_by m.agent s join)
    by (Ok done) = let same = merges-same (events_of s.slots) (planned m.agent (hear m.agent s join)).agent in omega (arith, heard, same)
    by (Err error) = heard

-- the minimum that a merge sets, as its turn shows
abbrev Sets : IdealNode → ℕ → ℕ → Bool → Option (List ℕ) → Answer → ℕ
Sets m a number join given answer = cond (is_stopped answer) 0 (min_written_by m.agent.config (Of a (acts.Merge number join)) given)

merge-minimum : (m : IdealNode) (join : Bool) (f : Option MergeError) (r : Result Message WireError)
    → (merges_as f m join r).node.agent.events.minimum ≤ max m.agent.events.minimum (cond (is_stopped (merges_as f m join r).done.answer) 0 (cond (join && m.agent.config.ignore_old) (state_clock r) 0))
merge-minimum m join None (Ok (push_pull s)) =
    let runs = not-stopped m (events_of s.slots) s join in
    let low = merged-minimum m s join in
    rw runs low
merge-minimum m join (Some error) r = omega arith
merge-minimum m join None _ = omega arith

merges-minimum : (m : IdealNode) (a number : ℕ) (join : Bool) (given : Option (List ℕ)) → (let o = merges_given m join given in o.node.agent.events.minimum ≤ max m.agent.events.minimum (Sets m a number join given o.done.answer))
merges-minimum m a number join None = omega arith
merges-minimum m a number join (Some packet) = merge-minimum m join (merge_refusal m.agent.snapshot (decoded packet)) (decoded packet)

-- ---- each act

-- only a restart answers that the agent was opened again
pub begins-by : (m : IdealNode) (action : Action) (given : Option (List ℕ)) (o : Applied) → Effect m action given o → (is_restarted o.done.answer ≡ false) ⊎ ((a : ℕ) × (tail : List ℕ) × (action ≡ Of a (acts.Restart tail)))
begins-by m action given o (hears j outs answer h idle) = inl (idle-enters m.agent action given answer idle).1
begins-by m action given o (counts to number now packet r q true is at none kind) = inl refl
begins-by m action given o (counts to number now packet r q false is at none kind) = inl refl
begins-by m action given o (reopens agent tail) = inr (agent, tail, refl)
begins-by m action given o _ = inl refl

-- if no life begins, the minimum rises at most to what the turn sets
pub shows : (minimum sets : ℕ) (answer : Answer) → is_restarted answer ≡ false → minimum_shown minimum sets answer ≡ max minimum sets
shows minimum sets (lines.Restarted member_clock event_clock query_clock) on = absurd (cc on)
shows minimum sets _ on = refl

rises : (m : IdealNode) (sent : List (List ℕ)) (a : ℕ) (act : Act) → ((tail : List ℕ) → act ≡ acts.Restart tail → ⊥)
    → (let o = apply m sent act in o.node.agent.events.minimum ≤ max m.agent.events.minimum (cond (is_stopped o.done.answer) 0 (min_written_by m.agent.config (Of a act) (given_by sent act))))
rises m sent a (acts.Fire name payload coalesce) none = let same = fired-same m.agent (event_of name payload) coalesce (fire_error m.agent (event_of name payload) coalesce) in omega (arith, same)
rises m sent a (acts.Deliver number now) none = let same = delivers-same m now (slice_get sent number) in omega (arith, same)
rises m sent a acts.State none = omega arith
rises m sent a (acts.Merge number join) none = merges-minimum m a number join (slice_get sent number)
rises m sent a (acts.Query n) none =
    let same = query_fired-same m.agent n.params.tags_pass n.moment (query_at m.agent.queries.clock m.agent.config.name n.id n.name n.payload n.params) (query_error m.agent n.id n.name n.payload n.params) in
    omega (arith, same)
rises m sent a (acts.Respond number now payload) none = let same = responds-same m number now payload (slice_get m.handed number) in omega (arith, same)
rises m sent a (acts.Restart tail) none = absurd (none tail refl)
rises m sent a (acts.Break call n) none = omega arith
rises m sent a (acts.Close now) none = omega arith
rises m sent a acts.Save none = let same = saves-same m.agent in omega (arith, same)
rises m sent a acts.Compact none = let same = compacts-same m.agent in omega (arith, same)

-- an agent whose life continues
pub minimum-on : (config : Config) (c : Cluster) (b minimum : ℕ) (act : Act) (m : IdealNode) → m.agent.config ≡ config → m.agent.events.minimum ≤ minimum → is_restarted (apply m c.sent act).done.answer ≡ false
    → (let o = apply m c.sent act in o.node.agent.events.minimum ≤ minimum_then config minimum (applied c b act o).turn)
minimum-on config c b minimum act m settings low on =
    let turn : Turn = (applied c b act (apply m c.sent act)).turn in
    let shown = shows minimum (min_written m.agent.config turn) (apply m c.sent act).done.answer on in
    let up = rises m c.sent b act never in
    subst (λ (config : Config). (apply m c.sent act).node.agent.events.minimum ≤ minimum_then config minimum (applied c b act (apply m c.sent act)).turn) settings (omega (arith, shown, up, low))
  where
    never : (tail : List ℕ) → act ≡ acts.Restart tail → ⊥
    never tail is = let no : false ≡ true = sym on ∙ ap (λ (x : Act). is_restarted (apply m c.sent x).done.answer) is in true≢false (sym no)
