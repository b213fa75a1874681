-- What each action does to the node that acts, in one place: the action's effect, and that its agent stays sound.
use Rattle.serf_model.proofs.Names.{Bool, Err, List, None, Ok, Option, Result, Some, [], ap, cond, false, map, refl, subst, sym, true, ℕ, ◌++◌, ◌∙◌, ◌∷◌, ◌≡◌, map-append, All-append, All-cons, All-contains_itself, All-head, All-nil, All-weaker, Contains-append_right, All, Contains, slice_get, has_long, canonical, decoded, Message, PushPull, Query, QueryResponse, UserEvent, push_pull, query, query_response, user_event, WireError, EventBody, Kept, SnapshotView, event_of, TimedEntry, Step, answers, ended, planned, admission, fire_error, fired_as, received_as, DeliveredQuery, IdealAgent, Past, with_fired_queries, with_snapshot, answer_ignore_reason, fired_query_at, counted, counts_where, is_ack, is_full, query_admission, query_at, query_error, query_fired_as, query_received_as, respond_error, response_received_as, response_received_at, with_fired_query_at, receive_read, events_of, handed_by, hear, heard_by, merge_refusal, receive_one, state_of, written_min_line, view_of, Config, OpenQuery, EventOut, FireError, MergeError, Outcome, QueryError, Reason, ReceiveError, RespondError, Below, is_restarted, Applied, IdealNode, Merged, apply, called, closes, compacts, delivers, does_nothing, fire_gives, merge_refusal_of, merges_as, merges_events, merges_given, merges_heard, merges_on, append_line_gives, only, plan_with, query_gives, receive_gives, responds, responds_as, restarts, saves, sends_state, state_gives, text_after, events_given, IsRepresentable, CanTellAct, entered_by, events_brought, given_by, Act, Action, Of, Answer, SinkError, NewQuery}
use Rattle.serf_snapshot.specs.declared.snapshot.AppendLineError.TheVariants as notes
use Rattle.serf_agent.specs.declared.outcome.PushPullError.TheVariants as states
use Rattle.serf_agent.specs.declared.outcome.ReceiveError.TheVariants as receives
use Rattle.serf_model.specs.declared.action.Act.TheVariants as acts
use Rattle.serf_model.specs.declared.line.Answer.TheVariants as lines
use Rattle.serf_model.proofs.CallsKept.{kept-or-failed, may-ask, ready-fired, ready-query_fired, ready-query_received, ready-received}
use Rattle.serf_model.proofs.InvariantKept.{compacting, ready-compacted, ready-merged, ready-opened, ready-planned, ready-saved, saving, text-past}
use Rattle.serf_model.proofs.DurableKept.{durable-apply}
use Rattle.serf_model.proofs.ReadyLaws.{IsReady, ready}
use Rattle.serf_model.proofs.OpenQueriesKept.{ready-closed, ready-counted}
use Rattle.serf_model.proofs.PerTimeBound.{Enters, enters-none, enters-one, enters-then, event-room, out_in}

-- ---- the definition

-- An idle answer says that no event is fired or new, no query enters, nothing is counted and no life begins. If the
-- answer says that an event is ignored, the agent has the reason that it names.
abbrev pub IsIdle : IdealAgent → Option (List ℕ) → Answer → Type 0
IsIdle i given (lines.Fired t) = ⊥
IsIdle i given lines.New = ⊥
IsIdle i given lines.Query = ⊥
IsIdle i given (lines.Queried t) = ⊥
IsIdle i given lines.Ack = ⊥
IsIdle i given lines.Response = ⊥
IsIdle i given (lines.Restarted member_clock event_clock query_clock) = ⊥
IsIdle i given (lines.Ignored reason) = (packet : List ℕ) (e : UserEvent) → given ≡ Some packet → decoded packet ≡ Ok (user_event e) → admission i e.time (event_of e.name e.payload) ≡ Some reason
IsIdle i given _ = Unit {0}

-- An agent's life continues. The agent enters exactly the events that it hands out, and each of them is among those
-- that it was given.
pub record Hears (i j : IdealAgent) (brought : List (TimedEntry EventBody)) (outs : List EventOut) : Type 0 where
  pub config : j.config ≡ i.config
  pub life : j.life ≡ i.life
  pub events : Enters i.life i.config.per_time i.events.history j.events.history (map out_in outs)
  pub queries : j.queries.history ≡ i.queries.history
  pub fired_queries : j.fired_queries ≡ i.fired_queries
  pub among : All (Contains brought) (map out_in outs)

-- the message of a query that a node fires
abbrev pub as_message : IdealNode → NewQuery → Query
as_message m q = query_at m.agent.queries.clock m.agent.config.name q.id q.name q.payload q.params

-- What an action does to the node that acts, if it is given this packet: the node afterwards, and the result of the
-- action.
pub data Effect (m : IdealNode) : Action → Option (List ℕ) → Applied → Type 0 where
  -- the agent does no more than raise its clocks and hand out events, and sends nothing
  hears : {action : Action} {given : Option (List ℕ)} (j : IdealAgent) (outs : List EventOut) (answer : Answer) → Hears m.agent j (events_given given) outs → IsIdle m.agent given answer
      → Effect m action given (record { node = record { agent = j; handed = m.handed }; done = record { answer = answer; packets = []; events = outs; handed = None } })
  -- an event is fired
  fires : {given : Option (List ℕ)} (agent : ℕ) (name payload : List ℕ) (coalesce : Bool) → fire_error m.agent (event_of name payload) coalesce ≡ None
      → Effect m (Of agent (acts.Fire name payload coalesce)) given (called m (ended m.agent (fired_as None m.agent (event_of name payload) coalesce) Kept) fire_gives)
  -- an event is new, and is sent on
  passes_on : {action : Action} (packet : List ℕ) (e : UserEvent) → decoded packet ≡ Ok (user_event e) → admission m.agent e.time (event_of e.name e.payload) ≡ None
      → Effect m action (Some packet) (called m (ended m.agent (received_as None m.agent e.time (event_of e.name e.payload) e.coalesce) Kept) (receive_gives packet))
  -- a query is fired
  asks : {given : Option (List ℕ)} (agent : ℕ) (q : NewQuery) → query_error m.agent q.id q.name q.payload q.params ≡ None
      → Effect m (Of agent (acts.Query q)) given (called m (ended m.agent (query_fired_as q.params.tags_pass None m.agent q.moment (as_message m q)) Kept) query_gives)
  -- a query is new
  is_asked : (to number : ℕ) (packet : List ℕ) (now : ℕ) (q : Query) → decoded packet ≡ Ok (query q) → query_admission m.agent q.time q.id ≡ None
      → Effect m (Of to (acts.Deliver number now)) (Some packet) (called m (ended m.agent (query_received_as false None m.agent now q) Kept) (receive_gives packet))
  -- an answer to an open query is counted
  counts : (to number now : ℕ) (packet : List ℕ) (r : QueryResponse) (q : OpenQuery) (ack : Bool) → decoded packet ≡ Ok (query_response r) → fired_query_at r.time m.agent.fired_queries ≡ Some q → answer_ignore_reason now r q ≡ None → is_ack r ≡ ack
      → Effect m (Of to (acts.Deliver number now)) (Some packet)
      (record { node = record { agent = with_fired_queries (with_fired_query_at r.time (counted r q) m.agent.fired_queries) m.agent; handed = m.handed }; done = only (cond ack lines.Ack lines.Response) })
  -- the open queries whose deadlines are past are removed
  closes_due : {given : Option (List ℕ)} (agent now : ℕ) → Effect m (Of agent (acts.Close now)) given (closes m now)
  -- a whole state is sent
  tells : {action : Action} {given : Option (List ℕ)} → has_long (push_pull (state_of (view_of m.agent) [] [])) ≡ false → Effect m action given (does_nothing m (state_gives (Ok (canonical (push_pull (state_of (view_of m.agent) [] []))))))
  -- a query that was handed out is answered
  replies : {given : Option (List ℕ)} (agent number now : ℕ) (payload : List ℕ) (h : DeliveredQuery) → slice_get m.handed number ≡ Some (Some h) → respond_error h now payload ≡ None
      → Effect m (Of agent (acts.Respond number now payload)) given (responds_as None m number h payload)
  -- a life begins
  reopens : {given : Option (List ℕ)} (agent : ℕ) (tail : List ℕ) → Effect m (Of agent (acts.Restart tail)) given (restarts m tail)

-- an action has this effect, and leaves its agent sound
pub record Acts (m : IdealNode) (action : Action) (given : Option (List ℕ)) (o : Applied) : Type 0 where
  pub effect : Effect m action given o
  pub sound : IsRepresentable m.agent → IsReady o.node.agent

-- ---- nothing is entered

-- if the answer is idle, no query enters and no life begins
pub idle-enters : (i : IdealAgent) (action : Action) (given : Option (List ℕ)) (answer : Answer) → IsIdle i given answer → (entered_by action given answer ≡ []) × (is_restarted answer ≡ false)
idle-enters i action given lines.Query idle = absurd idle
idle-enters i action given (lines.Queried t) idle = absurd idle
idle-enters i action given (lines.Restarted member_clock event_clock query_clock) idle = absurd idle
idle-enters i action given _ idle = (refl, refl)

rests : (i j : IdealAgent) (brought : List (TimedEntry EventBody)) → j.config ≡ i.config → j.life ≡ i.life → j.events.history ≡ i.events.history → j.queries.history ≡ i.queries.history → j.fired_queries ≡ i.fired_queries → Hears i j brought []
rests i j brought config life events queries fired_queries = record {
  config = config;
  life = life;
  events = enters-none i.life i.config.per_time i.events.history j.events.history events;
  queries = queries;
  fired_queries = fired_queries;
  among = All-nil (Contains brought);
}

idles : (m : IdealNode) (action : Action) (given : Option (List ℕ)) (j : IdealAgent) (answer : Answer) → j.config ≡ m.agent.config → j.life ≡ m.agent.life → j.events.history ≡ m.agent.events.history → j.queries.history ≡ m.agent.queries.history → j.fired_queries ≡ m.agent.fired_queries
    → IsIdle m.agent given answer → Effect m action given (record { node = record { agent = j; handed = m.handed }; done = only answer })
idles m action given j answer config life events queries fired_queries idle = hears j [] answer (rests m.agent j (events_given given) config life events queries fired_queries) idle

-- the agent stays as it is
stays : {action : Action} {given : Option (List ℕ)} {answer : Answer} (m : IdealNode) → IsIdle m.agent given answer → Acts m action given (does_nothing m (only answer))
stays {action} {given} {answer} m idle = record { effect = idles m action given m.agent answer refl refl refl refl refl idle; sound = λ g. ready m.agent g }

-- only its snapshot differs
snaps : {action : Action} {given : Option (List ℕ)} {answer : Answer} {s : SnapshotView} (m : IdealNode) → IsIdle m.agent given answer → Effect m action given (record { node = record { agent = with_snapshot s m.agent; handed = m.handed }; done = only answer })
snaps {action} {given} {answer} {s} m idle = idles m action given (with_snapshot s m.agent) answer refl refl refl refl refl idle

-- ---- events

acts-fire : Below → (m : IdealNode) (given : Option (List ℕ)) (agent : ℕ) (name payload : List ℕ) (coalesce : Bool) (r : Option FireError) → fire_error m.agent (event_of name payload) coalesce ≡ r
    → Acts m (Of agent (acts.Fire name payload coalesce)) given (called m (planned m.agent (fired_as r m.agent (event_of name payload) coalesce)) fire_gives)
acts-fire lower m given agent name payload coalesce (Some error) is = stays m tt
acts-fire lower m given agent name payload coalesce None is = record {
  effect = kept-or-failed (λ o. Effect m (Of agent (acts.Fire name payload coalesce)) given (called m o fire_gives)) m.agent (fired_as None m.agent (event_of name payload) coalesce)
      (fires agent name payload coalesce is) (λ d. snaps m tt);
  sound = λ g. ready-fired lower m.agent (event_of name payload) coalesce None (ready m.agent g) is;
}

-- the effect of a delivery, and that it leaves its agent sound
abbrev DeliveryEffect : IdealNode → ℕ → ℕ → ℕ → List ℕ → Step (Result Outcome ReceiveError) → Type 0
DeliveryEffect m to number now packet o = Effect m (Of to (acts.Deliver number now)) (Some packet) (called m o (receive_gives packet))

abbrev DeliveryActs : IdealNode → ℕ → ℕ → ℕ → List ℕ → Step (Result Outcome ReceiveError) → Type 0
DeliveryActs m to number now packet o = Acts m (Of to (acts.Deliver number now)) (Some packet) (called m o (receive_gives packet))

-- why the packet was ignored, if it contains an event
abbrev IgnoredAs : IdealAgent → Reason → Result Message WireError → Type 0
IgnoredAs i reason (Ok (user_event e)) = admission i e.time (event_of e.name e.payload) ≡ Some reason
IgnoredAs i reason _ = Unit {0}

ignored : (i : IdealAgent) (packet : List ℕ) (r : Result Message WireError) (reason : Reason) → decoded packet ≡ r → IgnoredAs i reason r → IsIdle i (Some packet) (lines.Ignored reason)
ignored i packet r reason is why p e given reads =
    let same : packet ≡ p = cc given in
    subst (IgnoredAs i reason) (sym is ∙ ap decoded same ∙ reads) why

acts-event : Below → (m : IdealNode) (to number now : ℕ) (packet : List ℕ) (e : UserEvent) (r : Option Reason) → decoded packet ≡ Ok (user_event e) → m.agent.snapshot.stopped ≡ false → admission m.agent e.time (event_of e.name e.payload) ≡ r
    → DeliveryActs m to number now packet (planned m.agent (received_as r m.agent e.time (event_of e.name e.payload) e.coalesce))
acts-event lower m to number now packet e r is runs why = record {
  effect = by r why;
  sound = λ g. ready-received lower m.agent e.time (event_of e.name e.payload) e.coalesce r (ready m.agent g) runs (lower.in_range packet (user_event e) is) why;
}
  where
    by : (r : Option Reason) → admission m.agent e.time (event_of e.name e.payload) ≡ r → DeliveryEffect m to number now packet (planned m.agent (received_as r m.agent e.time (event_of e.name e.payload) e.coalesce))
    by (Some reason) why = idles m _ _ _ _ refl refl refl refl refl (ignored m.agent packet (Ok (user_event e)) reason is why)
    by None new = kept-or-failed (DeliveryEffect m to number now packet) m.agent (received_as None m.agent e.time (event_of e.name e.payload) e.coalesce) (passes_on packet e is new) (λ d. snaps m tt)

-- ---- queries

acts-query : Below → (m : IdealNode) (to number now : ℕ) (packet : List ℕ) (q : Query) (r : Option Reason) → decoded packet ≡ Ok (query q) → m.agent.snapshot.stopped ≡ false → query_admission m.agent q.time q.id ≡ r
    → DeliveryActs m to number now packet (planned m.agent (query_received_as false r m.agent now q))
acts-query lower m to number now packet q r is runs why = record { effect = by r why; sound = λ g. ready-query_received lower m.agent now q r (ready m.agent g) runs (lower.in_range packet (query q) is).time why }
  where
    by : (r : Option Reason) → query_admission m.agent q.time q.id ≡ r → DeliveryEffect m to number now packet (planned m.agent (query_received_as false r m.agent now q))
    by (Some reason) why = idles m _ _ _ _ refl refl refl refl refl (ignored m.agent packet (Ok (query q)) reason is tt)
    by None new = kept-or-failed (DeliveryEffect m to number now packet) m.agent (query_received_as false None m.agent now q) (is_asked to number packet now q is new) (λ d. snaps m tt)

acts-response : (m : IdealNode) (to number now : ℕ) (packet : List ℕ) (r : QueryResponse) (o : Option OpenQuery) → decoded packet ≡ Ok (query_response r) → fired_query_at r.time m.agent.fired_queries ≡ o
    → DeliveryActs m to number now packet (planned m.agent (response_received_at o m.agent now r))
acts-response m to number now packet r None is at = stays m (ignored m.agent packet (Ok (query_response r)) _ is tt)
acts-response m to number now packet r (Some q) is at = by (answer_ignore_reason now r q) refl
  where
    by-room : (full ack : Bool) → answer_ignore_reason now r q ≡ None → is_ack r ≡ ack → DeliveryActs m to number now packet (planned m.agent (counts_where full ack m.agent r q))
    by-room true ack none kind = stays m tt
    by-room false true none kind = record { effect = counts to number now packet r q true is at none kind; sound = λ g. ready-counted m.agent now r q (ready m.agent g) at none }
    by-room false false none kind = record { effect = counts to number now packet r q false is at none kind; sound = λ g. ready-counted m.agent now r q (ready m.agent g) at none }

    by : (s : Option Reason) → answer_ignore_reason now r q ≡ s → DeliveryActs m to number now packet (planned m.agent (response_received_as s m.agent r q))
    by (Some reason) none = stays m (ignored m.agent packet (Ok (query_response r)) reason is tt)
    by None none = by-room (is_full m.agent.config.responders r q) (is_ack r) none refl

acts-asks : Below → (m : IdealNode) (given : Option (List ℕ)) (agent : ℕ) (q : NewQuery) (r : Option QueryError) → query_error m.agent q.id q.name q.payload q.params ≡ r
    → Acts m (Of agent (acts.Query q)) given (called m (planned m.agent (query_fired_as q.params.tags_pass r m.agent q.moment (as_message m q))) query_gives)
acts-asks lower m given agent q (Some error) is = stays m tt
acts-asks lower m given agent q None is = record {
  effect = kept-or-failed (λ o. Effect m (Of agent (acts.Query q)) given (called m o query_gives)) m.agent (query_fired_as q.params.tags_pass None m.agent q.moment (as_message m q)) (asks agent q is) (λ d. snaps m tt);
  sound = λ g. ready-query_fired lower q.params.tags_pass m.agent q.moment (as_message m q) None (ready m.agent g) refl (λ e. may-ask m.agent q.id q.name q.payload q.params is);
}

acts-responds : (m : IdealNode) (given : Option (List ℕ)) (agent number now : ℕ) (payload : List ℕ) (q : Option (Option DeliveredQuery)) → slice_get m.handed number ≡ q
    → Acts m (Of agent (acts.Respond number now payload)) given (responds m number q now payload)
acts-responds m given agent number now payload None at = stays m tt
acts-responds m given agent number now payload (Some None) at = stays m tt
acts-responds m given agent number now payload (Some (Some h)) at = by (respond_error h now payload) refl
  where
    by : (r : Option RespondError) → respond_error h now payload ≡ r → Acts m (Of agent (acts.Respond number now payload)) given (responds_as r m number h payload)
    by (Some error) is = stays m tt
    by None is = record { effect = replies agent number now payload h at is; sound = λ g. ready m.agent g }

-- ---- deliveries

acts-read : Below → (m : IdealNode) (to number now : ℕ) (packet : List ℕ) (r : Result Message WireError) → decoded packet ≡ r → m.agent.snapshot.stopped ≡ false → DeliveryActs m to number now packet (planned m.agent (receive_read false m.agent now r))
acts-read lower m to number now packet (Ok (user_event e)) is runs = acts-event lower m to number now packet e (admission m.agent e.time (event_of e.name e.payload)) is runs refl
acts-read lower m to number now packet (Ok (query q)) is runs = acts-query lower m to number now packet q (query_admission m.agent q.time q.id) is runs refl
acts-read lower m to number now packet (Ok (query_response r)) is runs = acts-response m to number now packet r (fired_query_at r.time m.agent.fired_queries) is refl
acts-read lower m to number now packet _ is runs = stays m tt

acts-delivers : Below → (m : IdealNode) (to number now : ℕ) (given : Option (List ℕ)) → Acts m (Of to (acts.Deliver number now)) given (delivers m now given)
acts-delivers lower m to number now None = stays m tt
acts-delivers lower m to number now (Some packet) = by m.agent.snapshot.stopped refl
  where
    by : (b : Bool) → m.agent.snapshot.stopped ≡ b → DeliveryActs m to number now packet (planned m.agent (cond b (answers m.agent (Err receives.Stopped)) (receive_read false m.agent now (decoded packet))))
    by true is = stays m tt
    by false runs = acts-read lower m to number now packet (decoded packet) refl runs

-- ---- merges

heard-one : (i : IdealAgent) (e : TimedEntry EventBody) (es : List (TimedEntry EventBody)) (r : Option Reason) → admission i e.time e.key ≡ r
    → (let o = planned i (received_as r i e.time e.key false) in Hears i o.agent (e ∷ es) (handed_by o.answer))
heard-one i e es (Some reason) is = rests i _ (e ∷ es) refl refl refl refl refl
heard-one i e es None is =
    kept-or-failed {R = Result Outcome ReceiveError} (λ o. Hears i o.agent (e ∷ es) (handed_by o.answer)) i (received_as None i e.time e.key false) (record {
      config = refl;
      life = refl;
      events = enters-one i.life i.config.per_time e.time e.key i.events.history (event-room i e.time e.key is);
      queries = refl;
      fired_queries = refl;
      among = All-cons (Contains (e ∷ es)) e [] (All-head (Contains (e ∷ es)) e es (All-contains_itself (e ∷ es))) (All-nil (Contains (e ∷ es)));
    }) (λ s. rests i _ (e ∷ es) refl refl refl refl refl)

heard-then : (i j k : IdealAgent) (e : TimedEntry EventBody) (es : List (TimedEntry EventBody)) (some more : List EventOut) → Hears i j (e ∷ es) some → Hears j k es more → Hears i k (e ∷ es) (some ++ more)
heard-then i j k e es some more first next = record {
  config = next.config ∙ first.config;
  life = next.life ∙ first.life;
  events = subst (Enters i.life i.config.per_time i.events.history k.events.history) (sym (map-append out_in some more))
      (enters-then i.life i.config.per_time i.events.history j.events.history k.events.history (map out_in some) (map out_in more) first.events
      (subst (λ (l : ℕ). Enters l i.config.per_time j.events.history k.events.history (map out_in more)) first.life
      (subst (λ (c : Config). Enters j.life c.per_time j.events.history k.events.history (map out_in more)) first.config next.events)));
  queries = next.queries ∙ first.queries;
  fired_queries = next.fired_queries ∙ first.fired_queries;
  among = subst (All (Contains (e ∷ es))) (sym (map-append out_in some more))
      (All-append (Contains (e ∷ es)) (map out_in some) (map out_in more) first.among (All-weaker (Contains es) (Contains (e ∷ es)) (λ x c. Contains-append_right (e ∷ []) es x c) (map out_in more) next.among));
}

heard-on : (i : IdealAgent) (e : TimedEntry EventBody) (es : List (TimedEntry EventBody)) (o : Step (Result Outcome ReceiveError)) (rest : IdealAgent → Merged) → Hears i o.agent (e ∷ es) (handed_by o.answer)
    → (let n = rest o.agent in Hears o.agent n.agent es n.events) → (let n = merges_on o rest in Hears i n.agent (e ∷ es) n.events)
heard-on i e es o rest first next = by o.answer first
  where
    by : (r : Result Outcome ReceiveError) → Hears i o.agent (e ∷ es) (handed_by r) → (let n = merges_on (record { agent = o.agent; answer = r }) rest in Hears i n.agent (e ∷ es) n.events)
    by (Ok outcome) first = heard-then i o.agent (rest o.agent).agent e es (handed_by (Ok outcome)) (rest o.agent).events first next
    by (Err error) first = first

heard : (es : List (TimedEntry EventBody)) (i : IdealAgent) → (let o = merges_events es i in Hears i o.agent es o.events)
heard [] i = rests i i [] refl refl refl refl refl
heard (e ∷ es) i = let o = planned i (receive_one i e) in heard-on i e es o (merges_events es) (heard-one i e es (admission i e.time e.key) refl) (heard es o.agent)

-- an agent that differs only in its clocks, its minimums and its snapshot
record Rested (i j : IdealAgent) : Type 0 where
  config : j.config ≡ i.config
  life : j.life ≡ i.life
  events : j.events.history ≡ i.events.history
  queries : j.queries.history ≡ i.queries.history
  fired_queries : j.fired_queries ≡ i.fired_queries

-- if this effect leads from the changed agent to another one, it leads there from the original agent, too
hears-from : (i j k : IdealAgent) (es : List (TimedEntry EventBody)) (outs : List EventOut) → Rested i j → Hears j k es outs → Hears i k es outs
hears-from i j k es outs r h = record {
  config = h.config ∙ r.config;
  life = h.life ∙ r.life;
  events = subst (λ (l : List (Past EventBody)). Enters i.life i.config.per_time l k.events.history (map out_in outs)) r.events
      (subst (λ (l : ℕ). Enters l i.config.per_time j.events.history k.events.history (map out_in outs)) r.life
      (subst (λ (c : Config). Enters j.life c.per_time j.events.history k.events.history (map out_in outs)) r.config h.events));
  queries = h.queries ∙ r.queries;
  fired_queries = h.fired_queries ∙ r.fired_queries;
  among = h.among;
}

-- an agent that merges the clocks of a state
rested-heard : (i : IdealAgent) (s : PushPull) (join : Bool) → Rested i (planned i (hear i s join)).agent
rested-heard i s join = by (written_min_line i.config s join)
  where
    by : (line : Option (List ℕ)) → Rested i (planned i (heard_by line i s join)).agent
    by None = record { config = refl; life = refl; events = refl; queries = refl; fired_queries = refl }
    by (Some line) =
        kept-or-failed (λ o. Rested i o.agent) i (heard_by (Some line) i s join) (record { config = refl; life = refl; events = refl; queries = refl; fired_queries = refl }) (λ d. record { config = refl; life = refl; events = refl; queries = refl; fired_queries = refl })

pub heard-config : (i : IdealAgent) (s : PushPull) (join : Bool) → (planned i (hear i s join)).agent.config ≡ i.config
heard-config i s join = (rested-heard i s join).config

pub received-config : (i : IdealAgent) (e : TimedEntry EventBody) → (planned i (receive_one i e)).agent.config ≡ i.config
received-config i e = (heard-one i e [] (admission i e.time e.key) refl).config

merge-effect : (m : IdealNode) (to number : ℕ) (join : Bool) (packet : List ℕ) (s : PushPull) → decoded packet ≡ Ok (push_pull s) → (o : Step (Result (Unit {0}) MergeError)) → Rested m.agent o.agent
    → Effect m (Of to (acts.Merge number join)) (Some packet) (merges_heard m (events_of s.slots) o)
merge-effect m to number join packet s is o r = by o.answer
  where
    h : (let n = merges_events (events_of s.slots) o.agent in Hears m.agent n.agent (events_given (Some packet)) n.events)
    h =
        let n : Merged = merges_events (events_of s.slots) o.agent in
        subst (λ es. Hears m.agent n.agent es n.events) (ap events_brought (sym is)) (hears-from m.agent o.agent n.agent (events_of s.slots) n.events r (heard (events_of s.slots) o.agent))

    merged : (failed : Bool) → (let n = merges_events (events_of s.slots) o.agent in Effect m (Of to (acts.Merge number join)) (Some packet)
        (record { node = record { agent = n.agent; handed = m.handed }; done = record { answer = cond failed (lines.Refused SinkError) lines.Merged; packets = []; events = n.events; handed = None } }))
    merged true = hears _ _ _ h tt
    merged false = hears _ _ _ h tt

    by : (x : Result (Unit {0}) MergeError) → Effect m (Of to (acts.Merge number join)) (Some packet) (merges_heard m (events_of s.slots) (record { agent = o.agent; answer = x }))
    by (Ok done) = merged (merges_events (events_of s.slots) o.agent).failed
    by (Err error) = idles m (Of to (acts.Merge number join)) (Some packet) o.agent (lines.Refused (merge_refusal_of error)) r.config r.life r.events r.queries r.fired_queries tt

acts-merge : Below → (m : IdealNode) (to number : ℕ) (join : Bool) (packet : List ℕ) (f : Option MergeError) (r : Result Message WireError) → decoded packet ≡ r → merge_refusal m.agent.snapshot r ≡ f
    → Acts m (Of to (acts.Merge number join)) (Some packet) (merges_as f m join r)
acts-merge lower m to number join packet None (Ok (push_pull s)) is refuses = record {
  effect = merge-effect m to number join packet s is (planned m.agent (hear m.agent s join)) (rested-heard m.agent s join);
  sound = λ g. ready-merged lower m join packet s (ready m.agent g) is refuses;
}
acts-merge lower m to number join packet (Some error) r is refuses = stays m tt
acts-merge lower m to number join packet None _ is refuses = stays m tt

acts-merges : Below → (m : IdealNode) (to number : ℕ) (join : Bool) (given : Option (List ℕ)) → Acts m (Of to (acts.Merge number join)) given (merges_given m join given)
acts-merges lower m to number join None = stays m tt
acts-merges lower m to number join (Some packet) = acts-merge lower m to number join packet (merge_refusal m.agent.snapshot (decoded packet)) (decoded packet) refl refl

-- ---- states and snapshots

acts-state : (m : IdealNode) (action : Action) (given : Option (List ℕ)) → Acts m action given (sends_state m)
acts-state m action given = by m.agent.snapshot.stopped (has_long (push_pull (state_of (view_of m.agent) [] []))) refl
  where
    by : (stopped long : Bool) → has_long (push_pull (state_of (view_of m.agent) [] [])) ≡ long
        → Acts m action given (does_nothing m (state_gives (cond stopped (Err states.Stopped) (cond long (Err states.TooLong) (Ok (canonical (push_pull (state_of (view_of m.agent) [] []))))))))
    by true long is = stays m tt
    by false true is = stays m tt
    by false false is = record { effect = tells is; sound = λ g. ready m.agent g }

acts-saves : Below → (m : IdealNode) (action : Action) (given : Option (List ℕ)) → Acts m action given (saves m)
acts-saves lower m action given = by m.agent.snapshot.stopped refl
  where
    by : (b : Bool) → m.agent.snapshot.stopped ≡ b → Acts m action given (called m (planned m.agent (cond b (answers m.agent (Err notes.Stopped)) (saving m.agent))) (append_line_gives lines.Saved))
    by true is = stays m tt
    by false is = record {
      effect = kept-or-failed (λ o. Effect m action given (called m o (append_line_gives lines.Saved))) m.agent (saving m.agent) (snaps m tt) (λ d. snaps m tt);
      sound = λ g. ready-saved lower m.agent (ready m.agent g) is;
    }

acts-compacts : Below → (m : IdealNode) (action : Action) (given : Option (List ℕ)) → Acts m action given (compacts m)
acts-compacts lower m action given = by m.agent.snapshot.stopped
  where
    by : (b : Bool) → Acts m action given (called m (planned m.agent (cond b (answers m.agent (Err notes.Stopped)) (compacting m.agent))) (append_line_gives lines.Compacted))
    by true = stays m tt
    by false = record {
      effect = kept-or-failed (λ o. Effect m action given (called m o (append_line_gives lines.Compacted))) m.agent (compacting m.agent) (snaps m tt) (λ d. snaps m tt);
      sound = λ g. ready-compacted lower m.agent (ready m.agent g);
    }

-- ---- each action

acts-of : Below → (m : IdealNode) (sent : List (List ℕ)) (a : ℕ) (act : Act) → Acts m (Of a act) (given_by sent act) (apply m sent act)
acts-of lower m sent a (acts.Fire name payload coalesce) = acts-fire lower m None a name payload coalesce (fire_error m.agent (event_of name payload) coalesce) refl
acts-of lower m sent a (acts.Deliver number now) = acts-delivers lower m a number now (slice_get sent number)
acts-of lower m sent a acts.State = acts-state m (Of a acts.State) None
acts-of lower m sent a (acts.Merge number join) = acts-merges lower m a number join (slice_get sent number)
acts-of lower m sent a (acts.Query q) = acts-asks lower m None a q (query_error m.agent q.id q.name q.payload q.params) refl
acts-of lower m sent a (acts.Respond number now payload) = acts-responds m None a number now payload (slice_get m.handed number) refl
acts-of lower m sent a (acts.Restart tail) = record { effect = reopens a tail; sound = λ g. ready-opened lower m.agent (text_after m.agent tail) g.consistent.sound (text-past lower m.agent tail g) }
acts-of lower m sent a (acts.Break call n) = record { effect = snaps m tt; sound = λ g. ready-planned m.agent (plan_with call n) (ready m.agent g) }
acts-of lower m sent a (acts.Close now) = record { effect = closes_due a now; sound = λ g. ready-closed m.agent now (ready m.agent g) }
acts-of lower m sent a acts.Save = acts-saves lower m (Of a acts.Save) None
acts-of lower m sent a acts.Compact = acts-compacts lower m (Of a acts.Compact) None

pub effect : Below → (m : IdealNode) (sent : List (List ℕ)) (a : ℕ) (act : Act) → Effect m (Of a act) (given_by sent act) (apply m sent act)
effect lower m sent a act = (acts-of lower m sent a act).effect

-- no action changes the settings
pub settings-kept : (m : IdealNode) (action : Action) (given : Option (List ℕ)) (o : Applied) → Effect m action given o → o.node.agent.config ≡ m.agent.config
settings-kept m action given _ (hears j outs answer h idle) = h.config
settings-kept m action given _ _ = refl

pub representable-apply : Below → (m : IdealNode) (sent : List (List ℕ)) (act : Act) → CanTellAct m.agent.config act (given_by sent act) → IsRepresentable m.agent → IsRepresentable (apply m sent act).node.agent
representable-apply lower m sent act told g =
    let r = (acts-of lower m sent 0 act).sound g in
    let same : (apply m sent act).node.agent.config ≡ m.agent.config = settings-kept m (Of 0 act) (given_by sent act) (apply m sent act) (effect lower m sent 0 act) in
    record { consistent = r.consistent; durable = λ keeps. durable-apply lower m sent act g told (sym (ap (λ (c : Config). c.keep_events) same) ∙ keeps); events = r.events; queries = r.queries }
