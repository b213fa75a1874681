-- What a turn hands out, and which queries enter.
use Rattle.serf_model.proofs.Names.{Bool, List, None, Option, Some, [], ap, cond, false, inl, inr, length, map, refl, subst, sym, true, ℕ, ◌++◌, ◌∙◌, ◌∷◌, ◌≡◌, ◌⊎◌, All-append, All-cons, All-contains, All-contains_itself, All-head, All-nil, All-tail, All-weaker, Contains-append_left, Contains-append_right, fold, option_map, option_to_list, All, Contains, slice_get, canonical, decoded, Query, query, EventBody, event_of, TimedEntry, DeliveredQuery, IdealAgent, all_pass, handed_if_passed, handed_query, query_at, Config, EventOut, Below, Applied, Cluster, IdealNode, Run, after, applied, apply, event_line, handed_line, run_of, start, step, HandsOutEntered, HandsOutGiven, IsHandedOf, MessagesFired, NewIsHanded, OnlyToActor, events_given, message_at, message_entered, message_fired, messages_fired, new_in, query_message, says_new, HasShortQueries, HasSizes, Turn, actor_of, event_in, events_brought, events_in_packet, fired_by, given_by, injected_in, queried_in, query_packets, Act, Action, Of, Answer, EventLine, QueryLine}
use Rattle.serf_model.specs.declared.action.Act.TheVariants as acts
use Rattle.serf_model.specs.declared.line.Answer.TheVariants as answers
use Rattle.serf_model.proofs.Effects.{Effect, IsIdle, asks, counts, effect, fires, hears, is_asked, passes_on, as_message}
use Rattle.serf_model.proofs.PerAgent.{Each}
use Rattle.serf_model.proofs.PerTimeBound.{out_in}
use Rattle.serf_model.proofs.QueriesEntered.{own-decoded}
use Rattle.serf_model.proofs.QueryOrigins.{IsAsked, WasAsked, fired_queries-start, fired_queries-step}
use Rattle.serf_model.proofs.SettingsKept.{HasSettings, settings-start, settings-step, short-at}
use Rattle.serf_model.proofs.StepCases.{step-cases}
use Rattle.serf_model.proofs.TurnLaws.{at_each_nil, at_each_push, flat_map-push, fold_keeps}

-- ---- to whom

abbrev ToActorAt : List Turn → Turn → Type 0
ToActorAt before turn = All (λ (e : EventLine). actor_of turn.action ≡ Some e.agent) turn.line.events × All (λ (h : QueryLine). actor_of turn.action ≡ Some h.agent) (option_to_list turn.line.handed)

events-to-actor : (b : ℕ) (outs : List EventOut) → All (λ (e : EventLine). Some b ≡ Some e.agent) (map (event_line b) outs)
events-to-actor b [] = All-nil (λ (e : EventLine). Some b ≡ Some e.agent)
events-to-actor b (out ∷ outs) = All-cons (λ (e : EventLine). Some b ≡ Some e.agent) (event_line b out) (map (event_line b) outs) refl (events-to-actor b outs)

handed-to-actor : (b n : ℕ) (h : Option DeliveredQuery) → All (λ (h : QueryLine). Some b ≡ Some h.agent) (option_to_list (option_map (handed_line b n) h))
handed-to-actor b n None = All-nil (λ (h : QueryLine). Some b ≡ Some h.agent)
handed-to-actor b n (Some q) = All-cons (λ (h : QueryLine). Some b ≡ Some h.agent) (handed_line b n q) [] refl (All-nil (λ (h : QueryLine). Some b ≡ Some h.agent))

to-actor : (before : List Turn) (c : Cluster) (action : Action) → ToActorAt before (step c action).turn
to-actor before c action =
    step-cases (λ s. ToActorAt before s.turn) c action (λ bytes. (All-nil _, All-nil _)) (λ b act at. (All-nil _, All-nil _))
    (λ b act m is at. (events-to-actor b (apply m c.sent act).done.events, handed-to-actor b _ (apply m c.sent act).done.handed))

-- ---- which events

lines-all : (Q : TimedEntry EventBody → Type 0) (b : ℕ) (outs : List EventOut) → All Q (map out_in outs) → All (λ e. Q (event_in e)) (map (event_line b) outs)
lines-all Q b [] all = All-nil (λ e. Q (event_in e))
lines-all Q b (out ∷ outs) all = All-cons (λ e. Q (event_in e)) (event_line b out) (map (event_line b) outs) (All-head Q (out_in out) (map out_in outs) all) (lines-all Q b outs (All-tail Q (out_in out) (map out_in outs) all))

lines-in : (b : ℕ) (outs : List EventOut) → map event_in (map (event_line b) outs) ≡ map out_in outs
lines-in b [] = refl
lines-in b (out ∷ outs) = ap (λ l. out_in out ∷ l) (lines-in b outs)

-- the event was fired, or the given packet carries it
abbrev IsGiven : Action → Option (List ℕ) → Answer → TimedEntry EventBody → Type 0
IsGiven action given answer e = Contains (fired_by action answer) e ⊎ Contains (events_given given) e

one-fired : (e : TimedEntry EventBody) (given : List (TimedEntry EventBody)) → All (λ x. Contains (e ∷ []) x ⊎ Contains given x) (e ∷ [])
one-fired e given = All-weaker (Contains (e ∷ [])) (λ x. Contains (e ∷ []) x ⊎ Contains given x) (λ x h. inl h) (e ∷ []) (All-contains_itself (e ∷ []))

one-given : (fired given : List (TimedEntry EventBody)) (e : TimedEntry EventBody) → given ≡ e ∷ [] → All (λ x. Contains fired x ⊎ Contains given x) (e ∷ [])
one-given fired given e is = All-weaker (Contains given) (λ x. Contains fired x ⊎ Contains given x) (λ x h. inr h) (e ∷ []) (subst (λ l. All (Contains given) l) is (All-contains_itself given))

given-effect : (m : IdealNode) (action : Action) (given : Option (List ℕ)) (o : Applied) → Effect m action given o → All (IsGiven action given o.done.answer) (map out_in o.done.events)
given-effect m action given _ (hears j outs answer h idle) = All-weaker (Contains (events_given given)) (IsGiven action given answer) (λ e c. inr c) (map out_in outs) h.among
given-effect m _ given _ (fires agent name payload coalesce is) = one-fired _ (events_given given)
given-effect m action _ _ (passes_on packet e is new) = one-given [] (events_in_packet packet) (record { time = e.time; key = event_of e.name e.payload }) (ap events_brought is)
given-effect m action given o _ = All-nil (IsGiven action given o.done.answer)

abbrev GivenAt : List Turn → Turn → Type 0
GivenAt before turn = All (λ (e : EventLine). IsGiven turn.action turn.given turn.line.answer (event_in e)) turn.line.events

given-out : Below → (before : List Turn) (c : Cluster) (action : Action) → GivenAt before (step c action).turn
given-out lower before c action =
    step-cases (λ s. GivenAt before s.turn) c action (λ bytes. All-nil _) (λ b act at. All-nil _)
    (λ b act m is at. lines-all (IsGiven (Of b act) (given_by c.sent act) (apply m c.sent act).done.answer) b (apply m c.sent act).done.events
    (given-effect m (Of b act) (given_by c.sent act) (apply m c.sent act) (effect lower m c.sent b act)))

-- ---- what is new

not-new : (i : IdealAgent) (given : Option (List ℕ)) (answer : Answer) → IsIdle i given answer → says_new answer ≡ true → ⊥
not-new i given (answers.Fired t) idle is = idle
not-new i given answers.New idle is = idle
not-new i given _ idle is = cc

-- what is new is handed out, and nothing else is
abbrev NewIn : Action → Option (List ℕ) → Applied → Type 0
NewIn action given o = says_new o.done.answer ≡ true
    → (e : TimedEntry EventBody) × (map out_in o.done.events ≡ e ∷ []) × (new_in (record { action = action; line = record { answer = o.done.answer; sent = []; events = []; handed = None }; given = given; packets = [] }) ≡ e ∷ [])

new-effect : (m : IdealNode) (action : Action) (given : Option (List ℕ)) (o : Applied) → Effect m action given o → NewIn action given o
new-effect m action given _ (hears j outs answer h idle) = λ is. absurd (not-new m.agent given answer idle is)
new-effect m _ given _ (fires agent name payload coalesce is) = λ says. (_, refl, refl)
new-effect m action _ _ (passes_on packet e is new) = λ says. (_, refl, ap events_brought is)
new-effect m _ given _ (asks agent q is) = λ says. absurd (cc says)
new-effect m action _ _ (is_asked to number packet now q is new) = λ says. absurd (cc says)
new-effect m _ _ _ (counts to number now packet r q true is at none kind) = λ says. absurd (cc says)
new-effect m _ _ _ (counts to number now packet r q false is at none kind) = λ says. absurd (cc says)
new-effect m action given o _ = λ says. absurd (cc says)

abbrev NewAt : List Turn → Turn → Type 0
NewAt before turn = says_new turn.line.answer ≡ true → (e : TimedEntry EventBody) × (map event_in turn.line.events ≡ e ∷ []) × (new_in turn ≡ e ∷ [])

new-out : Below → (before : List Turn) (c : Cluster) (action : Action) → NewAt before (step c action).turn
new-out lower before c action =
    step-cases (λ s. NewAt before s.turn) c action (λ bytes is. absurd (cc is)) (λ b act at is. absurd (cc is))
    (λ b act m of at is. let h = new-effect m (Of b act) (given_by c.sent act) (apply m c.sent act) (effect lower m c.sent b act) is in (h.0, lines-in b (apply m c.sent act).done.events ∙ h.1, h.2))

-- ---- which queries

pub passed-on : (tags : Bool) (config : Config) (now : ℕ) (q : Query) (h : DeliveredQuery) → handed_if_passed tags config now q ≡ Some h → handed_query config now q ≡ h
passed-on tags config now q h e = by (all_pass tags q.filters config.name) e
  where
    by : (b : Bool) → cond b (Some (handed_query config now q)) None ≡ Some h → handed_query config now q ≡ h
    by true e = cc e
    by false e = absurd (cc e)

-- what is handed out of a query is what the message of the entered query contains
abbrev HandsEntered : List Config → Action → Option (List ℕ) → Applied → Type 0
HandsEntered configs action given o = (a n : ℕ) (h : DeliveredQuery) → o.done.handed ≡ Some h
    → (q : Query) × (message_entered configs (record { action = action; line = record { answer = o.done.answer; sent = []; events = []; handed = None }; given = given; packets = [] }) ≡ q ∷ []) × IsHandedOf (handed_line a n h) q

handed-of : (a n : ℕ) (config : Config) (now : ℕ) (q : Query) (h : DeliveredQuery) → handed_query config now q ≡ h → IsHandedOf (handed_line a n h) q
handed-of a n config now q h same = record { time = ap (λ (x : DeliveredQuery). x.time) (sym same); id = ap (λ (x : DeliveredQuery). x.id) (sym same); name = ap (λ (x : DeliveredQuery). x.name) (sym same); payload = ap (λ (x : DeliveredQuery). x.payload) (sym same) }

hands-effect : (configs : List Config) (m : IdealNode) (action : Action) (given : Option (List ℕ)) (o : Applied) (b : ℕ) → actor_of action ≡ Some b → slice_get configs b ≡ Some m.agent.config → Effect m action given o → HandsEntered configs action given o
hands-effect configs m _ given _ b actor settings (asks agent q is) = λ a n h e.
    let me : agent ≡ b = cc actor in (
      as_message m q,
      ap (λ (c : Option Config). map (λ c. query_at m.agent.queries.clock c.name q.id q.name q.payload q.params) (option_to_list c)) (ap (slice_get configs) me ∙ settings),
      handed-of a n m.agent.config q.moment (as_message m q) h (passed-on q.params.tags_pass m.agent.config q.moment (as_message m q) h e),
    )
hands-effect configs m action _ _ b actor settings (is_asked to number packet now q is new) = λ a n h e. (q, ap query_message is, handed-of a n m.agent.config now q h (passed-on false m.agent.config now q h e))
hands-effect configs m action given _ b actor settings _ = λ a n h e. absurd (cc e)

abbrev EnteredAt : List Config → List Turn → Turn → Type 0
EnteredAt configs before turn = (h : QueryLine) → turn.line.handed ≡ Some h → (q : Query) × (message_entered configs turn ≡ q ∷ []) × IsHandedOf h q

entered-applied : Below → (configs : List Config) (before : List Turn) (c : Cluster) (b : ℕ) (act : Act) (m : IdealNode) → slice_get configs b ≡ Some m.agent.config → EnteredAt configs before (applied c b act (apply m c.sent act)).turn
entered-applied lower configs before c b act m settings = by (apply m c.sent act).done.handed refl
  where
    by : (r : Option DeliveredQuery) → (apply m c.sent act).done.handed ≡ r → (h : QueryLine) → option_map (handed_line b (length (apply m c.sent act).node.handed)) r ≡ Some h
        → (q : Query) × (message_entered configs (applied c b act (apply m c.sent act)).turn ≡ q ∷ []) × IsHandedOf h q
    by None is h e = absurd (cc e)
    by (Some x) is h e =
        let same : handed_line b (length (apply m c.sent act).node.handed) x ≡ h = cc e in
        let found = hands-effect configs m (Of b act) (given_by c.sent act) (apply m c.sent act) b refl settings (effect lower m c.sent b act) b (length (apply m c.sent act).node.handed) x is in
        (found.0, found.1, subst (λ (l : QueryLine). IsHandedOf l found.0) same found.2)

entered-out : Below → (configs : List Config) (before : List Turn) (c : Cluster) (action : Action) (turns : List Turn) → Each (HasSettings configs) c turns → EnteredAt configs before (step c action).turn
entered-out lower configs before c action turns all =
    step-cases (λ s. EnteredAt configs before s.turn) c action (λ bytes h e. absurd (cc e)) (λ b act at h e. absurd (cc e)) (λ b act m is at. entered-applied lower configs before c b act m (all b m at))

-- ---- the messages that were fired

-- the packet contains only queries in this list
abbrev Speaks : List Query → List ℕ → Type 0
Speaks messages packet = All (Contains messages) (query_message (decoded packet))

speaks-nothing : (i : IdealAgent) (given : Option (List ℕ)) (answer : Answer) (packets : List (List ℕ)) → IsIdle i given answer → query_packets answer packets ≡ []
speaks-nothing i given (answers.Queried t) packets idle = absurd idle
speaks-nothing i given _ packets idle = refl

-- the packet that is sent for a fired query contains the message that was fired
abbrev SpeaksOwn : List Config → Action → Option (List ℕ) → Applied → Type 0
SpeaksOwn configs action given o =
    All (Speaks (message_fired configs (record { action = action; line = record { answer = o.done.answer; sent = []; events = []; handed = None }; given = given; packets = [] }))) (query_packets o.done.answer o.done.packets)

speaks-effect : Below → (configs : List Config) (m : IdealNode) (action : Action) (given : Option (List ℕ)) (o : Applied) (b : ℕ) → HasShortQueries m.agent.config → HasSizes action → actor_of action ≡ Some b → slice_get configs b ≡ Some m.agent.config → Effect m action given o → SpeaksOwn configs action given o
speaks-effect lower configs m action given _ b short sized actor settings (hears j outs answer h idle) =
    let own : List Query = message_fired configs (record { action = action; line = record { answer = answer; sent = []; events = []; handed = None }; given = given; packets = [] }) in
    subst (All (Speaks own)) (sym (speaks-nothing m.agent given answer [] idle)) (All-nil (Speaks own))
speaks-effect lower configs m _ given _ b short sized actor settings (asks agent q is) =
    let me : agent ≡ b = cc actor in
    let own : List Query = message_at configs m.agent.queries.clock (Of agent (acts.Query q)) in
    let fired : own ≡ as_message m q ∷ [] =
    ap (λ (c : Option Config). map (λ c. query_at m.agent.queries.clock c.name q.id q.name q.payload q.params) (option_to_list c)) (ap (slice_get configs) me ∙ settings) in
    All-cons (Speaks own) (canonical (query (as_message m q))) []
    (subst (All (Contains own)) (sym (ap query_message (own-decoded lower m.agent q.id q.name q.payload q.params short sized is))) (subst (λ l. All (Contains l) (as_message m q ∷ [])) (sym fired) (All-contains_itself (as_message m q ∷ []))))
    (All-nil (Speaks own))
speaks-effect lower configs m action _ _ b short sized actor settings (counts to number now packet r q true is at none kind) = All-nil (Speaks [])
speaks-effect lower configs m action _ _ b short sized actor settings (counts to number now packet r q false is at none kind) = All-nil (Speaks [])
speaks-effect lower configs m action given _ b short sized actor settings _ = All-nil (Speaks [])

abbrev SpeaksAt : List Config → Turn → Type 0
SpeaksAt configs turn = All (Speaks (message_fired configs turn)) (query_packets turn.line.answer turn.packets)

speaks-turn : Below → (configs : List Config) (c : Cluster) (action : Action) (turns : List Turn) → All HasShortQueries configs → HasSizes action → Each (HasSettings configs) c turns → SpeaksAt configs (step c action).turn
speaks-turn lower configs c action turns short sized all =
    step-cases (λ s. SpeaksAt configs s.turn) c action (λ bytes. All-nil (Speaks [])) (λ b act at. All-nil (Speaks []))
    (λ b act m is at. speaks-effect lower configs m (Of b act) (given_by c.sent act) (apply m c.sent act) b (short-at configs b m.agent.config short (all b m at)) (subst HasSizes is sized) refl (all b m at) (effect lower m c.sent b act))

-- ---- a run

abbrev MessageAt : List Config → List Turn → Turn → Type 0
MessageAt configs before turn = (packet : List ℕ) → turn.line.answer ≡ answers.Query → turn.given ≡ Some packet
    → All (Contains (messages_fired configs before)) (query_message (decoded packet)) ⊎ Contains (injected_in before) packet

-- each agent has its settings, and each query that is handed out entered
pub record IsEntering (configs : List Config) (r : Run) : Type 0 where
  pub settings : Each (HasSettings configs) r.cluster r.turns
  pub entered : HandsOutEntered configs r.turns

entering-step : Below → (configs : List Config) (r : Run) (action : Action) → IsEntering configs r → IsEntering configs (after r action)
entering-step lower configs r action h = record {
  settings = settings-step lower configs r action h.settings;
  entered = at_each_push (EnteredAt configs) r.turns (step r.cluster action).turn h.entered (entered-out lower configs r.turns r.cluster action r.turns h.settings);
}

entering-start : (configs : List Config) → IsEntering configs (start configs)
entering-start configs = record { settings = settings-start configs; entered = at_each_nil (EnteredAt configs) }

pub entering-run : Below → (configs : List Config) (actions : List Action) → IsEntering configs (run_of configs actions)
entering-run lower configs actions = fold_keeps (IsEntering configs) after (start configs) actions (entering-start configs) (entering-step lower configs)

-- the packet that was sent for a fired query contains the message that was fired
pub record IsMessaging (configs : List Config) (r : Run) : Type 0 where
  pub entering : IsEntering configs r
  pub fired_queries : IsAsked r.cluster r.turns
  pub own : All (Speaks (messages_fired configs r.turns)) (queried_in r.turns)
  pub fired : MessagesFired configs r.turns

own-more : (configs : List Config) (turns : List Turn) (turn : Turn) → All (Speaks (messages_fired configs turns)) (queried_in turns) → SpeaksAt configs turn
    → All (Speaks (messages_fired configs (turns ++ turn ∷ []))) (queried_in (turns ++ turn ∷ []))
own-more configs turns turn all now =
    let before : List Query = messages_fired configs turns in
    let own : List Query = message_fired configs turn in
    let both : messages_fired configs (turns ++ turn ∷ []) ≡ before ++ own = flat_map-push (message_fired configs) turns turn in
    let ps = query_packets turn.line.answer turn.packets in
    subst (λ l. All (Speaks l) (queried_in (turns ++ turn ∷ []))) (sym both)
    (subst (All (Speaks (before ++ own))) (sym (flat_map-push (λ t. query_packets t.line.answer t.packets) turns turn))
    (All-append (Speaks (before ++ own)) (queried_in turns) ps
    (All-weaker (Speaks before) (Speaks (before ++ own)) (λ p h. All-weaker (Contains before) (Contains (before ++ own)) (λ q c. Contains-append_left before own q c) (query_message (decoded p)) h) (queried_in turns) all)
    (All-weaker (Speaks own) (Speaks (before ++ own)) (λ p h. All-weaker (Contains own) (Contains (before ++ own)) (λ q c. Contains-append_right before own q c) (query_message (decoded p)) h) ps now)))

message-of : (configs : List Config) (turns : List Turn) (packet : List ℕ) → All (Speaks (messages_fired configs turns)) (queried_in turns) → WasAsked turns packet
    → All (Contains (messages_fired configs turns)) (query_message (decoded packet)) ⊎ Contains (injected_in turns) packet
message-of configs turns packet own (inl h) = inl (All-contains (Speaks (messages_fired configs turns)) (queried_in turns) packet own h)
message-of configs turns packet own (inr h) = inr h

messaging-step : Below → (configs : List Config) (r : Run) (action : Action) → All HasShortQueries configs → HasSizes action → IsMessaging configs r → IsMessaging configs (after r action)
messaging-step lower configs r action short sized h =
    let turn : Turn = (step r.cluster action).turn in
    let fired_queries = fired_queries-step lower r action h.fired_queries in
    record {
      entering = entering-step lower configs r action h.entering;
      fired_queries = fired_queries;
      own = own-more configs r.turns turn h.own (speaks-turn lower configs r.cluster action r.turns short sized h.entering.settings);
      fired = at_each_push (MessageAt configs) r.turns turn h.fired (λ packet says given. message-of configs r.turns packet h.own (fired_queries.fired r.turns turn [] refl packet says given));
    }

messaging-start : (configs : List Config) → IsMessaging configs (start configs)
messaging-start configs = record { entering = entering-start configs; fired_queries = fired_queries-start configs; own = All-nil (Speaks []); fired = at_each_nil (MessageAt configs) }

pub messaging-run : Below → (configs : List Config) (actions : List Action) → All HasShortQueries configs → All HasSizes actions → IsMessaging configs (run_of configs actions)
messaging-run lower configs actions short sized = by (start configs) actions sized (messaging-start configs)
  where
    by : (r : Run) (actions : List Action) → All HasSizes actions → IsMessaging configs r → IsMessaging configs (fold after r actions)
    by r [] sized h = h
    by r (action ∷ actions) sized h = by (after r action) actions (All-tail HasSizes action actions sized) (messaging-step lower configs r action short (All-head HasSizes action actions sized) h)

-- the promises that depend neither on the settings nor on the sizes of numbers
pub record IsHandingOut (turns : List Turn) : Type 0 where
  pub to_actor : OnlyToActor turns
  pub given : HandsOutGiven turns
  pub new : NewIsHanded turns

pub handing-out : Below → (configs : List Config) (actions : List Action) → IsHandingOut (run_of configs actions).turns
handing-out lower configs actions =
    fold_keeps (λ (r : Run). IsHandingOut r.turns) after (start configs) actions (record { to_actor = at_each_nil ToActorAt; given = at_each_nil GivenAt; new = at_each_nil NewAt })
    (λ r action h. record {
      to_actor = at_each_push ToActorAt r.turns (step r.cluster action).turn h.to_actor (to-actor r.turns r.cluster action);
      given = at_each_push GivenAt r.turns (step r.cluster action).turn h.given (given-out lower r.turns r.cluster action);
      new = at_each_push NewAt r.turns (step r.cluster action).turn h.new (new-out lower r.turns r.cluster action);
    })
