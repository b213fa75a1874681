-- What each action sends of what it fires, of what is new to its agent, and of what the agent answers.
use Rattle.serf_model.proofs.Names.{Bool, List, None, Ok, Option, Some, [], ap, arith, cond, false, length, map, refl, subst, sym, true, ℕ, ◌++◌, ◌-◌, ◌<◌, ◌^◌, ◌∙◌, ◌∷◌, ◌≡◌, ◌≤◌, ltb-false, nat_lt, option_to_list, Contains, Contains-append_right, not, slice_get, canonical, decoded, Query, QueryResponse, UserEvent, query, query_response, user_event, event_of, event_packet, texts_len, DeliveredQuery, ack_flag, ack_if_passed, ack_packet, all_pass, handed_if_passed, handed_query, has_flag, is_ack, no_broadcast_flag, query_at, respond_error, response_packet, Config, RespondError, Below, Applied, IdealNode, responds, responds_as, message_entered, query_message, HasShortQueries, HasSizes, IsRepresentable, actor_of, Action, Of, NewQuery}
use Rattle.serf_agent.specs.declared.outcome.RespondError.TheVariants as responding
use Rattle.serf_model.specs.declared.action.Act.TheVariants as acts
use Rattle.serf_model.specs.declared.line.Answer.TheVariants as lines
use Rattle.serf_model.proofs.CallsKept.{may-ask, may-fire, response_limit-short}
use Rattle.serf_model.proofs.Effects.{Effect, IsIdle, as_message, asks, counts, fires, hears, is_asked, passes_on}
use Rattle.serf_model.proofs.PerTimeBound.{none-if}
use Rattle.serf_model.proofs.QueriesEntered.{own-decoded}
use Rattle.serf_model.proofs.SendLaws.{AreHandable, answer-spelled, name-short}

-- ---- events

event-spelled : Below → (t : ℕ) (name payload : List ℕ) (coalesce : Bool) → t < 2 ^ 64 - 1 → texts_len (event_of name payload) ≤ 9216
    → decoded (event_packet t (event_of name payload) coalesce) ≡ Ok (user_event (record { time = t; name = name; payload = payload; coalesce = coalesce }))
event-spelled lower t name payload coalesce small short =
    let e : UserEvent = record { time = t; name = name; payload = payload; coalesce = coalesce } in
    lower.spelled (canonical (user_event e)) (user_event e) (lower.canonical (user_event e) small (lower.short.event_fits t name payload coalesce short))

-- these packets are one that spells this event
abbrev pub SpellsEvent : List (List ℕ) → ℕ → List ℕ → List ℕ → Bool → Type 0
SpellsEvent packets t name payload coalesce = (packet : List ℕ) × (packets ≡ packet ∷ []) × (decoded packet ≡ Ok (user_event (record { time = t; name = name; payload = payload; coalesce = coalesce })))

pub fired-effect : Below → (m : IdealNode) (action : Action) (given : Option (List ℕ)) (o : Applied) → Effect m action given o → IsRepresentable m.agent → (a t : ℕ) (name payload : List ℕ) (coalesce : Bool) → action ≡ Of a (acts.Fire name payload coalesce) → o.done.answer ≡ lines.Fired t
    → SpellsEvent o.done.packets t name payload coalesce
fired-effect lower m action given o (hears j outs answer heard idle) g a t name payload coalesce is says = absurd (subst (IsIdle m.agent given) says idle)
fired-effect lower m action given o (fires agent n p c may) g a t name payload coalesce is says =
    let fire = may-fire m.agent (event_of n p) c g.consistent.sound may in
    let same_name : n ≡ name = cc is in
    let same_payload : p ≡ payload = cc is in
    let same_flag : c ≡ coalesce = cc is in
    let time : m.agent.events.clock ≡ t = cc says in
    subst (λ (s : ℕ). SpellsEvent (event_packet m.agent.events.clock (event_of n p) c ∷ []) s name payload coalesce) time
    (subst (λ (s : List ℕ). SpellsEvent (event_packet m.agent.events.clock (event_of n p) c ∷ []) m.agent.events.clock s payload coalesce) same_name
    (subst (λ (s : List ℕ). SpellsEvent (event_packet m.agent.events.clock (event_of n p) c ∷ []) m.agent.events.clock n s coalesce) same_payload
    (subst (λ (s : Bool). SpellsEvent (event_packet m.agent.events.clock (event_of n p) c ∷ []) m.agent.events.clock n p s) same_flag
    (event_packet m.agent.events.clock (event_of n p) c, refl, event-spelled lower m.agent.events.clock n p c fire.clock fire.short))))
fired-effect lower m action given o (counts to number now packet r q true is at none kind) g a t name payload coalesce fire says = absurd (cc says)
fired-effect lower m action given o (counts to number now packet r q false is at none kind) g a t name payload coalesce fire says = absurd (cc says)
fired-effect lower m action given o _ g a t name payload coalesce is says = absurd (cc says)

-- a new event is sent on
pub new-effect : (m : IdealNode) (action : Action) (given : Option (List ℕ)) (o : Applied) → Effect m action given o → (packet : List ℕ) → o.done.answer ≡ lines.New → given ≡ Some packet → o.done.packets ≡ packet ∷ []
new-effect m action given o (hears j outs answer heard idle) packet says at = absurd (subst (IsIdle m.agent given) says idle)
new-effect m action given o (passes_on p e is new) packet says at = let same : p ≡ packet = cc at in ap (λ (x : List ℕ). x ∷ []) same
new-effect m action given o (counts to number now p r q true is at none kind) packet says given_is = absurd (cc says)
new-effect m action given o (counts to number now p r q false is at none kind) packet says given_is = absurd (cc says)
new-effect m action given o _ packet says at = absurd (cc says)

-- ---- queries

-- the first of these packets spells the query that an agent of this name fires
abbrev pub SpellsQuery : List (List ℕ) → ℕ → List ℕ → NewQuery → Type 0
SpellsQuery packets t node q = (packet : List ℕ) × (rest : List (List ℕ)) × (packets ≡ packet ∷ rest) × (decoded packet ≡ Ok (query (query_at t node q.id q.name q.payload q.params)))

pub queried-effect : Below → (m : IdealNode) (action : Action) (given : Option (List ℕ)) (o : Applied) → Effect m action given o → HasShortQueries m.agent.config → HasSizes action → (a t : ℕ) (q : NewQuery) → action ≡ Of a (acts.Query q) → o.done.answer ≡ lines.Queried t
    → SpellsQuery o.done.packets t m.agent.config.name q
queried-effect lower m action given o (hears j outs answer heard idle) short sized a t q is says = absurd (subst (IsIdle m.agent given) says idle)
queried-effect lower m action given o (asks agent n may) short sized a t q is says =
    let same : n ≡ q = cc is in
    let time : m.agent.queries.clock ≡ t = cc says in
    let rest : List (List ℕ) = option_to_list (ack_if_passed n.params.tags_pass m.agent.config.name (as_message m n)) in
    let packets : List (List ℕ) = canonical (query (as_message m n)) ∷ rest in
    subst (λ (s : ℕ). SpellsQuery packets s m.agent.config.name q) time
    (subst (λ (x : NewQuery). SpellsQuery packets m.agent.queries.clock m.agent.config.name x) same (canonical (query (as_message m n)), rest, refl, own-decoded lower m.agent n.id n.name n.payload n.params short sized may))
queried-effect lower m action given o (counts to number now packet r x true is at none kind) short sized a t q query_is says = absurd (cc says)
queried-effect lower m action given o (counts to number now packet r x false is at none kind) short sized a t q query_is says = absurd (cc says)
queried-effect lower m action given o _ short sized a t q is says = absurd (cc says)

-- a new query is sent on, unless it forbids this
pub new_query-effect : (m : IdealNode) (action : Action) (given : Option (List ℕ)) (o : Applied) → Effect m action given o → (packet : List ℕ) (q : Query) → o.done.answer ≡ lines.Query → given ≡ Some packet → decoded packet ≡ Ok (query q) → has_flag no_broadcast_flag q.flags ≡ false
    → (rest : List (List ℕ)) × (o.done.packets ≡ packet ∷ rest)
new_query-effect m action given o (hears j outs answer heard idle) packet q says at reads quiet = absurd (subst (IsIdle m.agent given) says idle)
new_query-effect m action given o (is_asked to number p now x is new) packet q says at reads quiet =
    let same : p ≡ packet = cc at in
    let both = sym is ∙ ap decoded same ∙ reads in
    let message : x ≡ q = cc both in
    let loud : has_flag no_broadcast_flag x.flags ≡ false = ap (λ (y : Query). has_flag no_broadcast_flag y.flags) message ∙ quiet in
    let rest : List (List ℕ) = option_to_list (ack_if_passed false m.agent.config.name x) in
    (rest, ap (λ (b : Bool). cond (not b) (p ∷ []) [] ++ rest) loud ∙ ap (λ (y : List ℕ). y ∷ rest) same)
new_query-effect m action given o (counts to number now p r x true is at none kind) packet q says given_is reads quiet = absurd (cc says)
new_query-effect m action given o (counts to number now p r x false is at none kind) packet q says given_is reads quiet = absurd (cc says)
new_query-effect m action given o _ packet q says at reads quiet = absurd (cc says)

-- ---- acks

-- one of these packets spells the ack of a node of this name to the query of this time and ID
abbrev pub SpellsAck : List (List ℕ) → ℕ → ℕ → List ℕ → Type 0
SpellsAck packets t id node = (packet : List ℕ) × Contains packets packet × (decoded packet ≡ Ok (query_response (record { time = t; id = id; from = node; flags = ack_flag; payload = [] })))

-- a query that is handed out and requests an ack is acked
ack-sent : Below → (m : IdealNode) (tags : Bool) (now : ℕ) (q : Query) (front : List (List ℕ)) (h : DeliveredQuery) → IsRepresentable m.agent → q.time < 2 ^ 64 - 1 → q.id < 2 ^ 32 → handed_if_passed tags m.agent.config now q ≡ Some h → has_flag ack_flag q.flags ≡ true
    → SpellsAck (front ++ option_to_list (ack_if_passed tags m.agent.config.name q)) h.time h.id m.agent.config.name
ack-sent lower m tags now q front h g time id handed wants = by (all_pass tags q.filters m.agent.config.name) handed
  where
    node : List ℕ
    node = m.agent.config.name

    ack : QueryResponse
    ack = record { time = q.time; id = q.id; from = node; flags = ack_flag; payload = [] }

    reads : decoded (ack_packet node q) ≡ Ok (query_response ack)
    reads = let short = name-short m g in answer-spelled lower ack (record { time = omega arith; id = id; flags = omega arith }) (omega (arith, short)) (omega arith)

    by : (b : Bool) → cond b (Some (handed_query m.agent.config now q)) None ≡ Some h → SpellsAck (front ++ option_to_list (cond b (cond (has_flag ack_flag q.flags) (Some (ack_packet node q)) None) None)) h.time h.id node
    by false none = absurd (cc none)
    by true is =
        let same : handed_query m.agent.config now q ≡ h = cc is in
        let packets : List (List ℕ) = front ++ option_to_list (cond (has_flag ack_flag q.flags) (Some (ack_packet node q)) None) in
        let there : Contains packets (ack_packet node q) =
        subst (λ (b : Bool). Contains (front ++ option_to_list (cond b (Some (ack_packet node q)) None)) (ack_packet node q)) (sym wants) (Contains-append_right front (ack_packet node q ∷ []) (ack_packet node q) (0, omega arith, refl)) in
        subst (λ (x : DeliveredQuery). SpellsAck packets x.time x.id node) same (ack_packet node q, there, reads)

-- the only query in these lists
one-query : (xs : List Query) (x y : Query) → xs ≡ x ∷ [] → xs ≡ y ∷ [] → x ≡ y
one-query xs x y first second = let both : x ∷ [] ≡ y ∷ [] = sym first ∙ second in cc both

pub acked-effect : Below → (configs : List Config) (m : IdealNode) (action : Action) (given : Option (List ℕ)) (o : Applied) (b : ℕ) → actor_of action ≡ Some b → slice_get configs b ≡ Some m.agent.config → Effect m action given o → IsRepresentable m.agent → HasSizes action
    → (q : Query) (h : DeliveredQuery) → o.done.handed ≡ Some h → message_entered configs (record { action = action; line = record { answer = o.done.answer; sent = []; events = []; handed = None }; given = given; packets = [] }) ≡ q ∷ [] → has_flag ack_flag q.flags ≡ true
    → SpellsAck o.done.packets h.time h.id m.agent.config.name
acked-effect lower configs m action given o b actor settings (asks agent n may) g sized q h handed entered wants =
    let me : agent ≡ b = cc actor in
    let ours = ap (λ (c : Option Config). map (λ c. query_at m.agent.queries.clock c.name n.id n.name n.payload n.params) (option_to_list c)) (ap (slice_get configs) me ∙ settings) in
    let same : as_message m n ≡ q = one-query _ (as_message m n) q ours entered in
    ack-sent lower m n.params.tags_pass n.moment (as_message m n) (canonical (query (as_message m n)) ∷ []) h g (may-ask m.agent n.id n.name n.payload n.params may).clock sized.id_fits handed (ap (λ (x : Query). has_flag ack_flag x.flags) same ∙ wants)
acked-effect lower configs m action given o b actor settings (is_asked to number packet now x is new) g sized q h handed entered wants =
    let has = lower.in_range packet (query x) is in
    let same : x ≡ q = one-query _ x q (ap query_message is) entered in
    ack-sent lower m false now x (cond (not (has_flag no_broadcast_flag x.flags)) (packet ∷ []) []) h g has.time has.id handed (ap (λ (y : Query). has_flag ack_flag y.flags) same ∙ wants)
acked-effect lower configs m action given o b actor settings _ g sized q h handed entered wants = absurd (cc handed)

-- ---- responses

-- these packets are one that spells a response of a node of this name with this payload
abbrev pub SpellsReply : List (List ℕ) → List ℕ → List ℕ → Type 0
SpellsReply packets node payload = (packet : List ℕ) × (r : QueryResponse) × (packets ≡ packet ∷ []) × (decoded packet ≡ Ok (query_response r)) × (r.from ≡ node) × (r.payload ≡ payload) × (is_ack r ≡ false)

pub replied-by : Below → (m : IdealNode) (number now : ℕ) (payload : List ℕ) (q : Option (Option DeliveredQuery)) → slice_get m.handed number ≡ q → IsRepresentable m.agent → AreHandable m → (let o = responds m number q now payload in o.done.answer ≡ lines.Replied
    → SpellsReply o.done.packets m.agent.config.name payload)
replied-by lower m number now payload None at g slots says = absurd (cc says)
replied-by lower m number now payload (Some None) at g slots says = absurd (cc says)
replied-by lower m number now payload (Some (Some h)) at g slots says = by (respond_error h now payload) refl says
  where
    by : (r : Option RespondError) → respond_error h now payload ≡ r → (responds_as r m number h payload).done.answer ≡ lines.Replied → SpellsReply (responds_as r m number h payload).done.packets m.agent.config.name payload
    by (Some error) is says = absurd (cc says)
    by None is says =
        let late = none-if (nat_lt h.deadline now) responding.PastDeadline _ is in
        let large = none-if (nat_lt h.response_limit (length (response_packet h payload))) responding.TooLarge None late.1 in
        let s = slots number h at in
        let limit = response_limit-short m.agent.config g.consistent.sound.config in
        let fits : length (response_packet h payload) ≤ h.response_limit = ltb-false _ _ large.0 in
        let same : h.response_limit ≡ m.agent.config.response_limit = s.limit_is in
        let short = lower.short.texts_short h.time h.id h.node 0 payload (omega (arith, fits, same, limit)) in
        let time : h.time < 2 ^ 64 - 1 = s.time in
        let r : QueryResponse = record { time = h.time; id = h.id; from = h.node; flags = 0; payload = payload } in
        (response_packet h payload, r, refl, answer-spelled lower r (record { time = omega (arith, time); id = s.id; flags = omega arith }) short.0 short.1, s.node_is, refl, refl)
