-- Which acks and responses each action of an agent sends.
use Rattle.serf_model.proofs.Names.{Bool, List, None, Ok, Option, Result, Some, [], ap, arith, cond, false, length, nat_lt, refl, subst, sym, true, ℕ, ◌++◌, ◌-◌, ◌<◌, ◌^◌, ◌∙◌, ◌∷◌, ◌≡◌, ◌≤◌, and_parts, leb-true, ltb-false, flat_map-append, option_to_list, not, slice_get, whole_at, canonical, decoded, Message, PushPull, Query, QueryResponse, push_pull, query, query_response, IsRangedResponse, WireError, EventBody, event_of, event_packet, DeliveredQuery, ack_flag, ack_packet, all_pass, handed_query, has_flag, no_broadcast_flag, response_packet, state_of, view_of, Config, answer_brought, answers_in, Below, Applied, Done, IdealNode, apply, IsRepresentable, HasSizes, given_by, Act, Action, Of, Answer}
use Rattle.serf_wire.specs.declared.layout.MessageType.TheVariants as types
use Rattle.serf_model.proofs.ReadCases.{read_has}
use Rattle.serf_agent.specs.declared.outcome.RespondError.TheVariants as responding
use Rattle.serf_model.specs.declared.action.Act.TheVariants as acts
use Rattle.serf_model.specs.declared.line.Answer.TheVariants as lines
use Rattle.serf_model.proofs.Effects.{Effect, asks, effect, fires, hears, is_asked, passes_on, replies, tells, as_message}
use Rattle.serf_model.proofs.CallsKept.{may-ask, response_limit-short}
use Rattle.serf_model.proofs.PerTimeBound.{none-if}

-- ---- the answers in packets of each kind

none-following-event : (bytes : List ℕ) → answer_brought (decoded (3 ∷ bytes)) ≡ []
unfolding decoded
none-following-event bytes = read_has (λ r. answer_brought r ≡ []) types.UserEvent (whole_at 8 bytes) (λ f. refl) (λ ps. refl)

none-following-query : (bytes : List ℕ) → answer_brought (decoded (4 ∷ bytes)) ≡ []
unfolding decoded
none-following-query bytes = read_has (λ r. answer_brought r ≡ []) types.Query (whole_at 8 bytes) (λ f. refl) (λ ps. refl)

none-following-state : (bytes : List ℕ) → answer_brought (decoded (2 ∷ bytes)) ≡ []
unfolding decoded
none-following-state bytes = read_has (λ r. answer_brought r ≡ []) types.PushPull (whole_at 8 bytes) (λ f. refl) (λ ps. refl)

none-in-event : (t : ℕ) (what : EventBody) (coalesce : Bool) → answers_in (event_packet t what coalesce ∷ []) ≡ []
unfolding canonical
none-in-event t what coalesce = ap (λ l. l ++ []) (none-following-event _)

none-in-query : (q : Query) → answers_in (canonical (query q) ∷ []) ≡ []
unfolding canonical
none-in-query q = ap (λ l. l ++ []) (none-following-query _)

none-in-state : (m : PushPull) → answers_in (canonical (push_pull m) ∷ []) ≡ []
unfolding canonical
none-in-state m = ap (λ l. l ++ []) (none-following-state _)

-- the packet of an answer spells this answer, and contains no other
pub answer-spelled : Below → (r : QueryResponse) → IsRangedResponse r → length r.from ≤ 9216 → length r.payload ≤ 9216 → decoded (canonical (query_response r)) ≡ Ok (query_response r)
answer-spelled lower r ranged from payload =
    lower.spelled (canonical (query_response r)) (query_response r) (lower.canonical (query_response r) ranged (lower.short.response_fits r.time r.id r.from r.flags r.payload from payload))

one-in-answer : Below → (r : QueryResponse) → IsRangedResponse r → length r.from ≤ 9216 → length r.payload ≤ 9216 → answers_in (canonical (query_response r) ∷ []) ≡ r ∷ []
one-in-answer lower r ranged from payload = ap (λ (d : Result Message WireError). answer_brought d ++ []) (answer-spelled lower r ranged from payload)

-- ---- what an action sends

-- the ack and the response that a node sends for a query that was handed to it
abbrev pub ack_of : List ℕ → DeliveredQuery → QueryResponse
ack_of node h = record { time = h.time; id = h.id; from = node; flags = ack_flag; payload = [] }

abbrev pub reply_of : DeliveredQuery → List ℕ → QueryResponse
reply_of h payload = record { time = h.time; id = h.id; from = h.node; flags = 0; payload = payload }

-- a query that can be handed to a node with these settings
pub record IsHandable (config : Config) (h : DeliveredQuery) : Type 0 where
  pub node_is : h.node ≡ config.name
  pub limit_is : h.response_limit ≡ config.response_limit
  pub time : h.time < 2 ^ 64 - 1
  pub id : h.id < 2 ^ 32

-- the answers in the packets that an action sends
pub data Makes (m : IdealNode) (action : Action) (done : Done) : Type 0 where
  makes_none : answers_in done.packets ≡ [] → Makes m action done
  makes_ack : (h : DeliveredQuery) → done.handed ≡ Some h → answers_in done.packets ≡ ack_of m.agent.config.name h ∷ [] → Makes m action done
  makes_reply : (agent number now : ℕ) (payload : List ℕ) (h : DeliveredQuery) → action ≡ Of agent (acts.Respond number now payload) → slice_get m.handed number ≡ Some (Some h) → done.answer ≡ lines.Replied
      → answers_in done.packets ≡ reply_of h payload ∷ [] → now ≤ h.deadline → Makes m action done

pub record Sends (m : IdealNode) (action : Action) (done : Done) : Type 0 where
  pub makes : Makes m action done
  pub hands : (h : DeliveredQuery) → done.handed ≡ Some h → IsHandable m.agent.config h

-- the node's name is short enough for a packet
pub name-short : (m : IdealNode) → IsRepresentable m.agent → length m.agent.config.name ≤ 128
name-short m representable =
    let per_time = and_parts _ _ representable.consistent.sound.config in
    let responders = and_parts _ _ per_time.0 in
    let responses = and_parts _ _ responders.0 in
    let fired_queries = and_parts _ _ responses.0 in
    let fired = and_parts _ _ fired_queries.0 in
    let queries = and_parts _ _ fired.0 in
    let events = and_parts _ _ queries.0 in
    let name = and_parts _ _ events.0 in
    leb-true (length m.agent.config.name) 128 name.1

hands-nothing : (m : IdealNode) (action : Action) (done : Done) → done.handed ≡ None → answers_in done.packets ≡ [] → Sends m action done
hands-nothing m action done handed packets = record { makes = makes_none packets; hands = λ h e. absurd (let no : None ≡ Some h = sym handed ∙ e in cc) }

sends-nothing : (m : IdealNode) (action : Action) (done : Done) → done.handed ≡ None → done.packets ≡ [] → Sends m action done
sends-nothing m action done handed packets = hands-nothing m action done handed (ap answers_in packets)

-- a query that enters is acked only if it is handed out
sends-entered : Below → (m : IdealNode) (action : Action) (answer : Answer) (now : ℕ) (q : Query) (front : List (List ℕ)) (passes wants : Bool) → IsRepresentable m.agent → answers_in front ≡ [] → q.time < 2 ^ 64 - 1 → q.id < 2 ^ 32
    → Sends m action (record {
      answer = answer;
      packets = front ++ option_to_list (cond passes (cond wants (Some (ack_packet m.agent.config.name q)) None) None);
      events = [];
      handed = cond passes (Some (handed_query m.agent.config now q)) None;
    })
sends-entered lower m action answer now q front false wants representable brings time id = hands-nothing m action _ refl (flat_map-append (λ p. answer_brought (decoded p)) front [] ∙ ap (λ l. l ++ []) brings)
sends-entered lower m action answer now q front true wants representable brings time id = record { makes = by wants; hands = handable }
  where
    h : DeliveredQuery
    h = handed_query m.agent.config now q

    handable : (h : DeliveredQuery) → Some (handed_query m.agent.config now q) ≡ Some h → IsHandable m.agent.config h
    handable h e = let same : handed_query m.agent.config now q ≡ h = cc e in subst (IsHandable m.agent.config) same (record { node_is = refl; limit_is = refl; time = time; id = id })

    by : (b : Bool) → Makes m action (record { answer = answer; packets = front ++ option_to_list (cond b (Some (ack_packet m.agent.config.name q)) None); events = []; handed = Some (handed_query m.agent.config now q) })
    by false = makes_none (flat_map-append (λ p. answer_brought (decoded p)) front [] ∙ ap (λ l. l ++ []) brings)
    by true =
        let short = name-short m representable in
        makes_ack (handed_query m.agent.config now q) refl
        (flat_map-append (λ p. answer_brought (decoded p)) front (ack_packet m.agent.config.name q ∷ [])
        ∙ ap (λ l. l ++ answers_in (ack_packet m.agent.config.name q ∷ [])) brings
        ∙ one-in-answer lower (ack_of m.agent.config.name (handed_query m.agent.config now q)) (record { time = omega arith; id = id; flags = omega arith }) (omega arith) (omega arith))

-- the queries that can be answered
abbrev pub AreHandable : IdealNode → Type 0
AreHandable m = (number : ℕ) (h : DeliveredQuery) → slice_get m.handed number ≡ Some (Some h) → IsHandable m.agent.config h

sends-effect : Below → (m : IdealNode) (action : Action) (given : Option (List ℕ)) (o : Applied) → Effect m action given o → IsRepresentable m.agent → AreHandable m → HasSizes action → Sends m action o.done
sends-effect lower m action given o (hears j outs answer heard idle) representable slots ranged = sends-nothing m action _ refl refl
sends-effect lower m action given o (fires agent name payload coalesce may) representable slots ranged = hands-nothing m _ _ refl (none-in-event m.agent.events.clock (event_of name payload) coalesce)
sends-effect lower m action given o (passes_on packet e is new) representable slots ranged = hands-nothing m action _ refl (ap (λ (d : Result Message WireError). answer_brought d ++ []) is)
sends-effect lower m action given o (asks agent q may) representable slots ranged =
    let a : Query = as_message m q in
    sends-entered lower m _ (lines.Queried a.time) q.moment a (canonical (query a) ∷ []) (all_pass q.params.tags_pass a.filters m.agent.config.name) (has_flag ack_flag a.flags) representable (none-in-query a) (may-ask m.agent q.id q.name q.payload q.params may).clock ranged.id_fits
sends-effect lower m action given o (is_asked to number packet now q is new) representable slots ranged =
    let has = lower.in_range packet (query q) is in
    sends-entered lower m action lines.Query now q (cond (not (has_flag no_broadcast_flag q.flags)) (packet ∷ []) []) (all_pass false q.filters m.agent.config.name) (has_flag ack_flag q.flags) representable (front (not (has_flag no_broadcast_flag q.flags))) has.time has.id
  where
    front : (b : Bool) → answers_in (cond b (packet ∷ []) []) ≡ []
    front true = ap (λ (d : Result Message WireError). answer_brought d ++ []) is
    front false = refl
sends-effect lower m action given o (tells fits) representable slots ranged = hands-nothing m action _ refl (none-in-state (state_of (view_of m.agent) [] []))
sends-effect lower m action given o (replies agent number now payload h at may) representable slots ranged =
    let late = none-if (nat_lt h.deadline now) responding.PastDeadline _ may in
    let large = none-if (nat_lt h.response_limit (length (response_packet h payload))) responding.TooLarge None late.1 in
    let s = slots number h at in
    let limit = response_limit-short m.agent.config representable.consistent.sound.config in
    let fits : length (response_packet h payload) ≤ h.response_limit = ltb-false _ _ large.0 in
    let short = lower.short.texts_short h.time h.id h.node 0 payload (omega (arith, fits, s.limit_is, limit)) in
    let time : h.time < 2 ^ 64 - 1 = s.time in
    record {
      makes = makes_reply agent number now payload h refl at refl (one-in-answer lower (reply_of h payload) (record { time = omega arith; id = s.id; flags = omega arith }) short.0 short.1) (ltb-false h.deadline now late.0);
      hands = λ h e. absurd (cc e);
    }
sends-effect lower m action given o _ representable slots ranged = sends-nothing m _ _ refl refl

pub sends-apply : Below → (m : IdealNode) (sent : List (List ℕ)) (a : ℕ) (act : Act) → IsRepresentable m.agent → AreHandable m → HasSizes (Of a act) → Sends m (Of a act) (apply m sent act).done
sends-apply lower m sent a act representable slots ranged = sends-effect lower m (Of a act) (given_by sent act) (apply m sent act) (effect lower m sent a act) representable slots ranged
