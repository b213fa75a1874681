-- Which queries an agent can answer, and which it acked.
use Rattle.serf_model.proofs.Names.{Bool, List, None, Option, Some, [], ap, cond, false, inl, inr, length, map, refl, set, subst, suc, sym, true, zero, ℕ, ◌++◌, ◌∙◌, ◌∷◌, ◌≡◌, ◌≢◌, ◌⊎◌, append-nil, map-append, Contains-append_left, Contains-push, filter-append, fold_push, flat_map, option_map, option_to_list, AllPairs, Contains, slice_get, Query, QueryResponse, TimedEntry, DeliveredQuery, deadline_of, is_ack, Config, answers_in, query_answered, reply_deadline, Below, is_restarted, Applied, Cluster, Done, IdealNode, applied, apply, handed_line, with_handed, query_message, Turn, entered_by, given_by, handed_in, Act, Action, Of, QueryLine}
use Rattle.std.specs.Prelude.{filter}
use Rattle.serf_model.proofs.HandedLaws.{hands-apply}
use Rattle.serf_model.proofs.Within.{IsWithin, within-more}
use Rattle.serf_model.proofs.HandOutLaws.{passed-on}
use Rattle.serf_model.proofs.PresentLife.{last_life, lives_on}
use Rattle.serf_model.proofs.Effects.{Effect, asks, counts, effect, hears, idle-enters, is_asked, reopens, replies, as_message}
use Rattle.serf_model.proofs.SendLaws.{AreHandable, IsHandable, Makes, Sends, makes_none, makes_ack, makes_reply}
use Rattle.serf_model.proofs.OpenQueryContents.{queries_in}
use Rattle.serf_model.proofs.TurnLaws.{flat_map-push}

-- ---- lists

-- the elements of a list to which one was appended
pub pushed-at : {X : Type 0} (xs : List X) (y : X) (k : ℕ) (x : X) → slice_get (xs ++ y ∷ []) k ≡ Some x → (slice_get xs k ≡ Some x) ⊎ ((length xs ≡ k) × (y ≡ x))
pushed-at [] y zero x is = let same : y ≡ x = cc is in inr (refl, same)
pushed-at [] y (suc k) x is = absurd (cc is)
pushed-at (z ∷ zs) y zero x is = inl is
pushed-at (z ∷ zs) y (suc k) x is = elim (pushed-at zs y k x is) [ inl h ↦ inl h | inr h ↦ inr (ap (λ n. suc n) h.0, h.1) ]

-- an element that remains after another one was removed was there before
pub left-at : {X : Type 0} (xs : List (Option X)) (j k : ℕ) (x : X) → slice_get (set xs j None) k ≡ Some (Some x) → slice_get xs k ≡ Some (Some x)
left-at [] j k x is = absurd (cc is)
left-at (y ∷ ys) zero zero x is = absurd (cc is)
left-at (y ∷ ys) zero (suc k) x is = is
left-at (y ∷ ys) (suc j) zero x is = is
left-at (y ∷ ys) (suc j) (suc k) x is = left-at ys j k x is

-- ---- the queries that can be answered after an action

-- the query was there before, and no life begins
pub record Stood (m : IdealNode) (done : Done) (number : ℕ) (h : DeliveredQuery) : Type 0 where
  pub at : slice_get m.handed number ≡ Some (Some h)
  pub on : is_restarted done.answer ≡ false

pub stood : (m : IdealNode) (action : Action) (given : Option (List ℕ)) (o : Applied) → Effect m action given o → (k : ℕ) (h : DeliveredQuery) → slice_get o.node.handed k ≡ Some (Some h) → Stood m o.done k h
stood m action given o (hears j outs answer heard idle) k h is = record { at = is; on = (idle-enters m.agent action given answer idle).1 }
stood m action given o (counts to number now packet r q true reads at none kind) k h is = record { at = is; on = refl }
stood m action given o (replies agent number now payload q at may) k h is = record { at = left-at m.handed number k h is; on = refl }
stood m action given o (reopens agent tail) k h is = absurd (cc is)
stood m action given o _ k h is = record { at = is; on = refl }

-- if a query is handed out, no life begins
hands-on : (m : IdealNode) (action : Action) (given : Option (List ℕ)) (o : Applied) → Effect m action given o → (h : DeliveredQuery) → o.done.handed ≡ Some h → is_restarted o.done.answer ≡ false
hands-on m action given o (asks agent q may) h is = refl
hands-on m action given o (is_asked to number packet now q reads new) h is = refl
hands-on m action given o _ h is = absurd (cc is)

-- ---- an agent and its turns

life-push : (ts : List Turn) (t : Turn) → is_restarted t.line.answer ≡ false → last_life (ts ++ t ∷ []) ≡ last_life ts ++ t ∷ []
life-push ts t on = fold_push lives_on [] ts t ∙ ap (λ b. cond b [] (last_life ts ++ t ∷ [])) on

-- a turn of this life handed out a query with its number
pub record IsShown (a : ℕ) (ts : List Turn) (number : ℕ) (h : DeliveredQuery) : Type 0 where
  pub line : QueryLine
  pub handing : Turn
  pub there : Contains (last_life ts) handing
  pub handed : handing.line.handed ≡ Some line
  pub to : line.agent ≡ a
  pub until : reply_deadline handing ≡ h.deadline ∷ []
  pub index : line.index ≡ number
  pub query : handed_in line ≡ record { time = h.time; key = h.id }

shown-more : (a : ℕ) (ts : List Turn) (t : Turn) (number : ℕ) (h : DeliveredQuery) → is_restarted t.line.answer ≡ false → IsShown a ts number h → IsShown a (ts ++ t ∷ []) number h
shown-more a ts t number h on s = record {
  line = s.line;
  handing = s.handing;
  there = subst (λ l. Contains l s.handing) (sym (life-push ts t on)) (Contains-append_left (last_life ts) (t ∷ []) s.handing s.there);
  handed = s.handed;
  to = s.to;
  until = s.until;
  index = s.index;
  query = s.query;
}

-- the last moment at which a query that is handed out can be answered
deadline-effect : (m : IdealNode) (action : Action) (given : Option (List ℕ)) (o : Applied) → Effect m action given o → (h : DeliveredQuery) → o.done.handed ≡ Some h
    → reply_deadline (record { action = action; line = record { answer = o.done.answer; sent = []; events = []; handed = None }; given = given; packets = [] }) ≡ h.deadline ∷ []
deadline-effect m action given o (asks agent q may) h is =
    ap (λ (x : DeliveredQuery). x.deadline ∷ []) (passed-on q.params.tags_pass m.agent.config q.moment (as_message m q) h is)
deadline-effect m action given o (is_asked to number packet now q reads new) h is =
    ap (λ r. map (λ (q : Query). deadline_of now q.timeout) (query_message r)) reads ∙ ap (λ (x : DeliveredQuery). x.deadline ∷ []) (passed-on false m.agent.config now q h is)
deadline-effect m action given o _ h is = absurd (cc is)

-- the queries that an agent acked
abbrev pub acked_in : List Turn → List (TimedEntry ℕ)
acked_in ts = map query_answered (filter is_ack (flat_map (λ t. answers_in t.packets) ts))

-- how one more turn changes the queries to which an agent sent answers of this kind
pub answered-push : (kind : QueryResponse → Bool) (ts : List Turn) (t : Turn)
    → map query_answered (filter kind (flat_map (λ t. answers_in t.packets) (ts ++ t ∷ []))) ≡ map query_answered (filter kind (flat_map (λ t. answers_in t.packets) ts)) ++ map query_answered (filter kind (answers_in t.packets))
answered-push kind ts t =
    let sent : List QueryResponse = flat_map (λ t. answers_in t.packets) ts in
    ap (λ l. map query_answered (filter kind l)) (flat_map-push (λ t. answers_in t.packets) ts t) ∙ ap (map query_answered) (filter-append kind sent (answers_in t.packets)) ∙ map-append query_answered (filter kind sent) (filter kind (answers_in t.packets))

-- what is true of an agent with these settings, if these are its turns
pub record HasHanded (configs : List Config) (a : ℕ) (ts : List Turn) (m : IdealNode) : Type 0 where
  pub settings : slice_get configs a ≡ Some m.agent.config
  pub handable : AreHandable m
  pub shown : (number : ℕ) (h : DeliveredQuery) → slice_get m.handed number ≡ Some (Some h) → IsShown a ts number h
  pub acked : IsWithin (queries_in ts) (acked_in ts)

-- ---- a turn

-- how the answers in a turn's packets change the queries that were acked
adds : Below → (m : IdealNode) (sent : List (List ℕ)) (a : ℕ) (act : Act) → Makes m (Of a act) (apply m sent act).done
    → (let o = apply m sent act in let new = map query_answered (filter is_ack (answers_in o.done.packets)) in (new ≡ []) ⊎ ((x : TimedEntry ℕ) × (new ≡ x ∷ []) × (entered_by (Of a act) (given_by sent act) o.done.answer ≡ x ∷ [])))
adds lower m sent a act (makes_none packets) = inl (ap (λ l. map query_answered (filter is_ack l)) packets)
adds lower m sent a act (makes_ack h handed packets) = inr (record { time = h.time; key = h.id }, ap (λ l. map query_answered (filter is_ack l)) packets, hands-apply lower m sent a act h handed)
adds lower m sent a act (makes_reply agent number now payload h respond at replied packets in_time) = inl (ap (λ l. map query_answered (filter is_ack l)) packets)

-- the queries that can be answered after a turn
record Slots (a : ℕ) (config : Config) (ts : List Turn) (handed : List (Option DeliveredQuery)) : Type 0 where
  each : (number : ℕ) (h : DeliveredQuery) → slice_get handed number ≡ Some (Some h) → IsHandable config h × IsShown a ts number h

slots-more : Below → (c : Cluster) (configs : List Config) (ts : List Turn) (b : ℕ) (act : Act) (m : IdealNode) → HasHanded configs b ts m → Sends m (Of b act) (apply m c.sent act).done
    → (let o = apply m c.sent act in Slots b m.agent.config (ts ++ (applied c b act o).turn ∷ []) (with_handed o.done.handed o.node).handed)
slots-more lower c configs ts b act m hands sends = by (apply m c.sent act).done.handed refl
  where
    turn : Turn
    turn = (applied c b act (apply m c.sent act)).turn

    old : (number : ℕ) (h : DeliveredQuery) → slice_get (apply m c.sent act).node.handed number ≡ Some (Some h) → IsHandable m.agent.config h × IsShown b (ts ++ (applied c b act (apply m c.sent act)).turn ∷ []) number h
    old number h is =
        let s = stood m (Of b act) (given_by c.sent act) (apply m c.sent act) (effect lower m c.sent b act) number h is in
        (hands.handable number h s.at, shown-more b ts (applied c b act (apply m c.sent act)).turn number h s.on (hands.shown number h s.at))

    new : (q : DeliveredQuery) → (apply m c.sent act).done.handed ≡ Some q → IsShown b (ts ++ (applied c b act (apply m c.sent act)).turn ∷ []) (length (apply m c.sent act).node.handed) q
    new q some =
        let on = hands-on m (Of b act) (given_by c.sent act) (apply m c.sent act) (effect lower m c.sent b act) q some in
        record {
          line = handed_line b (length (apply m c.sent act).node.handed) q;
          handing = (applied c b act (apply m c.sent act)).turn;
          there = subst (λ l. Contains l (applied c b act (apply m c.sent act)).turn) (sym (life-push ts (applied c b act (apply m c.sent act)).turn on)) (Contains-push (last_life ts) (applied c b act (apply m c.sent act)).turn);
          handed = ap (λ (h : Option DeliveredQuery). option_map (handed_line b (length (apply m c.sent act).node.handed)) h) some;
          to = refl;
          until = deadline-effect m (Of b act) (given_by c.sent act) (apply m c.sent act) (effect lower m c.sent b act) q some;
          index = refl;
          query = refl;
        }

    by : (d : Option DeliveredQuery) → (apply m c.sent act).done.handed ≡ d → Slots b m.agent.config (ts ++ (applied c b act (apply m c.sent act)).turn ∷ []) ((apply m c.sent act).node.handed ++ map (λ q. Some q) (option_to_list d))
    by None none = record { each = λ number h is. old number h (ap (λ l. slice_get l number) (sym (append-nil (apply m c.sent act).node.handed)) ∙ is) }
    by (Some q) some = record { each = λ number h is. one number h (pushed-at (apply m c.sent act).node.handed (Some q) number (Some h) is) }
      where
        one : (number : ℕ) (h : DeliveredQuery) → (slice_get (apply m c.sent act).node.handed number ≡ Some (Some h)) ⊎ ((length (apply m c.sent act).node.handed ≡ number) × (Some q ≡ Some h))
            → IsHandable m.agent.config h × IsShown b (ts ++ (applied c b act (apply m c.sent act)).turn ∷ []) number h
        one number h (inl before) = old number h before
        one number h (inr here) =
            let same : q ≡ h = cc here.1 in
            subst (λ (h : DeliveredQuery). IsHandable m.agent.config h × IsShown b (ts ++ (applied c b act (apply m c.sent act)).turn ∷ []) number h) same
            (sends.hands q some, subst (λ (n : ℕ). IsShown b (ts ++ (applied c b act (apply m c.sent act)).turn ∷ []) n q) here.0 (new q some))

pub has-handed-more : Below → (c : Cluster) (configs : List Config) (ts : List Turn) (b : ℕ) (act : Act) (m : IdealNode) → HasHanded configs b ts m → Sends m (Of b act) (apply m c.sent act).done → (apply m c.sent act).node.agent.config ≡ m.agent.config
    → AllPairs (λ x y. x ≢ y) (queries_in (ts ++ (applied c b act (apply m c.sent act)).turn ∷ []))
    → (let o = apply m c.sent act in HasHanded configs b (ts ++ (applied c b act o).turn ∷ []) (with_handed o.done.handed o.node))
has-handed-more lower c configs ts b act m hands sends config once =
    let turn : Turn = (applied c b act (apply m c.sent act)).turn in
    let slots = slots-more lower c configs ts b act m hands sends in
    let queries : queries_in (ts ++ (applied c b act (apply m c.sent act)).turn ∷ []) ≡ queries_in ts ++ entered_by (Of b act) (given_by c.sent act) (apply m c.sent act).done.answer =
    flat_map-push (λ t. entered_by t.action t.given t.line.answer) ts (applied c b act (apply m c.sent act)).turn in
    record {
      settings = hands.settings ∙ ap Some (sym config);
      handable = λ number h is. subst (λ (c : Config). IsHandable c h) (sym config) (slots.each number h is).0;
      shown = λ number h is. (slots.each number h is).1;
      acked = subst (λ l. IsWithin l (acked_in (ts ++ (applied c b act (apply m c.sent act)).turn ∷ []))) (sym queries)
          (subst (IsWithin (queries_in ts ++ entered_by (Of b act) (given_by c.sent act) (apply m c.sent act).done.answer)) (sym (answered-push is_ack ts (applied c b act (apply m c.sent act)).turn))
          (within-more (queries_in ts) (acked_in ts) (entered_by (Of b act) (given_by c.sent act) (apply m c.sent act).done.answer) (map query_answered (filter is_ack (answers_in (apply m c.sent act).done.packets)))
          hands.acked (subst (AllPairs (λ x y. x ≢ y)) queries once) (adds lower m c.sent b act sends.makes)));
    }
