-- Which queries an agent answered: each of them is removed from those that it can answer.
use Rattle.serf_model.proofs.Names.{List, None, Option, Some, [], ap, arith, false, inl, inr, map, refl, set, subst, suc, sym, true, zero, ℕ, ◌++◌, ◌∙◌, ◌∷◌, ◌≡◌, ◌≢◌, append-nil, All-nil, All-push, All-weaker, Contains-append_left, Contains-push, all_pairs_push, flat_map, option_to_list, All, AllPairs, Contains, not, slice_get, TimedEntry, DeliveredQuery, is_ack, answers_in, query_answered, Below, Applied, Cluster, IdealNode, applied, apply, with_handed, Turn, entered_by, given_by, Act, Action, Of}
use Rattle.std.specs.Prelude.{filter}
use Rattle.serf_model.proofs.Effects.{Effect, counts, effect, hears, replies}
use Rattle.serf_model.proofs.HandedLaws.{hands-apply}
use Rattle.serf_model.proofs.Within.{IsWithin, fresh-last}
use Rattle.serf_model.proofs.HandedQueries.{answered-push, pushed-at, stood}
use Rattle.serf_model.proofs.OpenQueryContents.{queries_in}
use Rattle.serf_model.proofs.SendLaws.{Makes, makes_ack, makes_none, makes_reply}
use Rattle.serf_model.proofs.TurnLaws.{flat_map-push}

-- ---- an agent and its turns

abbrev key_of : DeliveredQuery → TimedEntry ℕ
key_of h = record { time = h.time; key = h.id }

-- the queries to which packets contain a response
abbrev replies_in : List (List ℕ) → List (TimedEntry ℕ)
replies_in packets = map query_answered (filter (λ r. not (is_ack r)) (answers_in packets))

-- the queries that an agent answered with a response
abbrev pub replied_in : List Turn → List (TimedEntry ℕ)
replied_in ts = map query_answered (filter (λ r. not (is_ack r)) (flat_map (λ t. answers_in t.packets) ts))

-- this query can be answered, with this number
abbrev Waits : List (Option DeliveredQuery) → ℕ → DeliveredQuery → Type 0
Waits handed number h = slice_get handed number ≡ Some (Some h)

-- Each query that can be answered entered, wasn't answered yet, and has only one number. Each query that was answered
-- entered, and was answered once.
pub record IsAwaiting (ts : List Turn) (handed : List (Option DeliveredQuery)) : Type 0 where
  pub entered : (number : ℕ) (h : DeliveredQuery) → Waits handed number h → Contains (queries_in ts) (key_of h)
  pub unanswered : (number : ℕ) (h : DeliveredQuery) → Waits handed number h → All (λ x. x ≢ key_of h) (replied_in ts)
  pub apart : (j k : ℕ) (g h : DeliveredQuery) → Waits handed j g → Waits handed k h → key_of g ≡ key_of h → j ≡ k
  pub replied : IsWithin (queries_in ts) (replied_in ts)

-- ---- the responses of an action

-- the action sends no response, or only the response to a query that it removes
data Replies (m : IdealNode) (o : Applied) : Type 0 where
  none : replies_in o.done.packets ≡ [] → Replies m o
  one : (number : ℕ) (h : DeliveredQuery) → Waits m.handed number h → o.done.handed ≡ None → o.node.handed ≡ set m.handed number None → replies_in o.done.packets ≡ key_of h ∷ [] → Replies m o

replies-effect : (m : IdealNode) (action : Action) (given : Option (List ℕ)) (o : Applied) → Effect m action given o → Makes m action o.done → Replies m o
replies-effect m action given o e (makes_none packets) = none (ap (λ l. map query_answered (filter (λ r. not (is_ack r)) l)) packets)
replies-effect m action given o e (makes_ack h handed packets) = none (ap (λ l. map query_answered (filter (λ r. not (is_ack r)) l)) packets)
replies-effect m action given o (replies agent number now payload h at may) (makes_reply agent' number' now' payload' h' respond at' replied packets in_time) =
    let same : number ≡ number' = cc respond in
    let both : Some (Some h) ≡ Some (Some h') = sym at ∙ ap (slice_get m.handed) same ∙ at' in
    let queries : h ≡ h' = cc both in
    one number h at refl refl (ap (λ l. map query_answered (filter (λ r. not (is_ack r)) l)) packets ∙ ap (λ (x : DeliveredQuery). key_of x ∷ []) (sym queries))
replies-effect m action given o (hears j outs answer h idle) (makes_reply agent number now payload q respond at replied packets in_time) = absurd (cc packets)
replies-effect m action given o (counts to number now packet r q true reads at ignored kind) (makes_reply agent number' now' payload h respond at' replied packets in_time) = absurd (cc replied)
replies-effect m action given o (counts to number now packet r q false reads at ignored kind) (makes_reply agent number' now' payload h respond at' replied packets in_time) = absurd (cc replied)
replies-effect m action given o _ (makes_reply agent number now payload h respond at replied packets in_time) = absurd (cc replied)

gone-at : {X : Type 0} (xs : List (Option X)) (k : ℕ) (x : X) → slice_get (set xs k None) k ≡ Some (Some x) → ⊥
gone-at [] k x is = cc
gone-at (y ∷ ys) zero x is = cc
gone-at (y ∷ ys) (suc k) x is = gone-at ys k x is

-- ---- a turn

-- the queries that can still be answered after an action that hands out none
awaiting-old : (ts : List Turn) (t : Turn) (m : IdealNode) (action : Action) (given : Option (List ℕ)) (o : Applied) → Effect m action given o → IsAwaiting ts m.handed → Replies m o → t.packets ≡ o.done.packets
    → (new : List (TimedEntry ℕ)) → queries_in (ts ++ t ∷ []) ≡ queries_in ts ++ new → IsAwaiting (ts ++ t ∷ []) o.node.handed
awaiting-old ts t m action given o e h r packets new queries = record {
  entered = λ number q is. subst (λ l. Contains l (key_of q)) (sym queries) (Contains-append_left (queries_in ts) new (key_of q) (h.entered number q (stood m action given o e number q is).at));
  unanswered = λ number q is. subst (All (λ x. x ≢ key_of q)) (sym grown) (still r number q is (h.unanswered number q (stood m action given o e number q is).at));
  apart = λ j k g q is_j is_k same. h.apart j k g q (stood m action given o e j g is_j).at (stood m action given o e k q is_k).at same;
  replied = subst (λ l. IsWithin l (replied_in (ts ++ t ∷ []))) (sym queries) (subst (IsWithin (queries_in ts ++ new)) (sym grown) (within r));
}
  where
    grown : replied_in (ts ++ t ∷ []) ≡ replied_in ts ++ replies_in o.done.packets
    grown = answered-push (λ r. not (is_ack r)) ts t ∙ ap (λ ps. replied_in ts ++ replies_in ps) packets

    still : Replies m o → (number : ℕ) (q : DeliveredQuery) → Waits o.node.handed number q → All (λ x. x ≢ key_of q) (replied_in ts) → All (λ x. x ≢ key_of q) (replied_in ts ++ replies_in o.done.packets)
    still (none empty) number q is all = subst (All (λ x. x ≢ key_of q)) (sym (ap (λ l. replied_in ts ++ l) empty ∙ append-nil (replied_in ts))) all
    still (one j g at nothing left answered) number q is all =
        subst (λ l. All (λ x. x ≢ key_of q) (replied_in ts ++ l)) (sym answered)
        (All-push (λ x. x ≢ key_of q) (replied_in ts) (key_of g) all (λ same.
        let number_same : j ≡ number = h.apart j number g q at (stood m action given o e number q is).at same in
        gone-at m.handed j q (subst (λ (k : ℕ). slice_get (set m.handed j None) k ≡ Some (Some q)) (sym number_same) (ap (λ l. slice_get l number) (sym left) ∙ is))))

    within : Replies m o → IsWithin (queries_in ts ++ new) (replied_in ts ++ replies_in o.done.packets)
    within (none empty) = subst (λ l. IsWithin (queries_in ts ++ new) (replied_in ts ++ l)) (sym empty) (subst (IsWithin (queries_in ts ++ new)) (sym (append-nil (replied_in ts))) (record {
      within = All-weaker (Contains (queries_in ts)) (Contains (queries_in ts ++ new)) (λ x c. Contains-append_left (queries_in ts) new x c) (replied_in ts) h.replied.within;
      once = h.replied.once;
    }))
    within (one j g at nothing left answered) = subst (λ l. IsWithin (queries_in ts ++ new) (replied_in ts ++ l)) (sym answered) (record {
      within = All-push (Contains (queries_in ts ++ new)) (replied_in ts) (key_of g)
          (All-weaker (Contains (queries_in ts)) (Contains (queries_in ts ++ new)) (λ x c. Contains-append_left (queries_in ts) new x c) (replied_in ts) h.replied.within)
          (Contains-append_left (queries_in ts) new (key_of g) (h.entered j g at));
      once = all_pairs_push (λ x y. x ≢ y) (replied_in ts) (key_of g) h.replied.once (h.unanswered j g at);
    })

-- if a query is handed out, no response is sent
none-handed : (m : IdealNode) (o : Applied) (q : DeliveredQuery) → Replies m o → o.done.handed ≡ Some q → replies_in o.done.packets ≡ []
none-handed m o q (none empty) handed = empty
none-handed m o q (one number h at nothing left answered) handed = absurd (let no : None ≡ Some q = sym nothing ∙ handed in cc)

-- one more query, which entered in this turn
awaiting-new : (ts us : List Turn) (handed : List (Option DeliveredQuery)) (q : DeliveredQuery) → IsAwaiting us handed → replied_in us ≡ replied_in ts → queries_in us ≡ queries_in ts ++ key_of q ∷ [] → IsWithin (queries_in ts) (replied_in ts)
    → ((number : ℕ) (h : DeliveredQuery) → Waits handed number h → Contains (queries_in ts) (key_of h)) → AllPairs (λ x y. x ≢ y) (queries_in us) → IsAwaiting us (handed ++ Some q ∷ [])
awaiting-new ts us handed q h same queries before old once = record {
  entered = λ number g is. elim (pushed-at handed (Some q) number (Some g) is) [
    | inl there ↦ h.entered number g there
    | inr here ↦ (let eq : q ≡ g = cc here.1 in subst (λ (x : DeliveredQuery). Contains (queries_in us) (key_of x)) eq (subst (λ l. Contains l (key_of q)) (sym queries) (Contains-push (queries_in ts) (key_of q))))
  ];
  unanswered = λ number g is. elim (pushed-at handed (Some q) number (Some g) is) [
    | inl there ↦ h.unanswered number g there
    | inr here ↦ (let eq : q ≡ g = cc here.1 in subst (λ (x : DeliveredQuery). All (λ y. y ≢ key_of x) (replied_in us)) eq (subst (All (λ y. y ≢ key_of q)) (sym same)
        (All-weaker (Contains (queries_in ts)) (λ y. y ≢ key_of q) (λ y c. fresh-last (queries_in ts) (key_of q) y (subst (AllPairs (λ x y. x ≢ y)) queries once) c) (replied_in ts) before.within)))
  ];
  apart = λ j k f g is_j is_k keys. elim (pushed-at handed (Some q) j (Some f) is_j) [
    | inl first ↦ elim (pushed-at handed (Some q) k (Some g) is_k) [
      | inl second ↦ h.apart j k f g first second keys
      | inr second ↦ (let eq : q ≡ g = cc second.1 in absurd (fresh f (old j f first) (keys ∙ ap (λ (x : DeliveredQuery). key_of x) (sym eq))))
    ]
    | inr first ↦ elim (pushed-at handed (Some q) k (Some g) is_k) [
      | inl second ↦ (let eq : q ≡ f = cc first.1 in absurd (fresh g (old k g second) (sym keys ∙ ap (λ (x : DeliveredQuery). key_of x) (sym eq))))
      | inr second ↦ sym first.0 ∙ second.0
    ]
  ];
  replied = h.replied;
}
  where
    fresh : (f : DeliveredQuery) → Contains (queries_in ts) (key_of f) → key_of f ≡ key_of q → ⊥
    fresh f c = fresh-last (queries_in ts) (key_of q) (key_of f) (subst (AllPairs (λ x y. x ≢ y)) queries once) c

-- ---- the turn of an agent

pub awaiting-more : Below → (c : Cluster) (ts : List Turn) (b : ℕ) (act : Act) (m : IdealNode) → IsAwaiting ts m.handed → Makes m (Of b act) (apply m c.sent act).done
    → (let o = apply m c.sent act in AllPairs (λ x y. x ≢ y) (queries_in (ts ++ (applied c b act o).turn ∷ [])) → IsAwaiting (ts ++ (applied c b act o).turn ∷ []) (with_handed o.done.handed o.node).handed)
awaiting-more lower c ts b act m h makes once = by (apply m c.sent act).done.handed refl
  where
    turn : Turn
    turn = (applied c b act (apply m c.sent act)).turn

    new : List (TimedEntry ℕ)
    new = entered_by (Of b act) (given_by c.sent act) (apply m c.sent act).done.answer

    r : Replies m (apply m c.sent act)
    r = replies-effect m (Of b act) (given_by c.sent act) (apply m c.sent act) (effect lower m c.sent b act) makes

    queries : queries_in (ts ++ (applied c b act (apply m c.sent act)).turn ∷ []) ≡ queries_in ts ++ entered_by (Of b act) (given_by c.sent act) (apply m c.sent act).done.answer
    queries = flat_map-push (λ t. entered_by t.action t.given t.line.answer) ts (applied c b act (apply m c.sent act)).turn

    old : IsAwaiting (ts ++ (applied c b act (apply m c.sent act)).turn ∷ []) (apply m c.sent act).node.handed
    old = awaiting-old ts (applied c b act (apply m c.sent act)).turn m (Of b act) (given_by c.sent act) (apply m c.sent act) (effect lower m c.sent b act) h r refl
        (entered_by (Of b act) (given_by c.sent act) (apply m c.sent act).done.answer) queries

    by : (d : Option DeliveredQuery) → (apply m c.sent act).done.handed ≡ d → IsAwaiting (ts ++ (applied c b act (apply m c.sent act)).turn ∷ []) ((apply m c.sent act).node.handed ++ map (λ q. Some q) (option_to_list d))
    by None is = subst (IsAwaiting (ts ++ (applied c b act (apply m c.sent act)).turn ∷ [])) (sym (append-nil (apply m c.sent act).node.handed)) old
    by (Some q) is =
        awaiting-new ts (ts ++ (applied c b act (apply m c.sent act)).turn ∷ []) (apply m c.sent act).node.handed q old
        (answered-push (λ r. not (is_ack r)) ts (applied c b act (apply m c.sent act)).turn ∙ ap (λ l. replied_in ts ++ l) (none-handed m (apply m c.sent act) q r is) ∙ append-nil (replied_in ts))
        (queries ∙ ap (λ l. queries_in ts ++ l) (hands-apply lower m c.sent b act q is)) h.replied
        (λ number g waits. h.entered number g (stood m (Of b act) (given_by c.sent act) (apply m c.sent act) (effect lower m c.sent b act) number g waits).at) once

pub awaiting-none : IsAwaiting [] []
awaiting-none = record { entered = λ number h is. absurd (cc is); unanswered = λ number h is. absurd (cc is); apart = λ j k g h is. absurd (cc is); replied = record { within = All-nil _; once = λ i j d lt within. absurd (omega arith) } }
