-- Where the acks and responses in each run come from.
use Rattle.serf_model.proofs.Names.{Err, List, None, Ok, Option, Result, Some, [], ap, arith, length, map, refl, subst, sym, ℕ, ◌++◌, ◌∙◌, ◌∷◌, ◌≡◌, ◌≢◌, eq-eqb, All-cons, All-head, All-nil, All-tail, flat_map, option_map, All, AllPairs, Contains, not, slice_get, decoded, Message, foreign, push_pull, query, query_response, user_event, WireError, DeliveredQuery, is_ack, Config, AckedOnce, AnswersMade, IsMade, RepliedOnce, acked, acked_by, answer_brought, answers_in, injected, query_answered, replied, replied_by, Below, Cluster, IdealNode, Run, after, applied, apply, handed_line, injects, start, step, IsRepresentable, HasSizes, Turn, actor_of, turns_by, Act, Action, Inject, Of}
use Rattle.std.specs.Prelude.{filter}
use Rattle.serf_model.specs.declared.action.Act.TheVariants as acts
use Rattle.serf_model.proofs.HistoryGrowth.{keeps-apply}
use Rattle.serf_model.proofs.PerAgent.{AreNobodys, Each, IsRefused, each-step, each-start, nobodys-step, nobodys-start, turns-mine}
use Rattle.serf_model.proofs.PresentLife.{own_life}
use Rattle.serf_model.proofs.OnceLaws.{query-once}
use Rattle.serf_model.proofs.RunLaws.{CanTellIt, IsAfter, after-acts, all-at}
use Rattle.serf_model.proofs.SendLaws.{Makes, Sends, makes_ack, makes_none, makes_reply, sends-apply}
use Rattle.serf_model.proofs.HandedQueries.{HasHanded, acked_in, has-handed-more}
use Rattle.serf_model.proofs.ReplyLaws.{IsAwaiting, awaiting-more, awaiting-none, replied_in}
use Rattle.serf_model.proofs.OpenQueryContents.{queries_in}
use Rattle.serf_model.proofs.StepCases.{step-cases}
use Rattle.serf_model.proofs.TurnLaws.{at_each_nil, at_each_push}

-- the queries that an agent can answer, and those that it answered
abbrev Awaits : ℕ → List Turn → IdealNode → Type 0
Awaits a ts m = IsAwaiting ts m.handed

-- what each agent can answer, and the origin of what was sent
pub record IsServed (configs : List Config) (c : Cluster) (turns : List Turn) : Type 0 where
  pub each : Each (HasHanded configs) c turns
  pub awaiting : Each Awaits c turns
  pub nobody : AreNobodys c turns
  pub made : AnswersMade configs turns

-- ---- a turn

abbrev MadeAt : List Config → List Turn → Turn → Type 0
MadeAt configs before turn = All (IsMade configs before turn) (answers_in turn.packets)

representable-at : (configs : List Config) (c : Cluster) (turns : List Turn) (b : ℕ) (m : IdealNode) → IsAfter configs c turns → slice_get c.nodes b ≡ Some m → IsRepresentable m.agent
representable-at configs c turns b m h at = all-at (λ m. IsRepresentable m.agent) c.nodes b m h.representable at

sends-at : Below → (configs : List Config) (c : Cluster) (turns : List Turn) (b : ℕ) (act : Act) (m : IdealNode) → IsAfter configs c turns → IsServed configs c turns → HasSizes (Of b act) → slice_get c.nodes b ≡ Some m → Sends m (Of b act) (apply m c.sent act).done
sends-at lower configs c turns b act m h served ranged at = sends-apply lower m c.sent b act (representable-at configs c turns b m h at) (served.each b m at).handable ranged

made-applied : (configs : List Config) (c : Cluster) (turns : List Turn) (b : ℕ) (act : Act) (m : IdealNode) → HasHanded configs b (turns_by b turns) m → Makes m (Of b act) (apply m c.sent act).done
    → MadeAt configs turns (applied c b act (apply m c.sent act)).turn
made-applied configs c turns b act m hands (makes_none packets) = subst (All (IsMade configs turns (applied c b act (apply m c.sent act)).turn)) (sym packets) (All-nil (IsMade configs turns (applied c b act (apply m c.sent act)).turn))
made-applied configs c turns b act m hands (makes_ack h handed packets) =
    subst (All (IsMade configs turns (applied c b act (apply m c.sent act)).turn)) (sym packets)
    (All-cons (IsMade configs turns (applied c b act (apply m c.sent act)).turn) _ [] (acked record {
      agent = b;
      actor = refl;
      from = record { config = m.agent.config; settings = hands.settings; name = refl };
      line = handed_line b (length (apply m c.sent act).node.handed) h;
      hands = ap (λ (d : Option DeliveredQuery). option_map (handed_line b (length (apply m c.sent act).node.handed)) d) handed;
      to = refl;
      query = refl;
      ack = refl;
      empty = refl;
    }) (All-nil (IsMade configs turns (applied c b act (apply m c.sent act)).turn)))
made-applied configs c turns b act m hands (makes_reply agent number now payload h respond at replies packets in_time) =
    let same : Some agent ≡ Some b = ap actor_of (sym respond) in
    let mine : agent ≡ b = cc same in
    let shown = hands.shown number h at in
    let handable = hands.handable number h at in
    subst (All (IsMade configs turns (applied c b act (apply m c.sent act)).turn)) (sym packets)
    (All-cons (IsMade configs turns (applied c b act (apply m c.sent act)).turn) _ [] (replied record {
      agent = b;
      number = number;
      now = now;
      action = respond ∙ ap (λ (a : ℕ). Of a (acts.Respond number now payload)) mine;
      replied = replies;
      from = record { config = m.agent.config; settings = hands.settings; name = handable.node_is };
      line = shown.line;
      handing = shown.handing;
      there = subst (λ l. Contains l shown.handing) (sym (own_life b turns)) shown.there;
      handed = shown.handed;
      to = shown.to;
      deadline = h.deadline;
      until = shown.until;
      in_time = in_time;
      index = shown.index;
      query = shown.query;
      ack = refl;
    }) (All-nil (IsMade configs turns (applied c b act (apply m c.sent act)).turn)))

-- the answers in an injected packet were injected
made-injected : (configs : List Config) (turns : List Turn) (turn : Turn) (bytes : List ℕ) (r : Result Message WireError) → turn.action ≡ Inject bytes → decoded bytes ≡ r → All (IsMade configs turns turn) (answer_brought r ++ [])
made-injected configs turns turn bytes (Err error) action is = All-nil (IsMade configs turns turn)
made-injected configs turns turn bytes (Ok (user_event e)) action is = All-nil (IsMade configs turns turn)
made-injected configs turns turn bytes (Ok (query q)) action is = All-nil (IsMade configs turns turn)
made-injected configs turns turn bytes (Ok (query_response r)) action is = All-cons (IsMade configs turns turn) r [] (injected record { bytes = bytes; action = action; says = is }) (All-nil (IsMade configs turns turn))
made-injected configs turns turn bytes (Ok (push_pull m)) action is = All-nil (IsMade configs turns turn)
made-injected configs turns turn bytes (Ok (foreign kind)) action is = All-nil (IsMade configs turns turn)

made-step : Below → (configs : List Config) (c : Cluster) (turns : List Turn) (action : Action) → IsAfter configs c turns → IsServed configs c turns → HasSizes action → MadeAt configs turns (step c action).turn
made-step lower configs c turns action h served ranged =
    step-cases (λ s. MadeAt configs turns s.turn) c action (λ bytes. made-injected configs turns (injects c bytes).turn bytes (decoded bytes) refl refl) (λ b act at. All-nil _)
    (λ b act m is at. made-applied configs c turns b act m (served.each b m at) (sends-at lower configs c turns b act m h served (subst HasSizes is ranged) at).makes)

-- after one more turn of an agent, no query has entered twice in its turns
once-after : Below → (configs : List Config) (c : Cluster) (turns : List Turn) (b : ℕ) (act : Act) (m : IdealNode) → IsAfter configs c turns → CanTellIt configs (Of b act) → slice_get c.nodes b ≡ Some m
    → AllPairs (λ x y. x ≢ y) (queries_in (turns_by b turns ++ (applied c b act (apply m c.sent act)).turn ∷ []))
once-after lower configs c turns b act m h tells at =
    subst (λ ts. AllPairs (λ x y. x ≢ y) (queries_in ts)) (turns-mine b turns (applied c b act (apply m c.sent act)).turn (eq-eqb b b refl))
    (query-once configs (applied c b act (apply m c.sent act)).cluster (turns ++ (applied c b act (apply m c.sent act)).turn ∷ []) (after-acts lower configs c turns b act m h tells at) b)

pub served-step : Below → (configs : List Config) (r : Run) (action : Action) → HasSizes action → CanTellIt configs action → IsAfter configs r.cluster r.turns → IsServed configs r.cluster r.turns → IsServed configs (after r action).cluster (after r action).turns
served-step lower configs r action ranged tells h served = record {
  each = each-step (HasHanded configs) r action served.each
      (λ b act m is at p. has-handed-more lower r.cluster configs (turns_by b r.turns) b act m p (sends-at lower configs r.cluster r.turns b act m h served (subst HasSizes is ranged) at)
      (keeps-apply lower m r.cluster.sent b act (representable-at configs r.cluster r.turns b m h at)).config
      (once-after lower configs r.cluster r.turns b act m h (subst (CanTellIt configs) is tells) at));
  awaiting = each-step Awaits r action served.awaiting
      (λ b act m is at p. awaiting-more lower r.cluster (turns_by b r.turns) b act m p (sends-at lower configs r.cluster r.turns b act m h served (subst HasSizes is ranged) at).makes (once-after lower configs r.cluster r.turns b act m h (subst (CanTellIt configs) is tells) at));
  nobody = nobodys-step r action served.nobody;
  made = at_each_push (MadeAt configs) r.turns (step r.cluster action).turn served.made (made-step lower configs r.cluster r.turns action h served ranged);
}

pub served-start : (configs : List Config) → IsServed configs (start configs).cluster []
served-start configs = record {
  each = each-start (HasHanded configs) configs (λ a config at. record {
    settings = at;
    handable = λ number h is. absurd (cc is);
    shown = λ number h is. absurd (cc is);
    acked = record { within = All-nil _; once = λ i j d lt within. absurd (omega arith) };
  });
  awaiting = each-start Awaits configs (λ a config at. awaiting-none);
  nobody = nobodys-start configs;
  made = at_each_nil (MadeAt configs);
}

-- ---- the promises

refused-acks : (ts : List Turn) → All IsRefused ts → acked_in ts ≡ []
refused-acks [] all = refl
refused-acks (t ∷ ts) all =
    let first = All-head IsRefused t ts all in
    ap (λ ps. map query_answered (filter is_ack (answers_in ps ++ flat_map (λ t. answers_in t.packets) ts))) first.packets ∙ refused-acks ts (All-tail IsRefused t ts all)

pub acked-once : (configs : List Config) (c : Cluster) (turns : List Turn) → IsServed configs c turns → AckedOnce turns
acked-once configs c turns h a = by (slice_get c.nodes a) refl
  where
    by : (r : Option IdealNode) → slice_get c.nodes a ≡ r → AllPairs (λ x y. x ≢ y) (acked_by a turns)
    by None none = subst (AllPairs (λ x y. x ≢ y)) (sym (refused-acks (turns_by a turns) (h.nobody a none))) (λ i j d lt within. absurd (omega arith))
    by (Some m) at = (h.each a m at).acked.once

refused-replies : (ts : List Turn) → All IsRefused ts → replied_in ts ≡ []
refused-replies [] all = refl
refused-replies (t ∷ ts) all =
    let first = All-head IsRefused t ts all in
    ap (λ ps. map query_answered (filter (λ r. not (is_ack r)) (answers_in ps ++ flat_map (λ t. answers_in t.packets) ts))) first.packets ∙ refused-replies ts (All-tail IsRefused t ts all)

pub replied-once : (configs : List Config) (c : Cluster) (turns : List Turn) → IsServed configs c turns → RepliedOnce turns
replied-once configs c turns h a = by (slice_get c.nodes a) refl
  where
    by : (r : Option IdealNode) → slice_get c.nodes a ≡ r → AllPairs (λ x y. x ≢ y) (replied_by a turns)
    by None none = subst (AllPairs (λ x y. x ≢ y)) (sym (refused-replies (turns_by a turns) (h.nobody a none))) (λ i j d lt within. absurd (omega arith))
    by (Some m) at = (h.awaiting a m at).replied.once
