-- What each run counts: each name once, in time, and as it was sent.
use Rattle.serf_model.proofs.Names.{Bool, List, None, Option, Result, Some, [], ap, arith, cond, false, refl, subst, suc, sym, true, zero, ℕ, ◌++◌, ◌∙◌, ◌∷◌, ◌≡◌, ◌≢◌, All-cons, All-head, All-nil, All-tail, All-weaker, option_to_list, All, AllPairs, Contains, slice_get, Message, WireError, Config, CountedInTime, CountedOnce, CountedSent, HoldsCounted, IsAwaited, IsDelivered, OpenQueriesHold, answer_brought, answers_in, as_fired, counted_at, counted_by, is_counted, life_of, own_queries, Below, Cluster, IdealNode, Run, after, applied, apply, line_of, start, step, IsRepresentable, Turn, actor_of, given_by, packet_given, queries_at, turns_by, Act, Action, Of}
use Rattle.serf_model.specs.declared.action.Act.TheVariants as acts
use Rattle.serf_model.proofs.PerAgent.{Each, AreNobodys, IsRefused, each-step, each-start, nobodys-step, nobodys-start}
use Rattle.serf_model.proofs.PresentLife.{last_life, own_life}
use Rattle.serf_model.proofs.Effects.{effect}
use Rattle.serf_model.proofs.RunLaws.{IsAfter, all-at, queries_of}
use Rattle.serf_model.proofs.OpenQueryContents.{IsOpen, HasCounted, Tells, counted_in, has-counted-effect, tells-effect}
use Rattle.serf_model.proofs.StepCases.{step-cases}
use Rattle.serf_model.proofs.TurnLaws.{at_each_nil, at_each_push}

pub record IsCounting (c : Cluster) (turns : List Turn) : Type 0 where
  pub each : Each (λ a ts m. HasCounted ts m.agent) c turns
  pub nobody : AreNobodys c turns
  pub sent : CountedSent turns
  pub in_time : CountedInTime turns

-- ---- a turn

there : {X : Type 0} (xs : List X) (k : ℕ) (x : X) → slice_get xs k ≡ Some x → Contains xs x
there [] k x is = absurd (cc is)
there (y ∷ ys) zero x is = let same : y ≡ x = cc is in (0, omega arith, same)
there (y ∷ ys) (suc k) x is = let c = there ys k x is in (suc c.0, omega (arith, c.1), c.2)

abbrev SentAt : List Turn → Turn → Type 0
SentAt before turn = (ack : Bool) → is_counted ack turn.line.answer ≡ true → IsDelivered before turn ack

abbrev InTimeAt : List Turn → Turn → Type 0
InTimeAt before turn = (a packet now : ℕ) (ack : Bool) → turn.action ≡ Of a (acts.Deliver packet now) → All (IsAwaited (life_of a before) now) (counted_at ack turn)

representable-at : (configs : List Config) (c : Cluster) (turns : List Turn) (b : ℕ) (m : IdealNode) → IsAfter configs c turns → slice_get c.nodes b ≡ Some m → IsRepresentable m.agent
representable-at configs c turns b m h at = all-at (λ m. IsRepresentable m.agent) c.nodes b m h.representable at

tells-at : Below → (c : Cluster) (turns : List Turn) (b : ℕ) (act : Act) (m : IdealNode) (ack : Bool) → IsCounting c turns → slice_get c.nodes b ≡ Some m → (let t = (applied c b act (apply m c.sent act)).turn in is_counted ack t.line.answer ≡ true → Tells (turns_by b turns) t ack)
tells-at lower c turns b act m ack h at counted =
    let o = apply m c.sent act in
    tells-effect (turns_by b turns) m (Of b act) (given_by c.sent act) o (line_of c b o) o.done.packets ack (effect lower m c.sent b act) refl (h.each b m at) counted

sent-acts : Below → (configs : List Config) (c : Cluster) (turns : List Turn) (b : ℕ) (act : Act) (m : IdealNode) → IsAfter configs c turns → IsCounting c turns → slice_get c.nodes b ≡ Some m → SentAt turns (applied c b act (apply m c.sent act)).turn
sent-acts lower configs c turns b act m after h at ack counted =
    let t = tells-at lower c turns b act m ack h at counted in
    let place : slice_get c.sent t.number ≡ Some t.packet = ap (packet_given c.sent) (sym t.action) ∙ t.given in
    record {
      agent = t.to;
      number = t.number;
      now = t.now;
      action = t.action;
      packet = t.packet;
      given = t.given;
      sent = subst (λ l. Contains l t.packet) after.sent (there c.sent t.number t.packet place);
      answer = t.answer;
      says = t.says;
      kind = t.kind;
    }

sent-step : Below → (configs : List Config) (c : Cluster) (turns : List Turn) (action : Action) → IsAfter configs c turns → IsCounting c turns → SentAt turns (step c action).turn
sent-step lower configs c turns action after h = step-cases (λ s. SentAt turns s.turn) c action (λ bytes ack counted. absurd (cc counted)) (λ b act at ack counted. absurd (cc counted)) (λ b act m is at. sent-acts lower configs c turns b act m after h at)

in_time-acts : Below → (c : Cluster) (turns : List Turn) (b : ℕ) (act : Act) (m : IdealNode) → IsCounting c turns → slice_get c.nodes b ≡ Some m → InTimeAt turns (applied c b act (apply m c.sent act)).turn
in_time-acts lower c turns b act m h at a packet now ack is = by (is_counted ack (apply m c.sent act).done.answer) refl
  where
    by : (x : Bool) → is_counted ack (apply m c.sent act).done.answer ≡ x → All (IsAwaited (life_of a turns) now) (cond x (answers_in (option_to_list (given_by c.sent act))) [])
    by false never = All-nil (IsAwaited (life_of a turns) now)
    by true counted =
        let t = tells-at lower c turns b act m ack h at counted in
        let same : Some b ≡ Some a = ap actor_of is in
        let agent : b ≡ a = cc same in
        let deliver : Of t.to (acts.Deliver t.number t.now) ≡ Of a (acts.Deliver packet now) = sym t.action ∙ is in
        let moment : t.now ≡ now = cc deliver in
        let one : answers_in (option_to_list (given_by c.sent act)) ≡ t.answer ∷ [] = ap (λ g. answers_in (option_to_list g)) t.given ∙ ap (λ (d : Result Message WireError). answer_brought d ++ []) t.says in
        let own : IsAwaited (last_life (turns_by a turns)) now t.answer =
        subst (λ (n : ℕ). IsAwaited (last_life (turns_by a turns)) n t.answer) moment (subst (λ (n : ℕ). IsAwaited (last_life (turns_by n turns)) t.now t.answer) agent t.awaited) in
        let here : IsAwaited (life_of a turns) now t.answer = subst (λ (l : List Turn). IsAwaited l now t.answer) (sym (own_life a turns)) own in
        subst (All (IsAwaited (life_of a turns) now)) (sym one) (All-cons (IsAwaited (life_of a turns) now) t.answer [] here (All-nil (IsAwaited (life_of a turns) now)))

in_time-step : Below → (c : Cluster) (turns : List Turn) (action : Action) → IsCounting c turns → InTimeAt turns (step c action).turn
in_time-step lower c turns action h =
    step-cases (λ s. InTimeAt turns s.turn) c action (λ bytes a packet now ack is. All-nil (IsAwaited (life_of a turns) now)) (λ b act at a packet now ack is. All-nil (IsAwaited (life_of a turns) now))
    (λ b act m is at. in_time-acts lower c turns b act m h at)

pub counting-step : Below → (configs : List Config) (r : Run) (action : Action) → IsAfter configs r.cluster r.turns → IsCounting r.cluster r.turns → IsCounting (after r action).cluster (after r action).turns
counting-step lower configs r action h all = record {
  each = each-step (λ a ts m. HasCounted ts m.agent) r action all.each
      (λ b act m is at p.
      let o = apply m r.cluster.sent act in
      has-counted-effect (turns_by b r.turns) m (Of b act) (given_by r.cluster.sent act) o (line_of r.cluster b o) o.done.packets (effect lower m r.cluster.sent b act) refl (representable-at configs r.cluster r.turns b m h at) (subst (λ n. All (Contains (queries_of n)) (queries_at b r.turns)) at (h.queries b).within) p);
  nobody = nobodys-step r action all.nobody;
  sent = at_each_push SentAt r.turns (step r.cluster action).turn all.sent (sent-step lower configs r.cluster r.turns action h all);
  in_time = at_each_push InTimeAt r.turns (step r.cluster action).turn all.in_time (in_time-step lower r.cluster r.turns action all);
}

pub counting-start : (configs : List Config) → IsCounting (start configs).cluster []
counting-start configs = record {
  each = each-start (λ a ts m. HasCounted ts m.agent) configs (λ a config at. record {
    fired_queries = All-nil (IsOpen []);
    past = λ ack. All-nil _;
    once = λ ack i j d lt within. absurd (omega arith);
  });
  nobody = nobodys-start configs;
  sent = at_each_nil SentAt;
  in_time = at_each_nil InTimeAt;
}

-- ---- the promises

refused-count : (ack : Bool) (ts : List Turn) → All IsRefused ts → counted_in ack ts ≡ []
refused-count ack [] all = refl
refused-count ack (t ∷ ts) all =
    let first = All-head IsRefused t ts all in
    ap (λ a. cond (is_counted ack a) (answers_in (option_to_list t.given)) [] ++ counted_in ack ts) first.answer ∙ refused-count ack ts (All-tail IsRefused t ts all)

pub counted-once : (c : Cluster) (turns : List Turn) → IsCounting c turns → CountedOnce turns
counted-once c turns h a ack = by (slice_get c.nodes a) refl
  where
    by : (r : Option IdealNode) → slice_get c.nodes a ≡ r → AllPairs (λ x y. x.time ≡ y.time → x.from ≢ y.from) (counted_by ack a turns)
    by None none = subst (AllPairs (λ x y. x.time ≡ y.time → x.from ≢ y.from)) (sym (refused-count ack (turns_by a turns) (h.nobody a none))) (λ i j d lt within. absurd (omega arith))
    by (Some m) at = (h.each a m at).once ack

pub open-hold : (r : Run) → IsCounting r.cluster r.turns → OpenQueriesHold r
open-hold r h a m at = All-weaker (IsOpen (turns_by a r.turns)) (HoldsCounted a r.turns) (λ q o. record { fired = subst (λ l. Contains (own_queries l) (as_fired q)) (sym (own_life a r.turns)) o.fired; acks = o.acks; responses = o.responses }) m.agent.fired_queries (h.each a m at).fired_queries
