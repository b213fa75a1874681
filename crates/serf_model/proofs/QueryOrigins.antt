-- Where the queries that enter from packets come from.
use Rattle.serf_model.proofs.Names.{List, None, Option, Some, [], ap, inl, inr, refl, subst, sym, true, ℕ, ◌++◌, ◌∙◌, ◌∷◌, ◌≡◌, ◌⊎◌, append-nil, All-append, All-cons, All-head, All-nil, All-weaker, option_to_list, All, Contains, not, canonical, decoded, PushPull, Query, push_pull, query, event_of, event_packet, ack_flag, ack_if_passed, ack_packet, has_flag, no_broadcast_flag, response_packet, state_of, view_of, Config, Below, Applied, Cluster, Done, IdealNode, Run, Stepped, after, applied, apply, injects, on_agent, start, QueryFired, Turn, given_by, injected_in, injects_of, queried_in, query_brought, query_packets, Act, Action, Of}
use Rattle.serf_model.specs.declared.line.Answer.TheVariants as lines
use Rattle.serf_model.proofs.Effects.{Effect, IsIdle, asks, counts, effect, fires, hears, is_asked, passes_on, replies, tells, as_message}
use Rattle.serf_model.proofs.StepCases.{step-cases}
use Rattle.serf_model.proofs.TurnLaws.{all-in, at_each_nil, at_each_push, in-before, in-now}
use Rattle.serf_model.proofs.PacketEvents.{no-query-event, no-query-state, no-query-response}
use Rattle.serf_model.proofs.PacketsHave.{ack-has, entered-has, given-sent, one}

-- this packet was sent for a fired query, or was injected
abbrev pub WasAsked : List Turn → List ℕ → Type 0
WasAsked turns packet = Contains (queried_in turns) packet ⊎ Contains (injected_in turns) packet

-- the packet contains no query, or it was sent in this way
abbrev pub IsOf : (List ℕ → Type 0) → List ℕ → Type 0
IsOf W packet = (query_brought (decoded packet) ≡ []) ⊎ W packet

no-query-ack : (W : List ℕ → Type 0) (node : List ℕ) (q : Query) → IsOf W (ack_packet node q)
no-query-ack W node q = inl (no-query-response q.time q.id node ack_flag [])

-- what any action sends
record Sends (W : List ℕ → Type 0) (given : Option (List ℕ)) (done : Done) : Type 0 where
  packets : All (IsOf W) done.packets
  brings : (packet : List ℕ) → given ≡ Some packet → done.answer ≡ lines.Query → query_brought (decoded packet) ≡ [] → ⊥

sends-effect : (W : List ℕ → Type 0) (m : IdealNode) (action : Action) (given : Option (List ℕ)) (o : Applied) → Effect m action given o → ((packet : List ℕ) → given ≡ Some packet → IsOf W packet) → All W (query_packets o.done.answer o.done.packets)
    → Sends W given o.done
sends-effect W m action given o (hears j outs answer heard idle) all w = record { packets = All-nil (IsOf W); brings = λ p g e n. subst (IsIdle m.agent given) e idle }
sends-effect W m action given o (fires agent name payload coalesce may) all w = record {
  packets = one (IsOf W) (event_packet m.agent.events.clock (event_of name payload) coalesce) (inl (no-query-event m.agent.events.clock (event_of name payload) coalesce));
  brings = λ p g e n. cc;
}
sends-effect W m action given o (passes_on packet e is new) all w = record { packets = one (IsOf W) packet (all packet refl); brings = λ p g e n. cc }
sends-effect W m action given o (asks agent new may) all w =
    let q : Query = as_message m new in
    record { packets = All-cons (IsOf W) (canonical (query q)) (option_to_list (ack_if_passed new.params.tags_pass m.agent.config.name q)) (inr (All-head W (canonical (query q)) [] w)) (ack-has (IsOf W) new.params.tags_pass m.agent.config.name q (no-query-ack W m.agent.config.name q)); brings = λ p g e n. cc }
sends-effect W m action given o (is_asked to number packet now q is new) all w = record {
  packets = entered-has (IsOf W) m.agent.config.name packet q (not (has_flag no_broadcast_flag q.flags)) (all packet refl) (no-query-ack W m.agent.config.name q);
  brings = λ p g e n.
      let same : packet ≡ p = cc g in
      let some : record { time = q.time; key = q.id } ∷ [] ≡ [] = sym (ap query_brought is) ∙ ap (λ (x : List ℕ). query_brought (decoded x)) same ∙ n in
      cc;
}
sends-effect W m action given o (counts to number now packet r q true is at none kind) all w = record { packets = All-nil (IsOf W); brings = λ p g e n. cc }
sends-effect W m action given o (tells short) all w =
    let s : PushPull = state_of (view_of m.agent) [] [] in
    record { packets = one (IsOf W) (canonical (push_pull s)) (inl (no-query-state s)); brings = λ p g e n. cc }
sends-effect W m action given o (replies agent number now payload h at may) all w = record { packets = one (IsOf W) (response_packet h payload) (inl (no-query-response h.time h.id h.node 0 payload)); brings = λ p g e n. cc }
sends-effect W m action given o _ all w = record { packets = All-nil (IsOf W); brings = λ p g e n. cc }

-- ---- a step

-- all packets that contain a query were sent for a fired query, or were injected
pub record IsAsked (c : Cluster) (turns : List Turn) : Type 0 where
  pub packets : All (IsOf (WasAsked turns)) c.sent
  pub fired : QueryFired turns

fired_queries-more : (turns : List Turn) (turn : Turn) (packet : List ℕ) → IsOf (WasAsked turns) packet → IsOf (WasAsked (turns ++ turn ∷ [])) packet
fired_queries-more turns turn packet (inl none) = inl none
fired_queries-more turns turn packet (inr (inl h)) = inr (inl (in-before (λ t. query_packets t.line.answer t.packets) turns turn packet h))
fired_queries-more turns turn packet (inr (inr h)) = inr (inr (in-before (λ t. injects_of t.action) turns turn packet h))

asks-now : (turns : List Turn) (turn : Turn) → All (WasAsked (turns ++ turn ∷ [])) (query_packets turn.line.answer turn.packets)
asks-now turns turn = all-in (WasAsked (turns ++ turn ∷ [])) (query_packets turn.line.answer turn.packets) (λ p h. inl (in-now (λ t. query_packets t.line.answer t.packets) turns turn p h))

injects-now : (turns : List Turn) (turn : Turn) → All (IsOf (WasAsked (turns ++ turn ∷ []))) (injects_of turn.action)
injects-now turns turn = all-in (IsOf (WasAsked (turns ++ turn ∷ []))) (injects_of turn.action) (λ p h. inr (inr (in-now (λ t. injects_of t.action) turns turn p h)))

abbrev FiredAt : List Turn → Turn → Type 0
FiredAt before turn = (packet : List ℕ) → turn.line.answer ≡ lines.Query → turn.given ≡ Some packet → WasAsked before packet

all-more : (turns : List Turn) (turn : Turn) (ps : List (List ℕ)) → All (IsOf (WasAsked turns)) ps → All (IsOf (WasAsked (turns ++ turn ∷ []))) ps
all-more turns turn ps all = All-weaker (IsOf (WasAsked turns)) (IsOf (WasAsked (turns ++ turn ∷ []))) (fired_queries-more turns turn) ps all

fired_queries-applied : Below → (c : Cluster) (turns : List Turn) (b : ℕ) (act : Act) (m : IdealNode) → IsAsked c turns → (let s = applied c b act (apply m c.sent act) in IsAsked s.cluster (turns ++ s.turn ∷ []))
fired_queries-applied lower c turns b act m h =
    let turn : Turn = (applied c b act (apply m c.sent act)).turn in
    let W : List ℕ → Type 0 = WasAsked (turns ++ turn ∷ []) in
    let packets : All (IsOf W) c.sent = all-more turns turn c.sent h.packets in
    let s = sends-effect W m (Of b act) (given_by c.sent act) (apply m c.sent act) (effect lower m c.sent b act) (λ p is. given-sent (IsOf W) c.sent (Of b act) p packets is) (asks-now turns turn) in
    record {
      packets = All-append (IsOf W) c.sent (apply m c.sent act).done.packets packets s.packets;
      fired = at_each_push FiredAt turns turn h.fired (λ p says given. by p says given (s.brings p given says) (given-sent (IsOf (WasAsked turns)) c.sent (Of b act) p h.packets given));
    }
  where
    by : (p : List ℕ) → (apply m c.sent act).done.answer ≡ lines.Query → given_by c.sent act ≡ Some p → (query_brought (decoded p) ≡ [] → ⊥) → IsOf (WasAsked turns) p → WasAsked turns p
    by p says given brings (inl none) = absurd (brings none)
    by p says given brings (inr w) = w

fired_queries-still : (c : Cluster) (turns : List Turn) (s : Stepped) → IsAsked c turns → s.cluster.sent ≡ c.sent ++ s.turn.packets → (s.turn.line.answer ≡ lines.Query → ⊥) → All (IsOf (WasAsked (turns ++ s.turn ∷ []))) s.turn.packets → IsAsked s.cluster (turns ++ s.turn ∷ [])
fired_queries-still c turns s h sent never all =
    let W : List ℕ → Type 0 = WasAsked (turns ++ s.turn ∷ []) in
    record {
      packets = subst (All (IsOf W)) (sym sent) (All-append (IsOf W) c.sent s.turn.packets (all-more turns s.turn c.sent h.packets) all);
      fired = at_each_push FiredAt turns s.turn h.fired (λ p says given. absurd (never says));
    }

pub fired_queries-step : Below → (r : Run) (action : Action) → IsAsked r.cluster r.turns → IsAsked (after r action).cluster (after r action).turns
fired_queries-step lower r action h =
    step-cases (λ s. IsAsked s.cluster (r.turns ++ s.turn ∷ [])) r.cluster action (λ bytes. let now = injects r.cluster bytes in fired_queries-still r.cluster r.turns now h refl (λ e. cc) (injects-now r.turns now.turn))
    (λ b act at. fired_queries-still r.cluster r.turns (on_agent r.cluster b act None) h (sym (append-nil r.cluster.sent)) (λ e. cc) (All-nil (IsOf (WasAsked (r.turns ++ (on_agent r.cluster b act None).turn ∷ []))))) (λ b act m is at. fired_queries-applied lower r.cluster r.turns b act m h)

pub fired_queries-start : (configs : List Config) → IsAsked (start configs).cluster []
fired_queries-start configs = record { packets = All-nil (IsOf (WasAsked [])); fired = at_each_nil FiredAt }
