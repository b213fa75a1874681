-- If P holds of what an action is given, it holds of everything that the action hands out and that its packets carry.
use Rattle.serf_model.proofs.Names.{Bool, List, None, Option, Result, Some, [], cond, false, map, refl, subst, suc, sym, true, zero, ℕ, ◌++◌, ◌∷◌, ◌≡◌, All-cons, All-contains, All-head, All-nil, All-tail, All-weaker, option_to_list, All, Contains, not, slice_get, canonical, Message, Query, push_pull, query, WireError, EventBody, event_of, TimedEntry, event_packet, ack_flag, ack_if_passed, ack_packet, all_pass, has_flag, no_broadcast_flag, response_packet, state_of, view_of, Below, Applied, Done, IdealNode, events_given, IsRepresentable, events_brought, events_in_packet, fired_by, packet_given, Action, Of}
use Rattle.serf_model.specs.declared.action.Act.TheVariants as acts
use Rattle.serf_model.proofs.CallsKept.{may-fire}
use Rattle.serf_model.proofs.Effects.{Effect, asks, fires, hears, is_asked, passes_on, replies, tells, as_message}
use Rattle.serf_model.proofs.PacketEvents.{events_in_packet-event, events_in_packet-query, events_in_packet-response, state-carries}
use Rattle.serf_model.proofs.PerTimeBound.{out_in}

-- P holds of everything that is handed out, and of everything in the packets that are sent
pub record AllHave (P : TimedEntry EventBody → Type 0) (done : Done) : Type 0 where
  pub events : All P (map out_in done.events)
  pub packets : All (λ p. All P (events_in_packet p)) done.packets

abbrev pub Carries : (TimedEntry EventBody → Type 0) → List ℕ → Type 0
Carries P packet = All P (events_in_packet packet)

pub one : {X : Type 0} (P : X → Type 0) (x : X) → P x → All P (x ∷ [])
one P x h = All-cons P x [] h (All-nil P)

none : (P : TimedEntry EventBody → Type 0) (packet : List ℕ) → events_in_packet packet ≡ [] → Carries P packet
none P packet is = subst (All P) (sym is) (All-nil P)

-- what holds of a query's ack, if there is one
pub ack-has : (Q : List ℕ → Type 0) (tags : Bool) (node : List ℕ) (q : Query) → Q (ack_packet node q) → All Q (option_to_list (ack_if_passed tags node q))
ack-has Q tags node q has = by (all_pass tags q.filters node) (has_flag ack_flag q.flags)
  where
    by : (passes wants : Bool) → All Q (option_to_list (cond passes (cond wants (Some (ack_packet node q)) None) None))
    by true true = one Q (ack_packet node q) has
    by true false = All-nil Q
    by false wants = All-nil Q

-- what is sent when a query is new
pub entered-has : (Q : List ℕ → Type 0) (node packet : List ℕ) (q : Query) (b : Bool) → Q packet → Q (ack_packet node q) → All Q (cond b (packet ∷ []) [] ++ option_to_list (ack_if_passed false node q))
entered-has Q node packet q true here has = All-cons Q packet (option_to_list (ack_if_passed false node q)) here (ack-has Q false node q has)
entered-has Q node packet q false here has = ack-has Q false node q has

no-event-ack : (P : TimedEntry EventBody → Type 0) (node : List ℕ) (q : Query) → Carries P (ack_packet node q)
no-event-ack P node q = none P (ack_packet node q) (events_in_packet-response q.time q.id node ack_flag [])

pub brought : (P : TimedEntry EventBody → Type 0) (given : Option (List ℕ)) → ((packet : List ℕ) → given ≡ Some packet → Carries P packet) → All P (events_given given)
brought P None carries = All-nil P
brought P (Some packet) carries = carries packet refl

-- If P holds of everything that the agent entered, of everything that its packet carries, and of what the action fires,
-- it holds of everything that the action hands out and sends.
pub packets-have : Below → (P : TimedEntry EventBody → Type 0) (m : IdealNode) (action : Action) (given : Option (List ℕ)) (o : Applied) → Effect m action given o → IsRepresentable m.agent → All (λ p. P p.entry) m.agent.events.history
    → ((packet : List ℕ) → given ≡ Some packet → Carries P packet) → All P (fired_by action o.done.answer) → AllHave P o.done
packets-have lower P m action given o (hears j outs answer heard idle) g all carries fired = record {
  events = All-weaker (Contains (events_given given)) P (λ e c. All-contains P (events_given given) e (brought P given carries) c) (map out_in outs) heard.among;
  packets = All-nil (Carries P);
}
packets-have lower P m action given o (fires agent name payload coalesce is) g all carries fired =
    let may = may-fire m.agent (event_of name payload) coalesce g.consistent.sound is in
    record {
      events = fired;
      packets = one (Carries P) (event_packet m.agent.events.clock (event_of name payload) coalesce)
          (subst (All P) (sym (events_in_packet-event lower m.agent.events.clock (event_of name payload) coalesce may.clock may.short)) fired);
    }
packets-have lower P m action given o (passes_on packet e is new) g all carries fired = record {
  events = subst (λ (r : Result Message WireError). All P (events_brought r)) is (carries packet refl);
  packets = one (Carries P) packet (carries packet refl);
}
packets-have lower P m action given o (asks agent new may) g all carries fired =
    let q : Query = as_message m new in
    record { events = All-nil P; packets = All-cons (Carries P) (canonical (query q)) (option_to_list (ack_if_passed new.params.tags_pass m.agent.config.name q)) (none P (canonical (query q)) (events_in_packet-query q)) (ack-has (Carries P) new.params.tags_pass m.agent.config.name q (no-event-ack P m.agent.config.name q)) }
packets-have lower P m action given o (is_asked to number packet now q is new) g all carries fired =
    record { events = All-nil P; packets = entered-has (Carries P) m.agent.config.name packet q (not (has_flag no_broadcast_flag q.flags)) (carries packet refl) (no-event-ack P m.agent.config.name q) }
packets-have lower P m action given o (tells short) g all carries fired =
    record { events = All-nil P; packets = one (Carries P) (canonical (push_pull (state_of (view_of m.agent) [] []))) (state-carries lower P m.agent g short all) }
packets-have lower P m action given o (replies agent number now payload h at may) g all carries fired =
    record { events = All-nil P; packets = one (Carries P) (response_packet h payload) (none P (response_packet h payload) (events_in_packet-response h.time h.id h.node 0 payload)) }
packets-have lower P m action given o _ g all carries fired = record { events = All-nil P; packets = All-nil (Carries P) }

-- a packet among those that were sent
sent-at : {X : Type 0} (P : X → Type 0) (xs : List X) (k : ℕ) (x : X) → All P xs → slice_get xs k ≡ Some x → P x
sent-at P [] k x all is = absurd (cc is)
sent-at P (y ∷ ys) zero x all is = let same : y ≡ x = cc is in subst P same (All-head P y ys all)
sent-at P (y ∷ ys) (suc k) x all is = sent-at P ys k x (All-tail P y ys all) is

pub given-sent : (P : List ℕ → Type 0) (sent : List (List ℕ)) (action : Action) (packet : List ℕ) → All P sent → packet_given sent action ≡ Some packet → P packet
given-sent P sent (Of a (acts.Deliver k now)) packet all is = sent-at P sent k packet all is
given-sent P sent (Of a (acts.Merge k join)) packet all is = sent-at P sent k packet all is
given-sent P sent _ packet all is = absurd (cc is)
