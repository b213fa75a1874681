-- A property of all events that agents entered, that are in the texts of agents that keep their events, and that
-- packets carry.
use Rattle.serf_model.proofs.Names.{List, Some, [], true, ℕ, ◌∷◌, ◌≡◌, All-append, All-cons, All-nil, All-weaker, AllByRecursion, All, slice_get, EventBody, TimedEntry, IdealAgent, Past, kept_events, whatever, Below, Applied, Cluster, IdealNode, applied, apply, injects, with_handed, IsRepresentable, CanTellAct, tailed_by, events_in_packet, fired_by, given_by, Act, Of}
use Rattle.serf_model.proofs.Effects.{effect}
use Rattle.serf_model.proofs.HistoryGrowth.{Says, says-more}
use Rattle.serf_model.proofs.PacketsHave.{AllHave, Carries, given-sent, packets-have}
use Rattle.serf_model.proofs.Places.{all-at, all-put}

pub record Spreads (P : TimedEntry EventBody → Type 0) (c : Cluster) : Type 0 where
  pub agents : AllByRecursion (λ m. Says P m.agent) c.nodes
  pub packets : All (Carries P) c.sent

-- ---- a weaker property

pub says-weaker : (P Q : TimedEntry EventBody → Type 0) (i : IdealAgent) → ((e : TimedEntry EventBody) → P e → Q e) → Says P i → Says Q i
says-weaker P Q i up h = record {
  entered = All-weaker (λ (p : Past EventBody). P p.entry) (λ (p : Past EventBody). Q p.entry) (λ p x. up p.entry x) i.events.history h.entered;
  durable = λ keeps text at. let t = h.durable keeps text at in record { whole = t.whole; says = All-weaker P Q up (kept_events whatever text) t.says };
}

all-each : {X : Type 0} (P Q : X → Type 0) (xs : List X) → ((x : X) → P x → Q x) → AllByRecursion P xs → AllByRecursion Q xs
all-each P Q [] up all = tt
all-each P Q (x ∷ xs) up all = (up x all.0, all-each P Q xs up all.1)

pub spreads-weaker : (P Q : TimedEntry EventBody → Type 0) (c : Cluster) → ((e : TimedEntry EventBody) → P e → Q e) → Spreads P c → Spreads Q c
spreads-weaker P Q c up h = record {
  agents = all-each (λ (m : IdealNode). Says P m.agent) (λ (m : IdealNode). Says Q m.agent) c.nodes (λ m s. says-weaker P Q m.agent up s) h.agents;
  packets = All-weaker (Carries P) (Carries Q) (λ p s. All-weaker P Q up (events_in_packet p) s) c.sent h.packets;
}

-- ---- a turn

-- an agent acts: P holds of what it fires, and of what it restores from a tail
pub spreads-applied : Below → (P : TimedEntry EventBody → Type 0) (c : Cluster) (b : ℕ) (act : Act) (m : IdealNode) → IsRepresentable m.agent → CanTellAct m.agent.config act (given_by c.sent act) → slice_get c.nodes b ≡ Some m → Spreads P c
    → (let o = apply m c.sent act in All P (fired_by (Of b act) o.done.answer) → (m.agent.config.keep_events ≡ true → All P (tailed_by (Of b act))) → Spreads P (applied c b act o).cluster × AllHave P o.done)
spreads-applied lower P c b act m g told at h fired tailed =
    let o : Applied = apply m c.sent act in
    let says : Says P m.agent = all-at (λ m. Says P m.agent) c.nodes b m h.agents at in
    let has : AllHave P o.done =
    packets-have lower P m (Of b act) (given_by c.sent act) o (effect lower m c.sent b act) g says.entered (λ packet is. given-sent (Carries P) c.sent (Of b act) packet h.packets is) fired in (
      record {
        agents = all-put (λ m. Says P m.agent) c.nodes b (with_handed o.done.handed o.node) h.agents (says-more lower P m c.sent b act g told says has.events tailed);
        packets = All-append (Carries P) c.sent o.done.packets h.packets has.packets;
      },
      has,
    )

-- bytes are injected
pub spreads-injected : (P : TimedEntry EventBody → Type 0) (c : Cluster) (bytes : List ℕ) → Spreads P c → All P (events_in_packet bytes) → Spreads P (injects c bytes).cluster
spreads-injected P c bytes h all = record { agents = h.agents; packets = All-append (Carries P) c.sent (bytes ∷ []) h.packets (All-cons (Carries P) bytes [] all (All-nil (Carries P))) }
