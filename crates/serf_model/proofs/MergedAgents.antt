-- Each step of a merge leaves its agent representable.
use Rattle.serf_model.proofs.Names.{Bool, List, Ok, ap, false, refl, sym, true, ◌-◌, ◌<◌, ◌^◌, ◌∙◌, ◌≡◌, decoded, PushPull, push_pull, EventBody, TimedEntry, planned, admission, IdealAgent, IsWritable, hear, receive_one, Config, Below, IsRepresentable}
use Rattle.std.specs.Prelude.{ℕ}
use Rattle.serf_model.proofs.CallsKept.{ready-received}
use Rattle.serf_model.proofs.DurableKept.{durable-heard, durable-received}
use Rattle.serf_model.proofs.Effects.{heard-config, received-config}
use Rattle.serf_model.proofs.InvariantKept.{ready-heard}
use Rattle.serf_model.proofs.ReadyLaws.{ready}

pub heard-representable : Below → (i : IdealAgent) (packet : List ℕ) (m : PushPull) (join : Bool) → IsRepresentable i → i.snapshot.stopped ≡ false → decoded packet ≡ Ok (push_pull m) → IsRepresentable (planned i (hear i m join)).agent
heard-representable lower i packet m join g runs is =
    let ranged = lower.in_range packet (push_pull m) is in
    let r = ready-heard lower i m join (ready i g) runs ranged in
    record {
      consistent = r.consistent;
      durable = λ keeps. durable-heard lower i m join (ready i g) (g.durable (sym (ap (λ (c : Config). c.keep_events) (heard-config i m join)) ∙ keeps)) runs ranged;
      events = r.events;
      queries = r.queries;
    }

pub received-representable : Below → (i : IdealAgent) (e : TimedEntry EventBody) → IsRepresentable i → i.snapshot.stopped ≡ false → e.time < 2 ^ 64 - 1 → (i.config.keep_events ≡ true → IsWritable e.key) → IsRepresentable (planned i (receive_one i e)).agent
received-representable lower i e g runs small told =
    let r = ready-received lower i e.time e.key false (admission i e.time e.key) (ready i g) runs small refl in
    let same = ap (λ (c : Config). c.keep_events) (received-config i e) in
    record {
      consistent = r.consistent;
      durable = λ keeps. durable-received lower i e (ready i g) (g.durable (sym same ∙ keeps)) runs small (told (sym same ∙ keeps));
      events = r.events;
      queries = r.queries;
    }
