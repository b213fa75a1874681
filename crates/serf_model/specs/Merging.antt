-- How a merge of a whole state leaves its agent. Proofs of the crates above use this.
use Rattle.std.specs.Prelude.{◌≡◌, ◌<◌, ℕ, Bool, true, false, List, Ok}
use Rattle.std.specs.List.{AllByRecursion}
use Rattle.serf_lamport.specs.Clock.{max_clock}
use Rattle.serf_wire.specs.declared.texts.EventBody.{EventBody}
use Rattle.serf_wire.specs.Decoded.{decoded}
use Rattle.serf_wire.specs.Message.{PushPull, push_pull}
use Rattle.serf_window.specs.Window.{TimedEntry}
use Rattle.serf_agent.specs.declared.outcome.Outcome.{Outcome}
use Rattle.serf_agent.specs.Calls.{planned}
use Rattle.serf_agent.specs.Ideal.{IdealAgent}
use Rattle.serf_agent.specs.KeptTexts.{IsWritable}
use Rattle.serf_agent.specs.States.{events_of, hear, receive_one}
use Rattle.serf_model.specs.Ready.{IsRepresentable}

-- A representable agent stays representable when it merges the clocks of the state that a packet spells, and at each
-- event that it receives. If merging the clocks succeeds, or an event has an outcome, the agent isn't stopped
-- afterwards.
pub record MergesRepresentable : Type 0 where
  pub hears : (i : IdealAgent) (packet : List ℕ) (m : PushPull) (join : Bool) → IsRepresentable i → i.snapshot.stopped ≡ false → decoded packet ≡ Ok (push_pull m) → IsRepresentable (planned i (hear i m join)).agent
  pub hears_on : (i : IdealAgent) (m : PushPull) (join : Bool) (done : Unit {0}) → i.snapshot.stopped ≡ false → (planned i (hear i m join)).answer ≡ Ok done → (planned i (hear i m join)).agent.snapshot.stopped ≡ false
  pub times : (packet : List ℕ) (m : PushPull) → decoded packet ≡ Ok (push_pull m) → AllByRecursion (λ (e : TimedEntry EventBody). e.time < max_clock) (events_of m.slots)
  pub received : (i : IdealAgent) (e : TimedEntry EventBody) → IsRepresentable i → i.snapshot.stopped ≡ false → e.time < max_clock → (i.config.keep_events ≡ true → IsWritable e.key)
      → IsRepresentable (planned i (receive_one i e)).agent
  pub goes_on : (i : IdealAgent) (e : TimedEntry EventBody) (outcome : Outcome) → i.snapshot.stopped ≡ false → (planned i (receive_one i e)).answer ≡ Ok outcome → (planned i (receive_one i e)).agent.snapshot.stopped ≡ false
