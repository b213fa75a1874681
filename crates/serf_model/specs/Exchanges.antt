-- How an event spreads if agents exchange their states. An exchange is two turns of a run. Nothing here says that an
-- exchange happens: it is the schedule that has its turns, and a real network promises none.
use Rattle.std.specs.Prelude.{◌≡◌, ◌⊎◌, ◌+◌, ◌≤◌, ◌++◌, ◌∷◌, ℕ, Bool, false, List, [], Some, All, Contains, slice_get}
use Rattle.serf_wire.specs.declared.texts.EventBody.{EventBody}
use Rattle.serf_window.specs.Window.{TimedEntry}
use Rattle.serf_agent.specs.declared.config.Config.{Config}
use Rattle.serf_model.specs.declared.action.Act.TheVariants as acts
use Rattle.serf_model.specs.declared.action.Action.TheVariants as actions
use Rattle.serf_model.specs.declared.line.Answer.TheVariants as answers
use Rattle.serf_model.specs.Bounds.{events_of_life, is_restarted}
use Rattle.serf_model.specs.NotMissed.{event_clock_of}
use Rattle.serf_model.specs.Taken.{WhyNot}
use Rattle.serf_model.specs.Trace.{Turn, events_to}

-- One exchange

-- At one turn, agent a sends its state. At another turn, agent b merges this very packet, or tries to.
pub record IsExchange (a b : ℕ) (sending merging : Turn) : Type 0 where
  pub sends : sending.action ≡ actions.Of a acts.State
  pub sent : sending.line.answer ≡ answers.State
  pub packet : List ℕ
  pub packets : sending.packets ≡ packet ∷ []
  pub number : ℕ
  pub join : Bool
  pub merges : merging.action ≡ actions.Of b (acts.Merge number join)
  pub given : merging.given ≡ Some packet

-- The sender was handed an event in its present life, and the event was within its window when it sent its state. Then,
-- after the merge, the receiver was handed it in its present life, or there is one of the reasons.
abbrev pub ExchangeHands : List Config → List Turn → Type 0
ExchangeHands configs turns =
    (a b : ℕ) (c d : Config) (early between rest : List Turn) (sending merging : Turn) (e : TimedEntry EventBody) → slice_get configs a ≡ Some c → slice_get configs b ≡ Some d → turns ≡ (early ++ sending ∷ between) ++ merging ∷ rest
    → IsExchange a b sending merging → Contains (events_of_life a early) e → event_clock_of a early ≤ e.time + c.event_buffer
    → Contains (events_of_life b ((early ++ sending ∷ between) ++ merging ∷ [])) e ⊎ WhyNot b d (early ++ sending ∷ between) merging e

-- Many exchanges

-- There is a way of exchanges from agent a after the first turns to agent b after the second: a to some agent, later
-- from this one to the next, and so on.
pub data HasWay (configs : List Config) (a : ℕ) (begun : List Turn) : ℕ → List Turn → Type 0 where
  starts : {b : ℕ} {now : List Turn} → b ≡ a → now ≡ begun → HasWay configs a begun b now
  passes : {b : ℕ} {now : List Turn} (via : ℕ) (earlier more between : List Turn) (sending merging : Turn) (c d : Config) → HasWay configs a begun via earlier → slice_get configs via ≡ Some c → slice_get configs b ≡ Some d → IsExchange via b sending merging
      → now ≡ ((earlier ++ more) ++ sending ∷ between) ++ merging ∷ [] → HasWay configs a begun b now

-- During these turns, no agent is opened again, the event stays within the window of each agent, and no merge has a
-- reason against it: none is refused, and the event isn't too long, below a minimum or of a full time.
pub record StaysNear (configs : List Config) (turns : List Turn) (e : TimedEntry EventBody) : Type 0 where
  pub lives : All (λ t. is_restarted t.line.answer ≡ false) turns
  pub young : (a : ℕ) (c : Config) (before rest : List Turn) → turns ≡ before ++ rest → slice_get configs a ≡ Some c → event_clock_of a before ≤ e.time + c.event_buffer
  pub welcome : (b number : ℕ) (join : Bool) (d : Config) (before rest : List Turn) (turn : Turn) → turns ≡ before ++ turn ∷ rest → slice_get configs b ≡ Some d → turn.action ≡ actions.Of b (acts.Merge number join) → WhyNot b d before turn e → ⊥

-- If an event stays near, it is handed to each agent to which there is a way of exchanges from an agent that was handed
-- it. So if there is a way from each agent to each other one, all of them are handed the same events.
abbrev pub SpreadsOnWays : List Config → List Turn → Type 0
SpreadsOnWays configs turns =
    (a : ℕ) (begun : List Turn) (b : ℕ) (now rest : List Turn) (e : TimedEntry EventBody) → turns ≡ now ++ rest → HasWay configs a begun b now → StaysNear configs turns e → Contains (events_to a begun) e → Contains (events_to b now) e
