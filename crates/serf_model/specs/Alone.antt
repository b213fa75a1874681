-- What one agent does by itself: its calls, with the bytes of their packets, and nothing of the other agents.
use Rattle.std.specs.Prelude.{◌≡◌, ℕ, List, [], ◌∷◌, ◌++◌, length, map, Option}
use Rattle.std.specs.List.{AllZip, flat_map, fold}
use Rattle.std.specs.Option.{option_map, option_to_list}
use Rattle.serf_agent.specs.declared.config.Config.{Config}
use Rattle.serf_model.specs.declared.action.Act.{Act}
use Rattle.serf_model.specs.declared.action.Act.TheVariants as acts
use Rattle.serf_model.specs.declared.action.Action.{Action}
use Rattle.serf_model.specs.declared.action.Action.TheVariants as actions
use Rattle.serf_model.specs.Cluster.{Applied, IdealNode, apply, event_line, first_node, handed_line, with_handed}
use Rattle.serf_model.specs.Trace.{Turn}

-- a call of an agent: its act, and the bytes of the packet that it is given
pub record AgentCall : Type 0 where
  pub act : Act
  pub given : Option (List ℕ)

abbrev pub call_by : Action → Option (List ℕ) → List AgentCall
call_by (actions.Inject bytes) given = []
call_by (actions.Of agent act) given = record { act = act; given = given } ∷ []

abbrev pub calls_in : List Turn → List AgentCall
calls_in turns = flat_map (λ t. call_by t.action t.given) turns

-- the act, if the packet that is given is the only one that was sent
abbrev pub of_one_packet : Act → Act
of_one_packet (acts.Deliver packet now) = acts.Deliver 0 now
of_one_packet (acts.Merge packet join) = acts.Merge 0 join
of_one_packet act = act

-- an agent, and the result of each call that was made on it
pub record Alone : Type 0 where
  pub node : IdealNode
  pub came : List Applied

abbrev pub calls_on : Alone → AgentCall → Alone
calls_on s call =
    let o = apply s.node (option_to_list call.given) (of_one_packet call.act) in
    record { node = with_handed o.done.handed o.node; came = s.came ++ o ∷ [] }

-- an agent with these settings after these calls
abbrev pub alone : Config → List AgentCall → Alone
alone config calls = fold calls_on (record { node = first_node config; came = [] }) calls

-- a turn shows the result of an agent's call
pub record Shows (a : ℕ) (turn : Turn) (o : Applied) : Type 0 where
  pub answer : turn.line.answer ≡ o.done.answer
  pub packets : turn.packets ≡ o.done.packets
  pub events : turn.line.events ≡ map (event_line a) o.done.events
  pub handed : turn.line.handed ≡ option_map (handed_line a (length o.node.handed)) o.done.handed

-- The turns of an agent in a cluster show the same results as its calls when it is alone, and both leave it in the same
-- state.
pub record IsAlone (config : Config) (a : ℕ) (turns : List Turn) (m : IdealNode) : Type 0 where
  pub node : m ≡ (alone config (calls_in turns)).node
  pub shown : AllZip (Shows a) turns (alone config (calls_in turns)).came
