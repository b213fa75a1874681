-- The calls of one agent, each with the bytes of its packet, and a schedule that has only these calls.
use Rattle.std.specs.Prelude.{ℕ, ◌+◌, ◌++◌, List, [], ◌∷◌, length, map, Option, Some, None}
use Rattle.std.specs.List.{flat_map}
use Rattle.serf_agent.specs.declared.config.Config.{Config}
use Rattle.serf_model.specs.declared.action.Act.{Act}
use Rattle.serf_model.specs.declared.action.Act.TheVariants as acts
use Rattle.serf_model.specs.declared.action.Action.{Action}
use Rattle.serf_model.specs.declared.action.Action.TheVariants as actions
use Rattle.serf_model.specs.Trace.{Turn}
use Rattle.serf_schedule.specs.Line.{Parsed}
use Rattle.serf_conform.specs.Session.{given_for}
use Rattle.serf_conform.specs.declared.agent_calls.Call.{Call}

-- The calls of an agent are those of its turns for which `conform` makes calls.

abbrev pub call_by : Action → List ℕ → List Call
call_by (actions.Inject bytes) given = []
call_by (actions.Of agent act) given = record { act = act; given = given } ∷ []

abbrev pub call_in : Action → Option (List ℕ) → List Call
call_in action None = []
call_in action (Some given) = call_by action given

abbrev pub calls_by : ℕ → List Turn → List Call
calls_by a turns = flat_map (λ t. call_in t.action (given_for a t)) turns

-- Their schedule injects the packets of the calls first, and then each delivery or merge names its own packet. It has
-- no other agent. A response is copied unchanged: it names a query by its number among those that this schedule hands
-- out.

-- an act, if the packet that it carries has number n
abbrev pub placed : ℕ → Act → Act
placed n (acts.Deliver packet now) = acts.Deliver n now
placed n (acts.Merge packet join) = acts.Merge n join
placed n act = act

-- the packet that a call carries, if it carries one
abbrev pub packets_in : Act → List ℕ → List (List ℕ)
packets_in (acts.Deliver packet now) given = given ∷ []
packets_in (acts.Merge packet join) given = given ∷ []
packets_in _ given = []

abbrev pub injections_of : Call → List Action
injections_of c = map (λ p. actions.Inject p) (packets_in c.act c.given)

-- the calls, if their packets are numbered from n on
abbrev pub placed_from : ℕ → List Call → List Action
placed_from n [] = []
placed_from n (c ∷ cs) = actions.Of 0 (placed n c.act) ∷ placed_from (n + length (packets_in c.act c.given)) cs

abbrev pub alone : Config → List Call → Parsed
alone config calls = record { configs = config ∷ []; actions = flat_map injections_of calls ++ placed_from 0 calls }
