-- The members of objects, as texts: which agent it is, and the arguments of an action.
use Rattle.std.specs.Prelude.{ℕ, ◌++◌, Bool, List, [], ◌∷◌, codes, decimal, Option, Some, None, map, slice_get}
use Rattle.std.specs.List.{flat_map}
use Rattle.serf_agent.specs.declared.config.Config.{Config}
use Rattle.serf_json.specs.declared.member.Member.{Member}
use Rattle.serf_json.specs.Json.{bytes_member, flag_text, hex_name, hex_string, json_string, name_start}
use Rattle.serf_json.specs.Object.{members_text}
use Rattle.serf_model.specs.declared.action.Act.{Act}
use Rattle.serf_model.specs.declared.action.Act.TheVariants as acts
use Rattle.serf_model.specs.declared.action.Action.{Action}
use Rattle.serf_model.specs.declared.action.Action.TheVariants as actions
use Rattle.serf_model.specs.Cluster.{Cluster, IdealNode}
use Rattle.serf_schedule.specs.ScheduleText.{sink_call_word}
use Rattle.serf_world.specs.View.{WorldState}

-- the texts of two members, and of three
abbrev pub pair_text : Member × Member → List ℕ
pair_text pair = members_text (pair.0 ∷ pair.1 ∷ [])

abbrev pub triple_text : Member × Member × Member → List ℕ
triple_text triple = members_text (triple.0 ∷ triple.1 ∷ triple.2 ∷ [])

-- these texts, one after another
abbrev pub joined : List (List ℕ) → List ℕ
joined texts = flat_map (λ text. text) texts

-- a member whose value is a number, a flag, a text, or bytes in hex; `bytes_member` has both forms of bytes
unfoldable pub number_member : List ℕ → ℕ → List ℕ
number_member name n = name_start name ++ decimal n

unfoldable pub flag_member : List ℕ → Bool → List ℕ
flag_member name flag = name_start name ++ flag_text flag

unfoldable pub text_member : List ℕ → List ℕ → List ℕ
text_member name text = name_start name ++ json_string text

unfoldable pub hex_member : List ℕ → List ℕ → List ℕ
hex_member name bytes = hex_name name ++ hex_string bytes

-- the settings of a cluster's agents, in the order of their numbers
abbrev pub settings_of : WorldState → List Config
settings_of w = map (λ s. s.concrete.config) w.nodes

-- the same of the definition's cluster
abbrev pub settings_in : Cluster → List Config
settings_in c = map (λ (m : IdealNode). m.agent.config) c.nodes

-- which agent it is: its number, and its name if there is an agent with this number
abbrev pub name_text : Option Config → List ℕ
name_text None = []
name_text (Some config) = bytes_member (codes "agent_name") config.name

unfoldable pub agent_text : List Config → ℕ → List ℕ
agent_text settings a = joined (number_member (codes "agent") a ∷ name_text (slice_get settings a) ∷ [])

-- the agent that acts; an injection has none
abbrev pub actor_text : List Config → Option ℕ → List ℕ
actor_text settings None = []
actor_text settings (Some a) = agent_text settings a

-- the arguments of what an agent does
unfoldable pub act_text : Act → List ℕ
act_text (acts.Fire name payload coalesce) =
    joined (bytes_member (codes "name") name ∷ bytes_member (codes "payload") payload ∷ flag_member (codes "coalesce") coalesce ∷ [])
act_text (acts.Deliver packet now) = joined (number_member (codes "packet") packet ∷ number_member (codes "now") now ∷ [])
act_text (acts.Merge packet join) = joined (number_member (codes "packet") packet ∷ flag_member (codes "join") join ∷ [])
act_text (acts.Query q) = joined (bytes_member (codes "name") q.name ∷ bytes_member (codes "payload") q.payload ∷ number_member (codes "now") q.moment ∷ [])
act_text (acts.Respond handed now payload) =
    joined (number_member (codes "handed") handed ∷ number_member (codes "now") now ∷ bytes_member (codes "payload") payload ∷ [])
act_text (acts.Restart tail) = joined (bytes_member (codes "tail") tail ∷ [])
act_text (acts.Break call count) = joined (text_member (codes "disk") (sink_call_word call) ∷ number_member (codes "count") count ∷ [])
act_text (acts.Close now) = joined (number_member (codes "now") now ∷ [])
act_text acts.State = []
act_text acts.Save = []
act_text acts.Compact = []

-- the arguments of an action; an injection has none
abbrev pub arguments_text : Action → List ℕ
arguments_text (actions.Inject bytes) = []
arguments_text (actions.Of agent act) = act_text act
