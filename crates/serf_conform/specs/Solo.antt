-- A world with a single agent, and why it can't be made. The world is private to the crate.
use Rattle.std.specs.Prelude.{◌≡◌, ℕ, List, [], ◌∷◌, true, false}
use Rattle.std.specs.Option.{option_to_list}
use Rattle.serf_agent.specs.declared.config.Config.{Config}
use Rattle.serf_agent.specs.Config.{is_sound}
use Rattle.serf_model.specs.declared.action.Act.{Act}
use Rattle.serf_model.specs.Alone.{AgentCall, alone, of_one_packet}
use Rattle.serf_model.specs.Cluster.{Cluster, IdealNode, apply}
use Rattle.serf_model.specs.Ready.{AreRepresentable}
use Rattle.serf_world.specs.View.{IsViewed, WorldState}
use Rattle.serf_conform.specs.declared.verdict.ConformError.{ConformError}
use Rattle.serf_conform.specs.declared.verdict.ConformError.TheVariants as errors

-- Why a roster with only these settings can't be made: they are out of bounds, or else memory ran out.
abbrev pub IsSoloError : Config → ConformError → Type 0
IsSoloError config errors.NoAgent = is_sound config ≡ false
IsSoloError config errors.OutOfMemory = is_sound config ≡ true
IsSoloError config _ = ⊥

-- the agent with these settings after these calls, in a cluster in which these packets were sent
abbrev pub solo_cluster : Config → List AgentCall → WorldState → Cluster
solo_cluster config made w = record { nodes = (alone config made).node ∷ []; sent = w.sent }

-- The world stores this cluster.
pub record IsSolo (config : Config) (made : List AgentCall) (w : WorldState) : Type 0 where
  pub view : IsViewed (solo_cluster config made w) w
  pub representable : AreRepresentable (solo_cluster config made w)

-- After these packets were sent, an act has the same effect as a call.
abbrev pub DoesAs : List (List ℕ) → Act → AgentCall → Type 0
DoesAs sent act call = (m : IdealNode) → apply m sent act ≡ apply m (option_to_list call.given) (of_one_packet call.act)
