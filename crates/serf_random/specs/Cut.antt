-- The actions that are kept, which grow one by one. This is private to the crate.
use Rattle.std.specs.Prelude.{◌≡◌, ℕ, ◌++◌, Bool, true, false, List, [], ◌∷◌, All}
use Rattle.std.specs.List.{flat_map}
use Rattle.serf_agent.specs.declared.config.Config.{Config}
use Rattle.serf_model.specs.declared.action.Action.{Action}
use Rattle.serf_model.specs.Cluster.{run_of}
use Rattle.serf_model.specs.Ready.{AreRepresentable}
use Rattle.serf_world.specs.View.{IsViewed, WorldState}
use Rattle.serf_random.specs.Draft.{IsShort}
use Rattle.serf_schedule.specs.Sayable.{IsSayable}
use Rattle.serf_schedule.specs.ScheduleText.{action_text}
use Rattle.serf_random.specs.Common.{IsCommon}

-- An action and its line were added, or neither was.
pub record AddsLine (action : Action) (old new : List ℕ) (before after : List Action) : Type 0 where
  pub text_is : new ≡ old ++ action_text action
  pub actions_are : after ≡ before ++ action ∷ []
  pub short : IsShort new

pub record AddsNothing (old new : List ℕ) (before after : List Action) : Type 0 where
  pub text_is : new ≡ old
  pub actions_are : after ≡ before

abbrev pub MayAdd : Bool → Action → List ℕ → List ℕ → List Action → List Action → Type 0
MayAdd true action old new before after = AddsLine action old new before after
MayAdd false action old new before after = AddsNothing old new before after

-- Each turn of the run of these actions is common. The text has a first part, and then the lines of the actions, which
-- can express them.
pub record AreKept (configs : List Config) (first text : List ℕ) (actions : List Action) : Type 0 where
  pub common : All (IsCommon configs) (run_of configs actions).turns
  pub sayable : All IsSayable actions
  pub text_is : text ≡ first ++ flat_map action_text actions
  pub short : IsShort first → IsShort text

-- The world also stores the result of their run.
pub record IsAlong (configs : List Config) (first text : List ℕ) (actions : List Action) (w : WorldState) : Type 0 where
  pub kept : AreKept configs first text actions
  pub view : IsViewed (run_of configs actions).cluster w
  pub representable : AreRepresentable (run_of configs actions).cluster

-- If more actions may follow, the world has done the kept actions and no others.
abbrev pub GoesOn : Bool → List Config → List ℕ → List ℕ → List Action → WorldState → Type 0
GoesOn true configs first text actions w = IsAlong configs first text actions w
GoesOn false configs first text actions w = AreKept configs first text actions
