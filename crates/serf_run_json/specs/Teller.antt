-- What the teller has written: private to the crate.
use Rattle.std.specs.Prelude.{◌≡◌, ℕ, Bool, List}
use Rattle.serf_agent.specs.declared.config.Config.{Config}
use Rattle.serf_explain.specs.declared.range.Range.{Range}
use Rattle.serf_model.specs.declared.action.Action.{Action}
use Rattle.serf_run_json.specs.declared.teller.RunObjects.{RunObjects}
use Rattle.serf_run_json.specs.Objects.{TellsObjects}

-- the text has the objects of these actions, for the range and with the reasons that the teller has as its options
abbrev pub HasObjects : Range × Bool → RunObjects → List Config → List Action → List ℕ → Type 0
HasObjects options t configs actions text = (t.range ≡ options.0) × (t.explains ≡ options.1) × TellsObjects options.0 options.1 configs actions text
