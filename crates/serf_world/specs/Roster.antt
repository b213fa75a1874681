-- The set of the names of a list of agents. It is private to the crate.
use Rattle.std.specs.Prelude.{◌≡◌, ℕ, List}
use Rattle.std.specs.HashSet.{HashSet, contains}
use Rattle.std.specs.declared.vec.Vec.{Vec}
use Rattle.std.specs.Str.{bytes_eq}
use Rattle.serf_agent.specs.declared.config.Config.{Config}
use Rattle.serf_model.specs.Runs.{has_name}

-- the set has exactly the names of these agents
abbrev pub AreNames : {A S : Type 0} → HashSet (Vec ℕ A) S → List Config → Type 0
AreNames {A} set configs = (name : Vec ℕ A) → contains (λ a b. bytes_eq a.items b.items) set name ≡ has_name configs name.items
