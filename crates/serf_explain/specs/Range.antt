-- Selects the actions that are explained.
use Rattle.std.specs.Prelude.{ℕ, ◌&&◌, nat_le, Bool, true, Option, Some, None}
use Rattle.serf_explain.specs.declared.range.Range.{Range}
use Rattle.serf_model.specs.Trace.{is_agent}

-- whether the actions of this actor are selected: those of all actors, or of one agent
abbrev pub is_wanted : Option ℕ → Option ℕ → Bool
is_wanted None actor = true
is_wanted (Some agent) actor = is_agent agent actor

-- whether action number `n` is explained and its lines are shown
abbrev pub is_shown : Range → ℕ → Option ℕ → Bool
is_shown range n actor = nat_le range.from n && nat_le n range.to && is_wanted range.agent actor

-- the range of all actions
abbrev pub all_actions : Range
all_actions = record { agent = None; from = 1; to = 18446744073709551615 }
