-- Observing a time of the member clock.
use Rattle.std.specs.Prelude.{ℕ, []}
use Rattle.serf_lamport.specs.Clock.{observed}
use Rattle.serf_wire.specs.Message.{PushPull}
use Rattle.serf_agent.specs.View.{ConcreteState}

-- a push/pull that carries a member clock, and nothing else
abbrev pub clock_state : ℕ → PushPull
clock_state n = record { member_clock = n; status = []; left = []; event_clock = 0; slots = []; query_clock = 0 }

-- what an agent stores after its member clock has observed a time
abbrev pub with_observed_member : ℕ → ConcreteState → ConcreteState
with_observed_member t a = record { config = a.config; member_clock = observed a.member_clock t; events = a.events; queries = a.queries; snapshot = a.snapshot; fired_queries = a.fired_queries }
