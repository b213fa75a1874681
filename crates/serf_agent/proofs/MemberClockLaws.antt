-- Observing a time of the member clock has the effect of merging a push/pull that carries no other clock.
use Rattle.serf_agent.proofs.Names.{arith, false, max, ℕ, ◌+◌, ◌≡◌, IdealAgent, clock_state, with_observed_member, joined, view_of}

max-none : (n : ℕ) → n ≡ max n 0
max-none n = omega arith

pub heard-view : (t : ℕ) (i : IdealAgent) → with_observed_member t (view_of i) ≡ view_of (joined (clock_state (t + 1)) false i)
heard-view t i =
    let event_clock = max-none i.events.clock in
    let event_minimum = max-none i.events.minimum in
    let query_clock = max-none i.queries.clock in
    let query_minimum = max-none i.queries.minimum in
    λ k. record {
      config = i.config;
      member_clock = max i.member_clock (t + 1);
      events = record { clock = event_clock k; minimum = event_minimum k; slots = (view_of i).events.slots };
      queries = record { clock = query_clock k; minimum = query_minimum k; slots = (view_of i).queries.slots };
      snapshot = i.snapshot;
      fired_queries = i.fired_queries;
    }
