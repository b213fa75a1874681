-- The time of the query that was fired.
use Rattle.std.specs.Prelude.{ℕ, Option, Some, None, Ok}
use Rattle.serf_agent_c.specs.declared.call_result.CallResult.{CallResult}
use Rattle.serf_agent_c.specs.declared.call_result.CallResult.TheVariants.{QueryFired}

abbrev pub query_time_in : CallResult → Option ℕ
query_time_in (QueryFired (Ok fired)) = Some fired.time
query_time_in _ = None
