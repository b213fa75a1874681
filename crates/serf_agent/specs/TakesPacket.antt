-- What is left after a packet is received.
use Rattle.std.specs.Prelude.{◌≡◌, ◌≢◌, false, true, IsErrOf, OnErr, Option, Result, Ok, Err}
use Rattle.serf_wire.specs.Message.{QueryResponse}
use Rattle.serf_snapshot.specs.Device.{HasFailed}
use Rattle.serf_agent.specs.declared.outcome.Outcome.{Outcome}
use Rattle.serf_agent.specs.declared.outcome.Outcome.TheVariants.{Ack, Response}
use Rattle.serf_agent.specs.declared.outcome.ReceiveError.{ReceiveError}
use Rattle.serf_agent.specs.declared.outcome.ReceiveError.TheVariants.{OutOfMemory, SinkError}
use Rattle.serf_agent.specs.Answers.{CountsAnswer}
use Rattle.serf_agent.specs.Calls.{Call}
use Rattle.serf_agent.specs.Ideal.{IdealAgent}
use Rattle.serf_agent.specs.Receive.{TakesMemory}
use Rattle.serf_agent.specs.Sound.{IsSound}
use Rattle.serf_agent.specs.Steps.{Steps}
use Rattle.serf_agent.specs.View.{AgentState, view_of}

-- The agent did what the ideal agent does with the packet. Memory is needed only if an event or a query is new, or an
-- ack or a response is counted. An allocation failure changes nothing, and no other error except that of a sink that
-- failed changes anything either. What was counted is exactly the answer that the packet contains.
pub record TakesPacket (call : IdealAgent → Call (Result Outcome ReceiveError)) (answer : Option QueryResponse) (old new : AgentState) (r : Result Outcome ReceiveError) : Type 0 where
  pub step : (i : IdealAgent) → IsSound i → old.concrete ≡ view_of i → r ≢ Err OutOfMemory → Steps i (call i) r old.device new
  pub only_new : (i : IdealAgent) → IsSound i → old.concrete ≡ view_of i → IsErrOf r OutOfMemory → TakesMemory (call i)
  pub memory : IsErrOf r OutOfMemory → new ≡ old
  pub refused : OnErr r (r ≢ Err SinkError → new ≡ old)
  pub cause : IsErrOf r SinkError → HasFailed old.device.failures new.device.failures
  pub ack : r ≡ Ok Ack → CountsAnswer true answer old.concrete.fired_queries new.concrete.fired_queries
  pub response : r ≡ Ok Response → CountsAnswer false answer old.concrete.fired_queries new.concrete.fired_queries
