-- What the ideal agent does with a packet of any kind.
use Rattle.std.specs.Prelude.{◌≡◌, ◌⊎◌, ℕ, Bool, List, if◌then◌else◌, Result, Ok, Err}
use Rattle.serf_wire.specs.declared.error.WireError.{WireError}
use Rattle.serf_wire.specs.Decoded.{decoded}
use Rattle.serf_wire.specs.Message.{Message, user_event, query, query_response, push_pull, foreign}
use Rattle.serf_window.specs.Texts.{event_of}
use Rattle.serf_agent.specs.declared.outcome.Outcome.{Outcome}
use Rattle.serf_agent.specs.declared.outcome.Outcome.TheVariants as outcomes
use Rattle.serf_agent.specs.declared.outcome.ReceiveError.{ReceiveError}
use Rattle.serf_agent.specs.declared.outcome.ReceiveError.TheVariants.{Stopped, Wire}
use Rattle.serf_agent.specs.Ideal.{IdealAgent}
use Rattle.serf_agent.specs.Calls.{Call, Ends, AppendsLine, Replaces, answers}
use Rattle.serf_agent.specs.Events.{receive_event}
use Rattle.serf_agent.specs.Queries.{receive_query, receive_response}

-- a message that arrives at a moment, with the host's verdict on a query's tag filters
abbrev pub receive_message : Bool → IdealAgent → ℕ → Message → Call (Result Outcome ReceiveError)
receive_message tags i now (user_event e) = receive_event i e.time (event_of e.name e.payload) e.coalesce
receive_message tags i now (query q) = receive_query tags i now q
receive_message tags i now (query_response r) = receive_response i now r
receive_message tags i now (push_pull m) = answers i (Ok outcomes.PushPull)
receive_message tags i now (foreign kind) = answers i (Ok (outcomes.Foreign kind))

abbrev pub receive_read : Bool → IdealAgent → ℕ → Result Message WireError → Call (Result Outcome ReceiveError)
receive_read tags i now (Ok m) = receive_message tags i now m
receive_read tags i now (Err error) = answers i (Err (Wire error))

-- a packet that arrives at a moment, with the host's verdict on tag filters
abbrev pub receive : Bool → IdealAgent → ℕ → List ℕ → Call (Result Outcome ReceiveError)
receive tags i now packet = if i.snapshot.stopped then answers i (Err Stopped) else receive_read tags i now (decoded packet)

-- memory is needed only if an event or a query is new, or an ack or a response is counted
abbrev pub TakesMemory : Call (Result Outcome ReceiveError) → Type 0
TakesMemory (Ends step) = (step.answer ≡ Ok outcomes.Ack) ⊎ (step.answer ≡ Ok outcomes.Response)
TakesMemory (AppendsLine kind t line step error) = Unit {0}
TakesMemory (Replaces lines step error) = Unit {0}
