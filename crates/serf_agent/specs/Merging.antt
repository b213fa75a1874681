-- How the clocks of a push/pull were merged, and how a part of its events was received, whatever follows it. This is
-- private to the crate.
use Rattle.std.specs.Prelude.{◌≡◌, false, List, ◌++◌, Option, Some, Result, Ok, Err}
use Rattle.serf_wire.specs.declared.texts.EventBody.{EventBody}
use Rattle.serf_window.specs.Window.{TimedEntry}
use Rattle.serf_snapshot.specs.Device.{Device}
use Rattle.serf_snapshot.specs.AppendsLine.{Kept}
use Rattle.serf_agent.specs.declared.outcome.EventOut.{EventOut}
use Rattle.serf_agent.specs.declared.outcome.MergeError.{MergeError}
use Rattle.serf_agent.specs.Calls.{Call, MayEnd, ended}
use Rattle.serf_agent.specs.Devices.{device_after}
use Rattle.serf_agent.specs.Ideal.{IdealAgent}
use Rattle.serf_agent.specs.Sound.{IsSound}
use Rattle.serf_agent.specs.States.{EndsHearing, Receives}
use Rattle.serf_agent.specs.View.{AgentState, view_of}

-- a call that merges the clocks of a push/pull is done, and its line is durable, if it has one
pub record HasHeard (i : IdealAgent) (call : Call (Result (Unit {0}) MergeError)) (old : Device) (new : AgentState) : Type 0 where
  pub allowed : MayEnd i call Kept
  pub state : new.concrete ≡ view_of (ended i call Kept).agent
  pub sound : IsSound (ended i call Kept).agent
  pub device : new.device ≡ device_after i call old

abbrev pub Heard : IdealAgent → Call (Result (Unit {0}) MergeError) → Device → AgentState → Result (Unit {0}) MergeError → Type 0
Heard i call old new (Ok done) = HasHeard i call old new
Heard i call old new (Err error) = EndsHearing i call old new error

-- all of these events were received over a device, and the agent continues as this one
pub record GoesOn (i : IdealAgent) (events : List (TimedEntry EventBody)) (old : Device) (deliveries : List EventOut) (new : AgentState) : Type 0 where
  pub agent : IdealAgent
  pub state : new.concrete ≡ view_of agent
  pub sound : IsSound agent
  pub runs : agent.snapshot.stopped ≡ false
  pub follows : (rest : List (TimedEntry EventBody)) (more : List EventOut) (last : AgentState) (error : Option MergeError) → Receives agent rest new.device more last error → Receives i (events ++ rest) old (deliveries ++ more) last error

-- receiving failed at one of these events
abbrev pub GoesWrong : IdealAgent → List (TimedEntry EventBody) → Device → List EventOut → AgentState → MergeError → Type 0
GoesWrong i events old deliveries new error = (rest : List (TimedEntry EventBody)) → Receives i (events ++ rest) old deliveries new (Some error)

abbrev pub Went : IdealAgent → List (TimedEntry EventBody) → Device → List EventOut → AgentState → Result (Unit {0}) MergeError → Type 0
Went i events old deliveries new (Ok done) = GoesOn i events old deliveries new
Went i events old deliveries new (Err error) = GoesWrong i events old deliveries new error

-- these events were received, and what they delivered was appended to what was handed out before
pub record Received (i : IdealAgent) (events : List (TimedEntry EventBody)) (before after : List EventOut) (old : Device) (new : AgentState) (result : Result (Unit {0}) MergeError) : Type 0 where
  pub deliveries : List EventOut
  pub out : after ≡ before ++ deliveries
  pub went : Went i events old deliveries new result

-- a part of a list was received, and this part is left
pub record HasReceived (i : IdealAgent) (all left : List (TimedEntry EventBody)) (before after : List EventOut) (old : Device) (new : AgentState) : Type 0 where
  pub done : List (TimedEntry EventBody)
  pub split : done ++ left ≡ all
  pub deliveries : List EventOut
  pub out : after ≡ before ++ deliveries
  pub goes : GoesOn i done old deliveries new
