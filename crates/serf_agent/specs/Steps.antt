-- The relations between the state before and after a call, which the contracts of calls state.
use Rattle.std.specs.Prelude.{◌≡◌, ℕ, false, List, Option, Result, Ok, Err}
use Rattle.serf_snapshot.specs.declared.kind.ClockKind.{ClockKind}
use Rattle.serf_snapshot.specs.declared.snapshot.AppendLineError.{AppendLineError}
use Rattle.serf_snapshot.specs.declared.snapshot.AppendLineError.TheVariants as notes
use Rattle.serf_snapshot.specs.Device.{Device, HasFailed}
use Rattle.serf_snapshot.specs.AppendsLine.{Failed, Kept, SnapshotState, Writing, written}
use Rattle.serf_agent.specs.Ideal.{IdealAgent}
use Rattle.serf_agent.specs.Calls.{Call, MayEnd, ended}
use Rattle.serf_snapshot.specs.Ends.{FailsLine}
use Rattle.serf_agent.specs.Devices.{LeavesDevice}
use Rattle.serf_agent.specs.Sound.{IsSound}
use Rattle.serf_agent.specs.Written.{MayAppendLine, bytes_with, device_appended, appended_with}
use Rattle.serf_agent.specs.View.{AgentState, concrete_with, view_of}

-- The call did what the ideal agent does, with a choice that its sink may make. It returned the same result, the agent
-- is the view of what the ideal agent becomes, which is sound, and it left of the device what this choice leaves.
pub record Steps {R : Type 0} (i : IdealAgent) (call : Call R) (result : R) (old : Device) (new : AgentState) : Type 0 where
  pub writing : Writing
  pub allowed : MayEnd i call writing
  pub answers : result ≡ (ended i call writing).answer
  pub state : new.concrete ≡ view_of (ended i call writing).agent
  pub sound : IsSound (ended i call writing).agent
  pub device : LeavesDevice i call writing old new.device

-- What is left of a snapshot and its device if the line of a time was appended, with an own line if it has one. These
-- lines are durable, or, without an own line, a time at least as late already was. The device did this and nothing
-- else.
pub record HasWritten (kind : ClockKind) (time : ℕ) (line : Option (List ℕ)) (old new : SnapshotState) : Type 0 where
  pub snapshot : new.snapshot ≡ appended_with kind time line old.snapshot Kept
  pub allowed : MayAppendLine kind time line old.snapshot Kept
  pub device : new.device ≡ device_appended kind time line old.snapshot old.device
  pub runs : new.snapshot.stopped ≡ false
  pub calm : new.device.failures ≡ old.device.failures

-- The device failed at the line and counted the failure: the snapshot is stopped.
pub record FailsWrite (kind : ClockKind) (time : ℕ) (line : Option (List ℕ)) (old new : SnapshotState) : Type 0 where
  pub failed : new.snapshot ≡ written kind time old.snapshot (Failed new.snapshot.durable)
  pub allowed : MayAppendLine kind time line old.snapshot (Failed new.snapshot.durable)
  pub device : FailsLine old.device new.device (bytes_with kind time line old.snapshot)
  pub cause : HasFailed old.device.failures new.device.failures

-- How an append to a snapshot fails: the device failed, or there was no memory and everything is as it was. A snapshot
-- that isn't stopped never returns the error of a stopped one.
abbrev pub EndsWrite : ClockKind → ℕ → Option (List ℕ) → SnapshotState → SnapshotState → AppendLineError → Type 0
EndsWrite kind time line old new notes.SinkError = FailsWrite kind time line old new
EndsWrite kind time line old new notes.OutOfMemory = new ≡ old
EndsWrite kind time line old new notes.Stopped = ⊥

abbrev pub WritesLine : {T : Type 0} → ClockKind → ℕ → Option (List ℕ) → SnapshotState → SnapshotState → Result T AppendLineError → Type 0
WritesLine kind time line old new (Ok done) = HasWritten kind time line old new
WritesLine kind time line old new (Err error) = EndsWrite kind time line old new error

-- What is left of an agent and its device if the line of a time was appended in this way, before anything else is done.
pub record HasAppended (kind : ClockKind) (time : ℕ) (line : Option (List ℕ)) (old new : AgentState) : Type 0 where
  pub allowed : MayAppendLine kind time line old.concrete.snapshot Kept
  pub device : new.device ≡ device_appended kind time line old.concrete.snapshot old.device
  pub runs : new.concrete.snapshot.stopped ≡ false
  pub calm : new.device.failures ≡ old.device.failures

-- The device failed at the line and counted the failure: the agent is stopped, and is otherwise as it was.
pub record FailsAppendLine (kind : ClockKind) (time : ℕ) (line : Option (List ℕ)) (old new : AgentState) : Type 0 where
  pub failed : new.concrete ≡ concrete_with (written kind time old.concrete.snapshot (Failed new.concrete.snapshot.durable)) old.concrete
  pub allowed : MayAppendLine kind time line old.concrete.snapshot (Failed new.concrete.snapshot.durable)
  pub device : FailsLine old.device new.device (bytes_with kind time line old.concrete.snapshot)
  pub cause : HasFailed old.device.failures new.device.failures

-- How an append to an agent fails: the device failed, or there was no memory and everything is as it was. An agent that
-- isn't stopped never returns the error of a stopped one.
abbrev pub EndsAppendLine : ClockKind → ℕ → Option (List ℕ) → AgentState → AgentState → AppendLineError → Type 0
EndsAppendLine kind time line old new notes.SinkError = FailsAppendLine kind time line old new
EndsAppendLine kind time line old new notes.OutOfMemory = new ≡ old
EndsAppendLine kind time line old new notes.Stopped = ⊥

abbrev pub AppendsOwnLine : {T : Type 0} → ClockKind → ℕ → Option (List ℕ) → AgentState → AgentState → Result T AppendLineError → Type 0
AppendsOwnLine kind time line old new (Ok done) = HasAppended kind time line old new
AppendsOwnLine kind time line old new (Err error) = EndsAppendLine kind time line old new error
