-- What a call does to the device that keeps the agent's clock lines, whatever the device exposes of its bytes
-- (`snapshot.go`, `appendLine`; Serf flushes at intervals, but here each line is flushed by itself).
use Rattle.std.specs.Prelude.{◌≡◌}
use Rattle.serf_snapshot.specs.Device.{Device, replaced}
use Rattle.serf_snapshot.specs.Ends.{FailsLine, FailsText}
use Rattle.serf_snapshot.specs.AppendsLine.{Writing, Kept, Failed}
use Rattle.serf_agent.specs.Calls.{Call, Ends, AppendsLine, Replaces}
use Rattle.serf_agent.specs.Ideal.{IdealAgent}
use Rattle.serf_agent.specs.Written.{bytes_with, device_appended, text_with}

-- the device after a call in which it didn't fail; a call that ends at once leaves it as it was
abbrev pub device_after : {R : Type 0} → IdealAgent → Call R → Device → Device
device_after i (Ends step) d = d
device_after i (AppendsLine kind t line step error) d = device_appended kind t line i.snapshot d
device_after i (Replaces lines step error) d = replaced (text_with lines i.snapshot) d

-- the device failed in a call
abbrev pub FailsIn : {R : Type 0} → IdealAgent → Call R → Device → Device → Type 0
FailsIn i (Ends step) old new = ⊥
FailsIn i (AppendsLine kind t line step error) old new = FailsLine old new (bytes_with kind t line i.snapshot)
FailsIn i (Replaces lines step error) old new = FailsText old new (text_with lines i.snapshot)

-- what a call leaves of the device, if the sink does this with the line or the new text
abbrev pub LeavesDevice : {R : Type 0} → IdealAgent → Call R → Writing → Device → Device → Type 0
LeavesDevice i call Kept old new = new ≡ device_after i call old
LeavesDevice i call (Failed durable) old new = FailsIn i call old new
