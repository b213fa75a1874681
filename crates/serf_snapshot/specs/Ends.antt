-- What holds after a call that writes: it has written, or the sink has failed, or memory ran out, or the snapshot was
-- stopped before. A sink with a plan fails exactly when the plan says so.
use Rattle.std.specs.Prelude.{◌≡◌, ◌↔◌, ◌⊎◌, ℕ, ◌≤◌, false, List, Option, None, Result, Ok, Err, IsErrOf, IsTrue, OnOk}
use Rattle.std.specs.Option.{option_map}
use Rattle.serf_snapshot.specs.declared.kind.ClockKind.{ClockKind}
use Rattle.serf_snapshot.specs.declared.snapshot.AppendLineError.{AppendLineError}
use Rattle.serf_snapshot.specs.declared.snapshot.AppendLineError.TheVariants.{OutOfMemory, SinkError, Stopped}
use Rattle.serf_snapshot.specs.Device.{Device, Fails, FailsReplace, HasFailed, IsClean, appended, flushed, replace_called, replace_decremented, replaced, unreplaced}
use Rattle.serf_snapshot.specs.AppendsLine.{SnapshotState, Kept, Failed, HasTriedAppendLine, MayReplaceBy, MayWrite, bytes_written, last_line, append_line_decremented, text_replaced, written}
use Rattle.serf_snapshot.specs.KeptAppends.{MayAppendLine, bytes_with, device_appended, appended_with}

-- the device failed while bytes were appended and flushed, each at most once
pub record FailsLine (old new : Device) (line : List ℕ) : Type 0 where
  pub fails : Fails old new line
  pub called : HasTriedAppendLine old.calls new.calls
  pub plan : new.plan ≡ option_map append_line_decremented old.plan

-- the device failed when its text was to be replaced with this one
pub record FailsText (old new : Device) (text : List ℕ) : Type 0 where
  pub fails : FailsReplace old new text
  pub called : new.calls ≡ replace_called old.calls
  pub plan : new.plan ≡ option_map replace_decremented old.plan

-- bytes that make this the last line of a kind are written in one append and one flush
pub record WritesBytes (kind : ClockKind) (last : ℕ) (bytes : List ℕ) (old new : SnapshotState) (r : Result (Unit {0}) AppendLineError) : Type 0 where
  pub stopped : (r ≡ Err Stopped) ↔ IsTrue old.snapshot.stopped
  pub ok : OnOk r (new.snapshot ≡ bytes_written kind last bytes old.snapshot Kept)
  pub ok_allowed : OnOk r (MayWrite old.snapshot bytes Kept)
  pub ok_device : OnOk r (new.device ≡ flushed (appended bytes old.device))
  pub error : IsErrOf r SinkError → new.snapshot ≡ bytes_written kind last bytes old.snapshot (Failed new.snapshot.durable)
  pub error_allowed : IsErrOf r SinkError → MayWrite old.snapshot bytes (Failed new.snapshot.durable)
  pub error_device : IsErrOf r SinkError → FailsLine old.device new.device bytes
  pub error_cause : IsErrOf r SinkError → HasFailed old.device.failures new.device.failures
  pub stays : IsErrOf r Stopped → new ≡ old
  pub memory : IsErrOf r OutOfMemory → new ≡ old
  pub clean : OnOk r (IsClean new.device)
  pub calm : OnOk r (new.device.failures ≡ old.device.failures)

-- A time is written, with its own line if it has one: whatever there is to write is written in one append and one
-- flush. Without its own line, nothing happens if the last line of the kind has this time or a later one.
pub record AppendsTime (kind : ClockKind) (time : ℕ) (line : Option (List ℕ)) (old new : SnapshotState) (r : Result (Unit {0}) AppendLineError) : Type 0 where
  pub stopped : (r ≡ Err Stopped) ↔ IsTrue old.snapshot.stopped
  pub none : line ≡ None → old.snapshot.stopped ≡ false → time ≤ last_line kind old.snapshot → (r ≡ Ok tt) × (new ≡ old)
  pub ok : OnOk r (new.snapshot ≡ appended_with kind time line old.snapshot Kept)
  pub ok_allowed : OnOk r (MayAppendLine kind time line old.snapshot Kept)
  pub ok_device : OnOk r (new.device ≡ device_appended kind time line old.snapshot old.device)
  pub error : IsErrOf r SinkError → new.snapshot ≡ written kind time old.snapshot (Failed new.snapshot.durable)
  pub error_allowed : IsErrOf r SinkError → MayAppendLine kind time line old.snapshot (Failed new.snapshot.durable)
  pub error_device : IsErrOf r SinkError → FailsLine old.device new.device (bytes_with kind time line old.snapshot)
  pub error_cause : IsErrOf r SinkError → HasFailed old.device.failures new.device.failures
  pub stays : IsErrOf r Stopped → new ≡ old
  pub memory : IsErrOf r OutOfMemory → new ≡ old
  pub clean : OnOk r (IsClean new.device)
  pub calm : OnOk r (new.device.failures ≡ old.device.failures)

-- the text is replaced with this one, which has the same last lines, in one replace
pub record ReplacesText (text : List ℕ) (old new : SnapshotState) (r : Result (Unit {0}) AppendLineError) : Type 0 where
  pub stopped : (r ≡ Err Stopped) ↔ IsTrue old.snapshot.stopped
  pub ok : OnOk r (new.snapshot ≡ text_replaced text old.snapshot Kept)
  pub ok_allowed : OnOk r (MayReplaceBy text old.snapshot Kept)
  pub ok_device : OnOk r (new.device ≡ replaced text old.device)
  pub error : IsErrOf r SinkError → new.snapshot ≡ text_replaced text old.snapshot (Failed new.snapshot.durable)
  pub error_allowed : IsErrOf r SinkError → MayReplaceBy text old.snapshot (Failed new.snapshot.durable)
  pub error_device : IsErrOf r SinkError → FailsText old.device new.device text
  pub error_cause : IsErrOf r SinkError → HasFailed old.device.failures new.device.failures
  pub stays : IsErrOf r Stopped → new ≡ old
  pub memory : IsErrOf r OutOfMemory → new.snapshot ≡ old.snapshot
  pub memory_device : IsErrOf r OutOfMemory → (new.device ≡ old.device) ⊎ (new.device ≡ unreplaced old.device)
  pub clean : OnOk r (IsClean new.device)
  pub calm : OnOk r (new.device.failures ≡ old.device.failures)
