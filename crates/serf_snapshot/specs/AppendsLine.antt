-- A snapshot as contracts see it, and the rule of its lines, its openings and its compactions (`snapshot.go`). A line
-- is written only if its time is above the last line of its kind. Either the sink keeps it, or the sink fails and the
-- snapshot is stopped.
use Rattle.std.specs.Prelude.{◌≡◌, ◌⊎◌, ℕ, ◌<◌, ◌≤◌, ◌==◌, ◌||◌, nat_le, Bool, true, false, if◌then◌else◌, List, ◌++◌, take, Option, Some, None, IsSome, IfSome, IsSomeAnd}
use Rattle.std.specs.Option.{option_map}
use Rattle.serf_lamport.specs.Clock.{max_clock}
use Rattle.serf_snapshot.specs.declared.kind.ClockKind.{ClockKind}
use Rattle.serf_snapshot.specs.declared.kind.ClockKind.TheVariants.{Member, Event, Query}
use Rattle.serf_snapshot.specs.Clocks.{of_kind, once_set, last_clock, clock_line, sealed, seal_line, is_whole, compacted_text}
use Rattle.serf_snapshot.specs.Device.{Observable, FailurePlan, Calls, Device, append_decremented, flush_decremented, replace_decremented, append_called, flush_called, appended, flushed, with_plan}

-- a snapshot: the last line of each kind (0: none), whether it is stopped, and, if its sink has them, the durable bytes
-- and the plan
pub record SnapshotView : Type 0 where
  pub member_clock : ℕ
  pub event_clock : ℕ
  pub query_clock : ℕ
  pub stopped : Bool
  pub durable : Option (List ℕ)
  pub plan : Option FailurePlan

-- a snapshot together with its whole sink
pub record SnapshotState : Type 0 where
  pub snapshot : SnapshotView
  pub device : Device

-- the last line of a kind
abbrev pub last_line : ClockKind → SnapshotView → ℕ
last_line kind s = of_kind kind s.member_clock s.event_clock s.query_clock

-- the snapshot with another last line of this kind
abbrev pub with_line : ClockKind → ℕ → SnapshotView → SnapshotView
with_line kind t s =
    record {
      member_clock = once_set Member kind t s.member_clock;
      event_clock = once_set Event kind t s.event_clock;
      query_clock = once_set Query kind t s.query_clock;
      stopped = s.stopped;
      durable = s.durable;
      plan = s.plan;
    }

-- the snapshot with other durable bytes and a changed plan
abbrev pub with_sink : Option (List ℕ) → (FailurePlan → FailurePlan) → SnapshotView → SnapshotView
with_sink durable change s = record { member_clock = s.member_clock; event_clock = s.event_clock; query_clock = s.query_clock; stopped = s.stopped; durable = durable; plan = option_map change s.plan }

-- the snapshot after its sink has failed, which stops it
abbrev pub stopped : Option (List ℕ) → (FailurePlan → FailurePlan) → SnapshotView → SnapshotView
stopped durable change s = record { member_clock = s.member_clock; event_clock = s.event_clock; query_clock = s.query_clock; stopped = true; durable = durable; plan = option_map change s.plan }

-- whether a plan fails an append or the flush after it, and what is left of the plan
abbrev pub append_line_fails : FailurePlan → Bool
append_line_fails p = p.appends == 1 || p.flushes == 1

abbrev pub append_line_decremented : FailurePlan → FailurePlan
append_line_decremented p = if p.appends == 1 then append_decremented p else flush_decremented (append_decremented p)

-- what the sink does with a line or a new text: it makes it durable, or it fails and keeps these bytes
pub data Writing : Type 0 where
  Kept : Writing
  Failed : Option (List ℕ) → Writing

-- the snapshot after these bytes were written, which make this time the last line of a kind
abbrev pub bytes_written : ClockKind → ℕ → List ℕ → SnapshotView → Writing → SnapshotView
bytes_written kind t bytes s Kept = with_sink (option_map (λ (k : List ℕ). k ++ bytes) s.durable) append_line_decremented (with_line kind t s)
bytes_written kind t bytes s (Failed durable) = stopped durable append_line_decremented s

-- the snapshot after a line of a kind (`snapshot.go`, `appendLine`, whose error Serf only logs)
abbrev pub written : ClockKind → ℕ → SnapshotView → Writing → SnapshotView
written kind t s w = bytes_written kind t (clock_line kind t) s w

-- the snapshot after `append_line`, which writes a time if it is above the last line of its kind
abbrev pub noted : ClockKind → ℕ → SnapshotView → Writing → SnapshotView
noted kind t s w = if nat_le t (last_line kind s) then s else written kind t s w

-- a part of the line may be durable
abbrev pub KeepsPart : Option (List ℕ) → List ℕ → Option (List ℕ) → Type 0
KeepsPart None line new = new ≡ None
KeepsPart (Some k) line new = IsSomeAnd new (λ (c : List ℕ). (n : ℕ) × (c ≡ k ++ take n line))

-- what a sink may do with a line; a sink with a plan does exactly what the plan says
abbrev pub MayWrite : SnapshotView → List ℕ → Writing → Type 0
MayWrite s line Kept = IfSome s.plan (λ p. append_line_fails p ≡ false)
MayWrite s line (Failed durable) = KeepsPart s.durable line durable × IfSome s.plan (λ p. (append_line_fails p ≡ true) × (durable ≡ s.durable))

-- what a plan does to a line if these bytes are durable
abbrev pub planned_by : FailurePlan → Option (List ℕ) → Writing
planned_by p durable = if append_line_fails p then Failed durable else Kept

-- what a sink that has a plan will do with a line
abbrev pub will_write : SnapshotView → Writing
will_write s = by s.plan
  where
    by : Option FailurePlan → Writing
    by None = Kept
    by (Some p) = planned_by p s.durable

-- the text that a compaction should leave
abbrev pub compaction_of : SnapshotView → List ℕ
compaction_of s = compacted_text s.member_clock s.event_clock s.query_clock

-- the snapshot after its text was replaced with this one, which has the same last lines
abbrev pub text_replaced : List ℕ → SnapshotView → Writing → SnapshotView
text_replaced text s Kept = with_sink (option_map (λ (k : List ℕ). text) s.durable) replace_decremented s
text_replaced text s (Failed durable) = stopped durable replace_decremented s

-- the snapshot after a compaction (`snapshot.go`, `compact`)
abbrev pub compacted : SnapshotView → Writing → SnapshotView
compacted s w = text_replaced (compaction_of s) s w

-- the old text or the new one is durable
abbrev pub KeepsEither : Option (List ℕ) → List ℕ → Option (List ℕ) → Type 0
KeepsEither None text new = new ≡ None
KeepsEither (Some k) text new = (new ≡ Some k) ⊎ (new ≡ Some text)

-- what a replace that fails keeps by its plan
abbrev pub durable_left_by : FailurePlan → List ℕ → Option (List ℕ) → Option (List ℕ)
durable_left_by p text durable = if p.keeps_new then option_map (λ (k : List ℕ). text) durable else durable

-- what a sink may do when its text is replaced; a sink with a plan does exactly what the plan says
abbrev pub MayReplaceBy : List ℕ → SnapshotView → Writing → Type 0
MayReplaceBy text s Kept = IfSome s.plan (λ p. (p.replaces == 1) ≡ false)
MayReplaceBy text s (Failed durable) =
    KeepsEither s.durable text durable
    × IfSome s.plan (λ p. ((p.replaces == 1) ≡ true) × (durable ≡ durable_left_by p text s.durable))

-- what the sink may do in a compaction
abbrev pub MayReplace : SnapshotView → Writing → Type 0
MayReplace s w = MayReplaceBy (compaction_of s) s w

-- what the sink will do by its plan when its text is replaced with this one
abbrev pub will_store : List ℕ → SnapshotView → Option FailurePlan → Writing
will_store text s None = Kept
will_store text s (Some p) = if p.replaces == 1 then Failed (durable_left_by p text s.durable) else Kept

-- what the sink will do in a compaction
abbrev pub will_replace : SnapshotView → Writing
will_replace s = will_store (compaction_of s) s s.plan

-- the numbers of calls after `append_line` has failed: one append, and one flush unless the append failed
abbrev pub HasTriedAppendLine : Calls → Calls → Type 0
HasTriedAppendLine old new = (new ≡ append_called old) ⊎ (new ≡ flush_called (append_called old))

-- the snapshot after it was opened on a text, over a device
abbrev pub opened : List ℕ → Device → SnapshotView
opened text d =
    record {
      member_clock = last_clock Member text;
      event_clock = last_clock Event text;
      query_clock = last_clock Query text;
      stopped = false;
      durable = option_map (λ (t : Observable). sealed text) d.observed_bytes;
      plan = if is_whole text then d.plan else option_map append_line_decremented d.plan;
    }

-- the device after an opening: one append and one flush have ended a torn last line
abbrev pub opened_device : List ℕ → Device → Device
opened_device text d = if is_whole text then d else flushed (appended seal_line d)

-- a change of the plan of a snapshot and of its sink, and of nothing else
abbrev pub with_new_plan : (FailurePlan → FailurePlan) → SnapshotState → SnapshotState
with_new_plan change s = record { snapshot = with_sink s.snapshot.durable change s.snapshot; device = with_plan change s.device }

-- the last lines are times
pub record AreTimes (s : SnapshotView) : Type 0 where
  pub member_clock : s.member_clock < max_clock
  pub event_clock : s.event_clock < max_clock
  pub query_clock : s.query_clock < max_clock

-- for each kind, the durable bytes have the last line or a larger one; while the snapshot isn't stopped, they have none
-- that is larger, and their last line is whole
pub record IsKept (s : SnapshotView) (durable : List ℕ) : Type 0 where
  pub at_least : (kind : ClockKind) → last_line kind s ≤ last_clock kind durable
  pub equal : s.stopped ≡ false → (kind : ClockKind) → last_clock kind durable ≡ last_line kind s
  pub whole : s.stopped ≡ false → is_whole durable ≡ true

-- the last lines of a snapshot agree with what its sink keeps, if the sink exposes it
abbrev pub IsSnapshotSound : SnapshotView → Type 0
IsSnapshotSound s = (durable : List ℕ) → s.durable ≡ Some durable → IsKept s durable

-- the sink exposes what it keeps, and has a plan
pub record IsObservable (s : SnapshotView) : Type 0 where
  pub durable : IsSome s.durable
  pub plan : IsSome s.plan
