-- A sink as contracts see it: the bytes that it exposes, its plan of failures, how often it has failed, and how often
-- it was called. Serf's counterpart is the file that `snapshot.go` writes (`appendLine` to a buffered writer, then
-- `Flush` and `Sync`). Serf specifies nothing about it.
use Rattle.std.specs.Prelude.{◌≡◌, ◌⊎◌, ℕ, ◌+◌, ◌-◌, ◌^◌, ◌<◌, min, Bool, false, List, [], ◌++◌, take, drop, Option, Some, None, IsSome, IfSome, IsSomeAnd, if◌then◌else◌}
use Rattle.std.specs.Option.{option_map}

-- the bytes that a sink exposes: those that were appended since the last flush, and those that it keeps
pub record Observable : Type 0 where
  pub buffered : List ℕ
  pub durable : List ℕ

-- which append, which flush and which replace from now on fails, 0 if none does; and what a replace that fails keeps:
-- the new text or the old one
pub record FailurePlan : Type 0 where
  pub appends : ℕ
  pub flushes : ℕ
  pub replaces : ℕ
  pub keeps_new : Bool

-- how often each call was made; a sink that can't replace is never called to replace
pub record Calls : Type 0 where
  pub appends : ℕ
  pub flushes : ℕ
  pub replaces : ℕ

-- a sink: its bytes and its plan, if it has them, how often it has failed, and how often it was called
pub record Device : Type 0 where
  pub observed_bytes : Option Observable
  pub plan : Option FailurePlan
  pub failures : ℕ
  pub calls : Calls

-- a count with one added, which stays at 2^64 - 1
abbrev pub counted : ℕ → ℕ
counted n = min (n + 1) (2 ^ 64 - 1)

-- the numbers of calls after one more append, flush or replace
abbrev pub append_called : Calls → Calls
append_called c = record { appends = counted c.appends; flushes = c.flushes; replaces = c.replaces }

abbrev pub flush_called : Calls → Calls
flush_called c = record { appends = c.appends; flushes = counted c.flushes; replaces = c.replaces }

abbrev pub replace_called : Calls → Calls
replace_called c = record { appends = c.appends; flushes = c.flushes; replaces = counted c.replaces }

-- a plan after one more append, flush or replace
abbrev pub append_decremented : FailurePlan → FailurePlan
append_decremented p = record { appends = p.appends - 1; flushes = p.flushes; replaces = p.replaces; keeps_new = p.keeps_new }

abbrev pub flush_decremented : FailurePlan → FailurePlan
flush_decremented p = record { appends = p.appends; flushes = p.flushes - 1; replaces = p.replaces; keeps_new = p.keeps_new }

abbrev pub replace_decremented : FailurePlan → FailurePlan
replace_decremented p = record { appends = p.appends; flushes = p.flushes; replaces = p.replaces - 1; keeps_new = p.keeps_new }

-- a plan in which another append, flush or replace fails, counted from now on
abbrev pub append_failing : ℕ → FailurePlan → FailurePlan
append_failing n p = record { appends = n; flushes = p.flushes; replaces = p.replaces; keeps_new = p.keeps_new }

abbrev pub flush_failing : ℕ → FailurePlan → FailurePlan
flush_failing n p = record { appends = p.appends; flushes = n; replaces = p.replaces; keeps_new = p.keeps_new }

abbrev pub replace_failing : ℕ → Bool → FailurePlan → FailurePlan
replace_failing n keeps_new p = record { appends = p.appends; flushes = p.flushes; replaces = n; keeps_new = keeps_new }

-- a device with this change of its plan
abbrev pub with_plan : (FailurePlan → FailurePlan) → Device → Device
with_plan change d = record { observed_bytes = d.observed_bytes; plan = option_map change d.plan; failures = d.failures; calls = d.calls }

-- the device after an append that succeeds: the bytes are buffered
abbrev pub appended : List ℕ → Device → Device
appended bytes d =
    record {
      observed_bytes = option_map (λ (t : Observable). record { buffered = t.buffered ++ bytes; durable = t.durable }) d.observed_bytes;
      plan = option_map append_decremented d.plan;
      failures = d.failures;
      calls = append_called d.calls;
    }

-- the device after a flush that succeeds: what was buffered is durable
abbrev pub flushed : Device → Device
flushed d =
    record {
      observed_bytes = option_map (λ (t : Observable). record { buffered = []; durable = t.durable ++ t.buffered }) d.observed_bytes;
      plan = option_map flush_decremented d.plan;
      failures = d.failures;
      calls = flush_called d.calls;
    }

-- the device after a replace that succeeds: exactly this text is durable
abbrev pub replaced : List ℕ → Device → Device
replaced text d =
    record {
      observed_bytes = option_map (λ (t : Observable). record { buffered = []; durable = text }) d.observed_bytes;
      plan = option_map replace_decremented d.plan;
      failures = d.failures;
      calls = replace_called d.calls;
    }

-- the device after a replace for which memory ran out: the call was counted, and nothing else has changed
abbrev pub unreplaced : Device → Device
unreplaced d = record { observed_bytes = d.observed_bytes; plan = d.plan; failures = d.failures; calls = replace_called d.calls }

-- nothing is buffered
abbrev pub IsClean : Device → Type 0
IsClean d = IfSome d.observed_bytes (λ (t : Observable). t.buffered ≡ [])

-- the device keeps this text, and nothing is buffered
abbrev pub HasText : List ℕ → Device → Type 0
HasText text d = IfSome d.observed_bytes (λ (t : Observable). (t.durable ≡ text) × (t.buffered ≡ []))

-- the durable bytes of a device, if it exposes its bytes
abbrev pub durable_of : Device → Option (List ℕ)
durable_of d = option_map (λ (t : Observable). t.durable) d.observed_bytes

-- the sink has failed between these two counts, or the count can't rise any more
abbrev pub HasFailed : ℕ → ℕ → Type 0
HasFailed old new = (old < new) ⊎ (old ≡ 2 ^ 64 - 1)

-- the old durable bytes are still there, followed by a part of what was buffered and of these bytes
abbrev pub TellsPart : Option Observable → List ℕ → Option Observable → Type 0
TellsPart None more new = new ≡ None
TellsPart (Some t) more new = IsSomeAnd new (λ (u : Observable). (k : ℕ) × (u.durable ≡ t.durable ++ take k (t.buffered ++ more)))

-- what was buffered is lost
abbrev pub dropped : Observable → Observable
dropped t = record { buffered = []; durable = t.durable }

-- the device failed in an append of these bytes, or in a flush (no bytes): it keeps what it kept and perhaps a part of
-- what was to be written; if it fails by plan, it keeps exactly what it kept
pub record Fails (old new : Device) (more : List ℕ) : Type 0 where
  pub cause : HasFailed old.failures new.failures
  pub part : TellsPart old.observed_bytes more new.observed_bytes
  pub planned : IsSome old.plan → new.observed_bytes ≡ option_map dropped old.observed_bytes

-- the old text or the new one is durable, and nothing is buffered
abbrev pub TellsEither : Option Observable → List ℕ → Option Observable → Type 0
TellsEither None text new = new ≡ None
TellsEither (Some t) text new = (new ≡ Some record { buffered = []; durable = t.durable }) ⊎ (new ≡ Some record { buffered = []; durable = text })

-- the text that a replace which fails by plan keeps
abbrev pub left_by : FailurePlan → List ℕ → Observable → Observable
left_by p text t = record { buffered = []; durable = if p.keeps_new then text else t.durable }

-- the device failed when its text was to be replaced with this one; if it fails by plan, the plan says which text it
-- keeps
pub record FailsReplace (old new : Device) (text : List ℕ) : Type 0 where
  pub cause : HasFailed old.failures new.failures
  pub either : TellsEither old.observed_bytes text new.observed_bytes
  pub planned : IfSome old.plan (λ (p : FailurePlan). new.observed_bytes ≡ option_map (left_by p text) old.observed_bytes)

-- a sink, and how many bytes it accepts without allocating memory
pub record SinkState : Type 0 where
  pub device : Device
  pub room : ℕ

-- a device in memory, made from all its bytes and the number of durable ones
abbrev pub memory_device : List ℕ → ℕ → FailurePlan → ℕ → Calls → Device
memory_device bytes durable plan failures calls =
    record {
      observed_bytes = Some record { buffered = drop durable bytes; durable = take durable bytes };
      plan = Some plan;
      failures = failures;
      calls = calls;
    }

-- a device in memory that keeps a text, has no planned failure, and was never called
abbrev pub fresh_device : List ℕ → Device
fresh_device text =
    record {
      observed_bytes = Some record { buffered = []; durable = text };
      plan = Some record { appends = 0; flushes = 0; replaces = 0; keeps_new = false };
      failures = 0;
      calls = record { appends = 0; flushes = 0; replaces = 0 };
    }
