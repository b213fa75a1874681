-- What the result of appending a line implies about the sink's choice.
use Rattle.serf_agent.proofs.Names.{Err, List, None, Ok, Option, Result, Some, ap, false, inl, inr, nat_le, refl, subst, sym, true, ℕ, ◌∙◌, ◌≡◌, cases_Bool, true≢false, Device, HasFailed, FailsLine, AppendsTime, Failed, Kept, SnapshotState, SnapshotView, last_line, written, ClockKind, AppendLineError, EndsAppendLine, EndsWrite, FailsAppendLine, HasAppended, HasWritten, WritesLine, MayAppendLine, bytes_with, device_appended, appended_with, AgentState, concrete_with}
use Rattle.serf_snapshot.specs.declared.snapshot.AppendLineError.TheVariants as notes

-- appending a line successfully doesn't stop the snapshot
pub stopped-noted : (kind : ClockKind) (t : ℕ) (line : Option (List ℕ)) (s : SnapshotView) → (appended_with kind t line s Kept).stopped ≡ s.stopped
stopped-noted kind t None s = elim (cases_Bool (nat_le t (last_line kind s))) [ inl low ↦ rw low refl | inr high ↦ rw high refl ]
stopped-noted kind t (Some line) s = refl

-- ---- a line of a snapshot

never-stopped : (s : SnapshotState) → s.snapshot.stopped ≡ true → s.snapshot.stopped ≡ false → ⊥
never-stopped s stopped runs = true≢false (sym stopped ∙ runs)

pub writes-line : (kind : ClockKind) (t : ℕ) (line : Option (List ℕ)) (old new : SnapshotState) (r : Result (Unit {0}) AppendLineError) → old.snapshot.stopped ≡ false → AppendsTime kind t line old new r → WritesLine kind t line old new r
writes-line kind t line old new (Ok done) runs n = record { snapshot = n.ok; allowed = n.ok_allowed; device = n.ok_device; runs = ap (λ (s : SnapshotView). s.stopped) n.ok ∙ stopped-noted kind t line old.snapshot ∙ runs; calm = n.calm }
writes-line kind t line old new (Err notes.Stopped) runs n = never-stopped old (n.stopped.0 refl) runs
writes-line kind t line old new (Err notes.OutOfMemory) runs n = n.memory refl
writes-line kind t line old new (Err notes.SinkError) runs n = record { failed = n.error refl; allowed = n.error_allowed refl; device = n.error_device refl; cause = n.error_cause refl }

-- ---- a line of an agent

-- a line was appended to an agent's snapshot, and the agent's snapshot and device are the new ones
pub notes-agent : (kind : ClockKind) (t : ℕ) (line : Option (List ℕ)) (old new : AgentState) (s z : SnapshotState) → s.snapshot ≡ old.concrete.snapshot → s.device ≡ old.device → new.concrete.snapshot ≡ z.snapshot → new.device ≡ z.device → HasWritten kind t line s z → HasAppended kind t line old new
notes-agent kind t line old new s z kept there snapshot device e = record {
  allowed = subst (λ (x : SnapshotView). MayAppendLine kind t line x Kept) kept e.allowed;
  device = device ∙ e.device ∙ (λ k. device_appended kind t line (kept k) (there k));
  runs = ap (λ (x : SnapshotView). x.stopped) snapshot ∙ e.runs;
  calm = ap (λ (d : Device). d.failures) device ∙ e.calm ∙ ap (λ (d : Device). d.failures) there;
}

-- appending a line failed on an agent that isn't stopped, and nothing else of the agent changed
pub ends-append_line : (kind : ClockKind) (t : ℕ) (line : Option (List ℕ)) (old new : AgentState) (s z : SnapshotState) (error : AppendLineError) → s.snapshot ≡ old.concrete.snapshot → s.device ≡ old.device
    → new ≡ record { concrete = concrete_with z.snapshot old.concrete; device = z.device } → EndsWrite kind t line s z error → EndsAppendLine kind t line old new error
ends-append_line kind t line old new s z notes.Stopped kept there left ends = ends
ends-append_line kind t line old new s z notes.OutOfMemory kept there left same =
    left ∙ (λ k. record { concrete = concrete_with ((ap (λ (x : SnapshotState). x.snapshot) same ∙ kept) k) old.concrete; device = (ap (λ (x : SnapshotState). x.device) same ∙ there) k })
ends-append_line kind t line old new s z notes.SinkError kept there left e =
    subst (λ (x : AgentState). FailsAppendLine kind t line old x) (sym left) (record {
      failed = ap (λ (x : SnapshotView). concrete_with x old.concrete) (e.failed ∙ ap (λ (x : SnapshotView). written kind t x (Failed z.snapshot.durable)) kept);
      allowed = subst (λ (x : SnapshotView). MayAppendLine kind t line x (Failed z.snapshot.durable)) kept e.allowed;
      device = subst (λ (x : SnapshotView). FailsLine old.device z.device (bytes_with kind t line x)) kept (subst (λ (d : Device). FailsLine d z.device (bytes_with kind t line s.snapshot)) there e.device);
      cause = subst (λ (d : Device). HasFailed d.failures z.device.failures) there e.cause;
    })

-- if something holds after an allocation failure, and after a failure of the device at the line, it holds after every
-- error of an append
pub by-error : (kind : ClockKind) (t : ℕ) (line : Option (List ℕ)) (old new : AgentState) (error : AppendLineError) (P : AppendLineError → Type 0) → EndsAppendLine kind t line old new error → (new ≡ old → P notes.OutOfMemory) → (FailsAppendLine kind t line old new → P notes.SinkError) → P error
by-error kind t line old new notes.Stopped P ends same fails = absurd ends
by-error kind t line old new notes.OutOfMemory P ends same fails = same ends
by-error kind t line old new notes.SinkError P ends same fails = fails ends
