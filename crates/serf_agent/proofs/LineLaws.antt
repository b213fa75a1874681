-- How the calls end that only append a line or replace the text.
use Rattle.serf_agent.proofs.Names.{Bool, Err, IsTrue, List, None, Ok, OnOk, Result, ap, arith, cond, false, refl, subst, sym, true, ℕ, ◌-◌, ◌<◌, ◌^◌, ◌↔◌, ◌∙◌, ◌≡◌, ◌≢◌, clock_line, Device, replace_called, replaced, FailsLine, AppendsTime, ReplacesText, Failed, Kept, SnapshotState, SnapshotView, noted, written, AppendLineError, Call, AppendsLine, Replaces, answers, IdealAgent, SnapshotLaws, IsSound, compact, save, written_lines, Steps, MayAppendLine, device_appended, text_with, AgentState, ConcreteState, concrete_with, view_of}
use Rattle.serf_snapshot.specs.declared.kind.ClockKind.TheVariants as kinds
use Rattle.serf_snapshot.specs.declared.snapshot.AppendLineError.TheVariants as notes
use Rattle.serf_agent.proofs.SoundLaws.{sound-compact, sound-saved}
use Rattle.serf_agent.proofs.StepLaws.{steps-answers, steps-failed, steps-kept}

-- an agent that didn't return the error of a stopped one runs
runs-by : (stopped : Bool) (r : Result (Unit {0}) AppendLineError) → ((r ≡ Err notes.Stopped) ↔ IsTrue stopped) → r ≢ Err notes.Stopped → stopped ≡ false
runs-by true r when other = absurd (other (when.1 refl))
runs-by false r when other = refl

-- what an agent stores, and its device, with another snapshot
abbrev pub agent_with : SnapshotState → ConcreteState → AgentState
agent_with s concrete = record { concrete = concrete_with s.snapshot concrete; device = s.device }

-- the line of the member clock, and a compaction, depending on whether the agent is stopped
abbrev pub saves_so : IdealAgent → Bool → Call (Result (Unit {0}) AppendLineError)
saves_so i b = cond b (answers i (Err notes.Stopped)) (AppendsLine kinds.Member (i.member_clock - 1) None (record { agent = i; answer = Ok tt }) (Err notes.SinkError))

pub steps-save : SnapshotLaws → (i : IdealAgent) (t : ℕ) (old : Device) (new : SnapshotState) (r : Result (Unit {0}) AppendLineError) → IsSound i → t ≡ i.member_clock - 1 → AppendsTime kinds.Member t None (record { snapshot = i.snapshot; device = old }) new r → r ≢ Err notes.OutOfMemory → Steps i (save i) r old (agent_with new (view_of i))
steps-save snapshots i t old new (Ok done) sound is n other =
    let runs = runs-by i.snapshot.stopped (Ok done) n.stopped (λ q. cc) in
    let small : i.member_clock - 1 < 2 ^ 64 - 1 = omega (arith, sound.member_clock) in
    let may = subst (λ (u : ℕ). MayAppendLine kinds.Member u None i.snapshot Kept) is n.ok_allowed in
    let same = n.ok ∙ ap (λ (u : ℕ). noted kinds.Member u i.snapshot Kept) is in
    let device : new.device ≡ device_appended kinds.Member (i.member_clock - 1) None i.snapshot old = n.ok_device ∙ ap (λ (u : ℕ). device_appended kinds.Member u None i.snapshot old) is in
    let kept : Steps i (saves_so i false) (Ok done) old (agent_with new (view_of i)) =
    steps-kept i kinds.Member (i.member_clock - 1) None _ _ (Ok done) old _ may refl (ap (λ (s : SnapshotView). concrete_with s (view_of i)) same) (sound-saved snapshots (i.member_clock - 1) i sound runs small) device in
    subst (λ (b : Bool). Steps i (saves_so i b) (Ok done) old (agent_with new (view_of i))) (sym runs) kept
steps-save snapshots i t old new (Err notes.Stopped) sound is n other =
    let stopped : i.snapshot.stopped ≡ true = n.stopped.0 refl in
    subst (λ (b : Bool). Steps i (saves_so i b) (Err notes.Stopped) old (agent_with new (view_of i))) (sym stopped)
    (steps-answers i (Err notes.Stopped) (Err notes.Stopped) old _ sound refl (ap (λ (s : SnapshotState). concrete_with s.snapshot (view_of i)) (n.stays refl)) (ap (λ (s : SnapshotState). s.device) (n.stays refl)))
steps-save snapshots i t old new (Err notes.OutOfMemory) sound is n other = absurd (other refl)
steps-save snapshots i t old new (Err notes.SinkError) sound is n other =
    let runs = runs-by i.snapshot.stopped (Err notes.SinkError) n.stopped (λ q. cc) in
    let may = subst (λ (u : ℕ). MayAppendLine kinds.Member u None i.snapshot (Failed new.snapshot.durable)) is (n.error_allowed refl) in
    let same = n.error refl ∙ ap (λ (u : ℕ). written kinds.Member u i.snapshot (Failed new.snapshot.durable)) is in
    let device = subst (λ (u : ℕ). FailsLine old new.device (clock_line kinds.Member u)) is (n.error_device refl) in
    let failed : Steps i (saves_so i false) (Err notes.SinkError) old (agent_with new (view_of i)) =
    steps-failed snapshots i kinds.Member (i.member_clock - 1) None _ _ (Err notes.SinkError) old _ new.snapshot.durable sound may refl (ap (λ (s : SnapshotView). concrete_with s (view_of i)) same) device in
    subst (λ (b : Bool). Steps i (saves_so i b) (Err notes.SinkError) old (agent_with new (view_of i))) (sym runs) failed

-- the text of an agent's compaction
abbrev pub text_of : IdealAgent → List ℕ
text_of i = text_with (written_lines (view_of i)) i.snapshot

abbrev pub compacts_so : IdealAgent → Bool → Call (Result (Unit {0}) AppendLineError)
compacts_so i b = cond b (answers i (Err notes.Stopped)) (Replaces (written_lines (view_of i)) (record { agent = i; answer = Ok tt }) (Err notes.SinkError))

pub steps-compact : SnapshotLaws → (i : IdealAgent) (old : Device) (new : SnapshotState) (r : Result (Unit {0}) AppendLineError) → IsSound i → ReplacesText (text_of i) (record { snapshot = i.snapshot; device = old }) new r → r ≢ Err notes.OutOfMemory → Steps i (compact i) r old (agent_with new (view_of i))
steps-compact snapshots i old new (Ok done) sound n other =
    let runs = runs-by i.snapshot.stopped (Ok done) n.stopped (λ q. cc) in
    let kept : Steps i (compacts_so i false) (Ok done) old (agent_with new (view_of i)) =
    record { writing = Kept; allowed = n.ok_allowed; answers = refl; state = ap (λ (s : SnapshotView). concrete_with s (view_of i)) n.ok; sound = sound-compact snapshots Kept i sound n.ok_allowed; device = n.ok_device } in
    subst (λ (b : Bool). Steps i (compacts_so i b) (Ok done) old (agent_with new (view_of i))) (sym runs) kept
steps-compact snapshots i old new (Err notes.Stopped) sound n other =
    let stopped : i.snapshot.stopped ≡ true = n.stopped.0 refl in
    subst (λ (b : Bool). Steps i (compacts_so i b) (Err notes.Stopped) old (agent_with new (view_of i))) (sym stopped)
    (steps-answers i (Err notes.Stopped) (Err notes.Stopped) old _ sound refl (ap (λ (s : SnapshotState). concrete_with s.snapshot (view_of i)) (n.stays refl)) (ap (λ (s : SnapshotState). s.device) (n.stays refl)))
steps-compact snapshots i old new (Err notes.OutOfMemory) sound n other = absurd (other refl)
steps-compact snapshots i old new (Err notes.SinkError) sound n other =
    let runs = runs-by i.snapshot.stopped (Err notes.SinkError) n.stopped (λ q. cc) in
    let may = n.error_allowed refl in
    let failed : Steps i (compacts_so i false) (Err notes.SinkError) old (agent_with new (view_of i)) =
    record { writing = Failed new.snapshot.durable; allowed = may; answers = refl; state = ap (λ (s : SnapshotView). concrete_with s (view_of i)) (n.error refl); sound = sound-compact snapshots (Failed new.snapshot.durable) i sound may; device = n.error_device refl } in
    subst (λ (b : Bool). Steps i (compacts_so i b) (Err notes.SinkError) old (agent_with new (view_of i))) (sym runs) failed

-- a text that was replaced was replaced by one call
pub called-ok : (text : List ℕ) (old new : Device) (r : Result (Unit {0}) AppendLineError) → OnOk r (new ≡ replaced text old) → OnOk r (new.calls ≡ replace_called old.calls)
called-ok text old new (Ok done) is = ap (λ (d : Device). d.calls) is
called-ok text old new (Err error) is = tt
