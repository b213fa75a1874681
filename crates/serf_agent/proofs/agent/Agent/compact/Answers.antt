use Rattle.serf_agent.proofs.Names.{List, Option, Result, ap, subst, sym, ℕ, ◌∙◌, ◌≡◌, ReplacesText, lines_given, SnapshotState, SnapshotView, AppendLineError, compact, written_lines, Steps, text_with, AgentState, ConcreteState, concrete_with}
use Rattle.serf_agent.proofs.LineLaws.{agent_with, called-ok, steps-compact}
use Rattle.serf_agent.proofs.agent.Agent.compact.Goals as goal

-- the result of the replacement, from what the agent stores
given : (old : AgentState) (lines : List ℕ) (s z : SnapshotState) (r : Result (Unit {0}) AppendLineError) → lines_given lines ≡ written_lines old.concrete → s ≡ record { snapshot = old.concrete.snapshot; device = old.device } → ReplacesText (text_with (lines_given lines) s.snapshot) s z r
    → ReplacesText (text_with (written_lines old.concrete) old.concrete.snapshot) (record { snapshot = old.concrete.snapshot; device = old.device }) z r
given old lines s z r told same done = subst (λ (x : SnapshotState). ReplacesText (text_with (written_lines old.concrete) x.snapshot) x z r) same (subst (λ (o : Option (List ℕ)). ReplacesText (text_with o s.snapshot) s z r) told done)

pub returns-clause-step : goal.returns-clause-step
returns-clause-step g c = λ i sound is other.
    let was = ap (λ (a : AgentState). a.concrete) c.self.view_is ∙ is in
    let old = c.args.self.now in
    let r = c.compact.result in
    let new = c.compact.new.self in
    let done = (given c.args.self.now c.as_slice.result.now c.self.inside.snapshot c.compact.new.self c.compact.result (ap (λ (l : List ℕ). lines_given l) c.as_slice.ensures.value ∙ c.in_ok-lines.ensures) (λ k. record { snapshot = (c.self.view_is k).concrete.snapshot; device = (c.self.view_is k).device }) c.compact.ensures) in
    let steps = steps-compact c.sound_snapshots.ensures i old.device new r sound (subst (λ (a : ConcreteState). ReplacesText (text_with (written_lines a) a.snapshot) (record { snapshot = a.snapshot; device = old.device }) new r) is done) other in
    subst (λ (s : ConcreteState). Steps i (compact i) r old.device (agent_with new s)) (sym was) steps

pub returns-clause-ok_device : goal.returns-clause-ok_device
returns-clause-ok_device g c = (given c.args.self.now c.as_slice.result.now c.self.inside.snapshot c.compact.new.self c.compact.result (ap (λ (l : List ℕ). lines_given l) c.as_slice.ensures.value ∙ c.in_ok-lines.ensures) (λ k. record { snapshot = (c.self.view_is k).concrete.snapshot; device = (c.self.view_is k).device }) c.compact.ensures).ok_device

pub returns-clause-error_device : goal.returns-clause-error_device
returns-clause-error_device g c = (given c.args.self.now c.as_slice.result.now c.self.inside.snapshot c.compact.new.self c.compact.result (ap (λ (l : List ℕ). lines_given l) c.as_slice.ensures.value ∙ c.in_ok-lines.ensures) (λ k. record { snapshot = (c.self.view_is k).concrete.snapshot; device = (c.self.view_is k).device }) c.compact.ensures).error_device

pub returns-clause-called : goal.returns-clause-called
returns-clause-called g c =
    let old = c.args.self.now in
    called-ok (text_with (written_lines old.concrete) old.concrete.snapshot) old.device c.compact.new.self.device c.compact.result (given c.args.self.now c.as_slice.result.now c.self.inside.snapshot c.compact.new.self c.compact.result (ap (λ (l : List ℕ). lines_given l) c.as_slice.ensures.value ∙ c.in_ok-lines.ensures) (λ k. record { snapshot = (c.self.view_is k).concrete.snapshot; device = (c.self.view_is k).device }) c.compact.ensures).ok_device

pub returns-clause-error_called : goal.returns-clause-error_called
returns-clause-error_called g c = λ at. ((given c.args.self.now c.as_slice.result.now c.self.inside.snapshot c.compact.new.self c.compact.result (ap (λ (l : List ℕ). lines_given l) c.as_slice.ensures.value ∙ c.in_ok-lines.ensures) (λ k. record { snapshot = (c.self.view_is k).concrete.snapshot; device = (c.self.view_is k).device }) c.compact.ensures).error_device at).called

pub returns-clause-cause : goal.returns-clause-cause
returns-clause-cause g c = (given c.args.self.now c.as_slice.result.now c.self.inside.snapshot c.compact.new.self c.compact.result (ap (λ (l : List ℕ). lines_given l) c.as_slice.ensures.value ∙ c.in_ok-lines.ensures) (λ k. record { snapshot = (c.self.view_is k).concrete.snapshot; device = (c.self.view_is k).device }) c.compact.ensures).error_cause

pub returns-clause-memory : goal.returns-clause-memory
returns-clause-memory g c = λ at.
    let was = ap (λ (a : AgentState). a.concrete) c.self.view_is in
    ap (λ (a : ConcreteState). concrete_with c.compact.new.self.snapshot a) was ∙ ap (λ (s : SnapshotView). concrete_with s c.args.self.now.concrete) ((given c.args.self.now c.as_slice.result.now c.self.inside.snapshot c.compact.new.self c.compact.result (ap (λ (l : List ℕ). lines_given l) c.as_slice.ensures.value ∙ c.in_ok-lines.ensures) (λ k. record { snapshot = (c.self.view_is k).concrete.snapshot; device = (c.self.view_is k).device }) c.compact.ensures).memory at)

pub returns-clause-memory_device : goal.returns-clause-memory_device
returns-clause-memory_device g c = (given c.args.self.now c.as_slice.result.now c.self.inside.snapshot c.compact.new.self c.compact.result (ap (λ (l : List ℕ). lines_given l) c.as_slice.ensures.value ∙ c.in_ok-lines.ensures) (λ k. record { snapshot = (c.self.view_is k).concrete.snapshot; device = (c.self.view_is k).device }) c.compact.ensures).memory_device

pub returns-clause-stopped : goal.returns-clause-stopped
returns-clause-stopped g c = λ at.
    let was = ap (λ (a : AgentState). a.concrete) c.self.view_is in
    let same = (given c.args.self.now c.as_slice.result.now c.self.inside.snapshot c.compact.new.self c.compact.result (ap (λ (l : List ℕ). lines_given l) c.as_slice.ensures.value ∙ c.in_ok-lines.ensures) (λ k. record { snapshot = (c.self.view_is k).concrete.snapshot; device = (c.self.view_is k).device }) c.compact.ensures).stays at in
    λ k. record {
      concrete = (ap (λ (a : ConcreteState). concrete_with c.compact.new.self.snapshot a) was ∙ ap (λ (s : SnapshotState). concrete_with s.snapshot c.args.self.now.concrete) same) k;
      device = ap (λ (s : SnapshotState). s.device) same k;
    }
