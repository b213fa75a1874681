use Rattle.serf_agent.proofs.Names.{IfSome, List, [], ap, false, refl, subst, sym, true, ℕ, ◌∙◌, ◌≡◌, is_worth_compacting, is_worth_replacing, lines_given, SnapshotView, compaction_of, kept_lines, AgentState}
use Rattle.serf_snapshot.specs.KeptAppends.{text_with}
use Rattle.serf_agent.proofs.WrittenLines.{worth-plain, worth-with, worth-without}
use Rattle.serf_agent.proofs.agent.Agent.should_compact.Goals as goal

pub returns-then-should_compact-clause-exact : goal.returns-then-should_compact-clause-exact
returns-then-should_compact-clause-exact g c = λ runs.
    let a = c.args.self.now.concrete in
    let r = c.should_compact-then-should_compact.result in
    let same = ap (λ (x : AgentState). x.concrete.snapshot) c.self.view_is in
    let keeps : a.config.keep_events ≡ true = sym (ap (λ (x : AgentState). x.concrete.config.keep_events) c.self.view_is) ∙ c.if-not-self.false in
    let worth = c.should_compact-then-should_compact.ensures.exact (kept_lines a) (ap (λ (s : SnapshotView). s.stopped) same ∙ runs) c.kept_length.ensures in
    worth-with a c.args.limit r keeps (subst (λ (s : SnapshotView). IfSome s.durable (λ text. r ≡ is_worth_replacing c.args.limit (text_with (lines_given (kept_lines a)) s) text)) same worth)

pub returns-else-should_compact-clause-exact : goal.returns-else-should_compact-clause-exact
returns-else-should_compact-clause-exact g c = λ runs.
    let a = c.args.self.now.concrete in
    let r = c.should_compact-2.result in
    let none : List ℕ = [] in
    let same = ap (λ (x : AgentState). x.concrete.snapshot) c.self.view_is in
    let keeps : a.config.keep_events ≡ true = sym (ap (λ (x : AgentState). x.concrete.config.keep_events) c.self.view_is) ∙ c.if-not-self.false in
    let worth = c.should_compact-2.ensures.exact none (ap (λ (s : SnapshotView). s.stopped) same ∙ runs) refl in
    worth-without a c.args.limit r keeps c.if-should_compact.false (subst (λ (s : SnapshotView). IfSome s.durable (λ text. r ≡ is_worth_replacing c.args.limit (compaction_of s) text)) same worth)

pub returns-then-not-self-clause-exact : goal.returns-then-not-self-clause-exact
returns-then-not-self-clause-exact g c = λ runs.
    let a = c.args.self.now.concrete in
    let r = c.should_compact.result in
    let none : List ℕ = [] in
    let same = ap (λ (x : AgentState). x.concrete.snapshot) c.self.view_is in
    let off : a.config.keep_events ≡ false = sym (ap (λ (x : AgentState). x.concrete.config.keep_events) c.self.view_is) ∙ c.if-not-self.true in
    let worth = c.should_compact.ensures.exact none (ap (λ (s : SnapshotView). s.stopped) same ∙ runs) refl in
    worth-plain a c.args.limit r off (subst (λ (s : SnapshotView). IfSome s.durable (λ text. r ≡ is_worth_replacing c.args.limit (compaction_of s) text)) same worth)

pub returns-then-not-self-clause-plain : goal.returns-then-not-self-clause-plain
returns-then-not-self-clause-plain g c = λ off runs below.
    let r = c.should_compact.result in
    let same = ap (λ (x : AgentState). x.concrete.snapshot) c.self.view_is in
    subst (λ (s : SnapshotView). IfSome s.durable (λ text. r ≡ is_worth_compacting c.args.limit s text)) same (c.should_compact.ensures.plain refl (ap (λ (s : SnapshotView). s.stopped) same ∙ runs) below)
