use Rattle.serf_agent.proofs.Names.{List, [], refl, rules, subst, sym, true, ℕ, ◌+◌, ◌-◌, ◌<◌, ◌^◌, ◌∙◌, ◌≡◌, EventBody, last_clock, Device, SnapshotView, opened, SealError, is_sound, open_error_of, IdealAgent, with_config, concrete_of, first_events, first_queries, KeptRestartLaws, HasKept, HasPast, restarted, unopened, SnapshotLaws, IsSound, ConcreteTrack, ConcreteState, view_of}
use Rattle.serf_snapshot.specs.declared.kind.ClockKind.TheVariants as kinds
use Rattle.serf_snapshot.specs.declared.snapshot.SealError.TheVariants as seals
use Rattle.serf_agent.specs.declared.outcome.OpenError.TheVariants as opens
use Rattle.serf_agent.proofs.SoundLaws.{past-unopened, sound-restarted, sound-unopened, sound-with_config}
use Rattle.serf_agent.proofs.ViewLaws.{first-view}
use Rattle.serf_agent.proofs.agent.Agent.open.Goals as goal

-- what is stored after a text's last lines were read is the view of each agent with these settings whose past is in the
-- text
goes-on : SnapshotLaws → KeptRestartLaws → (i : IdealAgent) (text : List ℕ) (d : Device) (s : SnapshotView) (events : ConcreteTrack EventBody) (queries : ConcreteTrack ℕ) (a : ConcreteState) → IsSound i → HasPast i.config i text → s.member_clock < 2 ^ 64 - 1 → s ≡ opened text d
    → events ≡ first_events i.config text (last_clock kinds.Event text) → queries ≡ first_queries i.config text (last_clock kinds.Query text)
    → a ≡ record { config = i.config; member_clock = s.member_clock + 1; events = events; queries = queries; snapshot = s; fired_queries = [] } → (a ≡ view_of (restarted text (opened text d) i)) × IsSound (restarted text (opened text d) i)
goes-on snapshots kept i text d s events queries a sound past small is event_track query_track stored = (
  stored ∙ (λ k. record { config = i.config; member_clock = (is k).member_clock + 1; events = event_track k; queries = query_track k; snapshot = is k; fired_queries = [] }) ∙ first-view kept i text d sound,
  sound-restarted snapshots kept i text d sound past (subst (λ (s : SnapshotView). s.member_clock < 2 ^ 64 - 1) is small),
)

pub returns-clause-restarted : goal.returns-clause-restarted
returns-clause-restarted g c = λ i sound said.
    let config = c.args.config in
    let text = c.args.text.now in
    let ok : is_sound config ≡ true = search rules in
    let past : HasPast config (with_config config i) text = record {
      times = record { events = said.times.events; queries = said.times.queries };
      kept = λ keeps. let had : HasKept i text = said.kept keeps in record { events = had.events; queries = had.queries };
    } in
    let events : concrete_of c.in-Ok.first.events ≡ first_events config text (last_clock kinds.Event text) = search rules in
    let queries : concrete_of c.in-Ok.first.queries ≡ first_queries config text (last_clock kinds.Query text) = search rules in
    goes-on c.sound_snapshots.ensures c.kept_restart_laws.ensures (with_config config i) text (g.S.Sink.device c.args.sink) _ _ _ _ (sound-with_config config i sound ok) past c.in-Ok-open_read.ensures.times.member_clock c.in-Ok-open_read.ensures.ok
    events queries c.following.ensures.concrete

pub returns-clause-first : goal.returns-clause-first
returns-clause-first g c =
    let device = g.S.Sink.device c.args.sink in
    let text = c.args.text.now in
    let config = c.args.config in
    let i = unopened config (opened text device) in
    let small = subst (λ (s : SnapshotView). s.member_clock < 2 ^ 64 - 1) c.in-Ok-open_read.ensures.ok c.in-Ok-open_read.ensures.times.member_clock in
    let ok : is_sound config ≡ true = search rules in
    let sound = sound-unopened c.sound_snapshots.ensures config text device ok small in
    let events : concrete_of c.in-Ok.first.events ≡ first_events config text (last_clock kinds.Event text) = search rules in
    let queries : concrete_of c.in-Ok.first.queries ≡ first_queries config text (last_clock kinds.Query text) = search rules in
    goes-on c.sound_snapshots.ensures c.kept_restart_laws.ensures i text device _ _ _ _ sound (past-unopened config (opened text device) text) c.in-Ok-open_read.ensures.times.member_clock c.in-Ok-open_read.ensures.ok
    events queries c.following.ensures.concrete

seal-failed : (error : SealError) → open_error_of error ≡ opens.SinkError → error ≡ seals.SinkError
seal-failed seals.OutOfMemory is = absurd (cc is)
seal-failed seals.SinkError is = refl

pub returns-in-Err-clause-cause : goal.returns-in-Err-clause-cause
returns-in-Err-clause-cause g c = λ at. (c.in-Err.ensures.error (seal-failed c.in-Err.sealed (sym c.from-error.ensures ∙ at))).fails
