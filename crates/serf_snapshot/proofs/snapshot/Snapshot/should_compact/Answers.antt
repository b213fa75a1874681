use Rattle.serf_snapshot.proofs.Names.{List, [], ap, ℕ, ◌∙◌, is_worth_replacing, durable_of, compaction_bytes, SnapshotView, compaction_of}
use Rattle.serf_snapshot.proofs.KeptAppendLineLaws.{text-given}
use Rattle.serf_snapshot.proofs.LengthLaws.{if_some-of}
use Rattle.serf_snapshot.proofs.snapshot.Snapshot.should_compact.Goals as goal

pub returns-then-not-self-clause-exact : goal.returns-then-not-self-clause-exact
returns-then-not-self-clause-exact g c =
    let last = c.self.inside.last in
    let device = g.S.Sink.device c.self.inside.sink in
    let s : SnapshotView = record { member_clock = last.member_clock; event_clock = last.event_clock; query_clock = last.query_clock; stopped = c.self.inside.stopped; durable = durable_of device; plan = device.plan } in
    rw (← c.self.view_is) (λ lines runs counts.
    if_some-of (durable_of device) (λ text is. c.is_worth_replacing.ensures.exact (compaction_bytes lines last.member_clock last.event_clock last.query_clock) text (c.compaction_length-new_length.ensures.exact lines counts) is
    ∙ ap (λ (new : List ℕ). is_worth_replacing c.args.limit new text) (text-given lines s)) (c.self.invariant.4 runs))

pub returns-then-not-self-clause-plain : goal.returns-then-not-self-clause-plain
returns-then-not-self-clause-plain g c =
    let last = c.self.inside.last in
    let device = g.S.Sink.device c.self.inside.sink in
    let s : SnapshotView = record { member_clock = last.member_clock; event_clock = last.event_clock; query_clock = last.query_clock; stopped = c.self.inside.stopped; durable = durable_of device; plan = device.plan } in
    let nothing : List ℕ = [] in
    rw (← c.self.view_is) (λ none runs below.
    if_some-of (durable_of device) (λ text is. c.is_worth_replacing.ensures.short (compaction_of s) text (c.compaction_length-new_length.ensures.exact nothing none) (c.compaction_length-new_length.ensures.short none) below is) (c.self.invariant.4 runs))
