use Rattle.serf_snapshot.proofs.Names.{length, refl, ◌-◌, ◌^◌, Event, Member, Query}
use Rattle.serf_snapshot.proofs.ClockLaws.{once_set-below}
use Rattle.serf_snapshot.proofs.LengthLaws.{length-noted}
use Rattle.serf_snapshot.proofs.snapshot.Snapshot.write.Goals as goal

pub invariant_of-self-in-Ok : goal.invariant_of-self-in-Ok
invariant_of-self-in-Ok g c =
    let top = c.self.invariant in (
      λ _. c.in-Ok.ensures.clean,
      rw c.with-self-inside.ensures.member (once_set-below Member c.args.kind c.args.value c.self.inside.last.member_clock (2 ^ 64 - 1) c.requires.time top.1),
      rw c.with-self-inside.ensures.event (once_set-below Event c.args.kind c.args.value c.self.inside.last.event_clock (2 ^ 64 - 1) c.requires.time top.2),
      rw c.with-self-inside.ensures.query (once_set-below Query c.args.kind c.args.value c.self.inside.last.query_clock (2 ^ 64 - 1) c.requires.time top.3),
      λ runs. length-noted (g.S.Sink.device c.self.inside.sink) (g.S.Sink.device c.reserve.new.self) (g.S.Sink.device c.keep.new.sink) c.args.bytes.now c.self.inside.kept (length c.args.bytes.now) c.saturating_add-self-inside.result
          c.reserve.ensures.device c.in-Ok.ensures.ok (top.0 runs) (top.4 runs) refl c.saturating_add-self-inside.ensures,
    )
