use Rattle.serf_agent.proofs.Names.{max, ◌+◌, ◌∙◌}
use Rattle.serf_agent.proofs.TrackLaws.{verdict-ideal}
use Rattle.serf_agent.proofs.track.Track.reason.Goals as goal

pub returns-clause-reason : goal.returns-clause-reason
returns-clause-reason g c = rw (← c.self.view_is) (λ track n life last sound is.
    c.reason_of.ensures ∙ verdict-ideal g.L.BorrowedKey.same _ n c.self.inside.window.per_time life last track c.args.time c.max-clock_after.result (g.L.BorrowedKey.key c.args.key.now) c.offer-verdict.result sound is
    (c.max-clock_after.ensures ∙ (λ j. max (c.time.ensures j) (c.get.ensures.value j + 1))) c.offer-verdict.ensures.verdict)
