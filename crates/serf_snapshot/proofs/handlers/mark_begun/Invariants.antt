use Rattle.serf_snapshot.proofs.Names.{drop, take, ◌≡◌}
use Rattle.serf_snapshot.specs.Handlers.{mark_begun}
use Rattle.serf_snapshot.proofs.handlers.mark_begun.Given as goal

-- the events so far are marked, and the rest is as it was
abbrev pub invariant-loop-other : goal.invariant-loop-other
invariant-loop-other l =
    (take l.other-index l.events ≡ mark_begun l.event (take l.other-index l.initial.events))
    × (drop l.other-index l.events ≡ drop l.other-index l.initial.events)
