use Rattle.serf_replay.proofs.Names.{List, take, ℕ, ◌++◌, EventLine, events_at, AreHandOuts}
use Rattle.serf_replay.proofs.summary.record_events.Given as goal

-- the events so far are recorded
abbrev pub invariant-loop-line : goal.invariant-loop-line
invariant-loop-line l = (records : List (EventLine × ℕ)) → AreHandOuts l.fn.agents l.fn.events records → AreHandOuts l.agents l.events (records ++ events_at l.action (take l.line-index l.lines))
