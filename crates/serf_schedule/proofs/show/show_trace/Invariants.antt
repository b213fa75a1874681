use Rattle.serf_schedule.proofs.Names.{drop, ◌++◌, ◌+◌, ◌≡◌, outcome_of, actions_text, trace_text}
use Rattle.serf_schedule.proofs.show.show_trace.Given as goal

-- the text of the actions so far, and then that of the remaining actions
abbrev pub invariant-loop-line : goal.invariant-loop-line
invariant-loop-line l = (l.out.items ++ actions_text l.trace.sent (l.number + 1) (drop l.line-index l.trace.lines) ≡ trace_text (outcome_of l.trace))
    × (l.number ≡ l.line-index)
