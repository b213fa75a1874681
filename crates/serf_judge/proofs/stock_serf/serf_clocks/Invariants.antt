use Rattle.serf_judge.proofs.Names.{length, ◌≡◌, lines_of, Event, Member, Query, prefix_of, clock_after_all, serf_clock}
use Rattle.serf_judge.proofs.stock_serf.serf_clocks.Given as goal

-- the clocks so far, after the lines that are left, are the clocks after all lines
abbrev pub invariant-lines : goal.invariant-lines
invariant-lines l =
    (clock_after_all l.fn.rejoins (prefix_of Member) l.clocks.member_clock (lines_of l.rest) ≡ serf_clock l.fn.rejoins Member l.fn.text)
    × (clock_after_all l.fn.rejoins (prefix_of Event) l.clocks.event_clock (lines_of l.rest) ≡ serf_clock l.fn.rejoins Event l.fn.text)
    × (clock_after_all l.fn.rejoins (prefix_of Query) l.clocks.query_clock (lines_of l.rest) ≡ serf_clock l.fn.rejoins Query l.fn.text)

abbrev pub decreases-lines : goal.decreases-lines
decreases-lines l = length l.rest
