use Rattle.serf_schedule.proofs.Names.{List, [], length, ◌++◌, ◌+◌, ◌≡◌, into_iter_items, Action, Acts}
use Rattle.serf_schedule.proofs.run.report_schedule.Given as goal

-- the actions so far were done, the text is about them, and the remaining actions follow them
abbrev pub invariant-loop-action : goal.invariant-loop-action
invariant-loop-action g l = ((options : g.row.T-Options.Denot) → g.T.Turns.told options l.fn.reporter l.fn.schedule.agents [] [] → (done : List Action)
    × Acts (g.T.Turns.told options) l.fn.schedule.agents done l.world l.reporter l.text.items
    × (l.number ≡ length done)
    × (done ++ into_iter_items l.action-iterator ≡ l.fn.schedule.actions.items))
    × (l.number + length (into_iter_items l.action-iterator) ≡ length l.fn.schedule.actions.items)
