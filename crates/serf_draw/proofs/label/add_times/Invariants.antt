use Rattle.serf_draw.proofs.Names.{[], ◌++◌, ◌∷◌, ◌≡◌, flat_map, events_left}
use Rattle.serf_draw.proofs.label.add_times.Given as goal

-- the times so far, followed by one for each event that is left
abbrev pub invariant-loop-event : goal.invariant-loop-event
invariant-loop-event l = l.times.items ++ flat_map (λ e. l.time ∷ []) (events_left l._event-iterator) ≡ l.fn.times.items ++ flat_map (λ e. l.time ∷ []) (events_left l.fn.events)
