use Rattle.serf_run_json.proofs.Names.{take, ◌++◌, ◌≡◌, flat_map, event_object, settings_of}
use Rattle.serf_run_json.proofs.results.write_events.Given as goal

-- the objects of the first events were written
abbrev pub invariant-loop-event : goal.invariant-loop-event
invariant-loop-event l = l.out.items ≡ l.fn.out.items ++ flat_map (event_object (settings_of l.world) l.number) (take l.event-index l.events)
