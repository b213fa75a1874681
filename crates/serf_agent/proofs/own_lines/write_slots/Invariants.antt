use Rattle.serf_agent.proofs.Names.{List, ℕ, ◌++◌, ◌≡◌, flat_map, slots_to_come, lines_of_slot}
use Rattle.serf_agent.proofs.own_lines.write_slots.Given as goal

abbrev pub invariant-loop-slot : goal.invariant-loop-slot
invariant-loop-slot g l =
    let lines = lines_of_slot g.K.Written.line l.lowest in
    (before : List ℕ) → g.O.LineOutput.has l.fn.output before
    → (written : List ℕ) × g.O.LineOutput.has l.output (before ++ written) × (written ++ flat_map lines (slots_to_come l.slot-iterator) ≡ flat_map lines (slots_to_come l.fn.slots))
