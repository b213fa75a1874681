use Rattle.serf_explain.proofs.Names.{List, ℕ, events_left, IdealAgent, at_time, Known, slot_entries, HasJudged, IsJudging, IsMerging}
use Rattle.serf_explain.proofs.merge_reasons.add_events.Given as goal

abbrev pub invariant-loop-event : goal.invariant-loop-event
invariant-loop-event l = (k : Known) (i j : IdealAgent) → IsMerging k i l.merging → IsJudging i j l.initial.judge
    → HasJudged k l.merging.number i j (slot_entries l.slot (at_time l.time (events_left l.fn.events))) (slot_entries l.slot (at_time l.time (events_left l.event-iterator))) l.initial.lines.text.items l.lines.text.items l.judge
