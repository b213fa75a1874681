use Rattle.serf_explain.proofs.Names.{List, ℕ, slots_left, IdealAgent, Known, slot_entries_from, HasJudged, IsJudging, IsMerging}
use Rattle.serf_explain.proofs.merge_reasons.add_slots.Given as goal

abbrev pub invariant-loop-content : goal.invariant-loop-content
invariant-loop-content l = (k : Known) (i j : IdealAgent) → IsMerging k i l.merging → IsJudging i j l.initial.judge
    → HasJudged k l.merging.number i j (slot_entries_from 0 (slots_left l.fn.slots)) (slot_entries_from l.slot (slots_left l.content-iterator)) l.initial.lines.text.items l.lines.text.items l.judge
