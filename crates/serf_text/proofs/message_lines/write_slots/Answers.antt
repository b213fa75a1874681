use Rattle.serf_text.proofs.Names.{arith, common_steps, slot_of_view}
use Rattle.serf_text.proofs.SlotLemmas.{some_lines}
use Rattle.serf_text.proofs.message_lines.write_slots.Goals as goal

pub loop-slot-preserved : goal.loop-slot-preserved
loop-slot-preserved c = (
  grind (arith, common_steps),
  grind (arith, common_steps, some_lines c.loop-slot.number (slot_of_view c.in-Some.slot), c.in_ok-write_slot.ensures),
)
