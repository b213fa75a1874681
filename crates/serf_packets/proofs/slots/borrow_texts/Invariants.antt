use Rattle.serf_packets.proofs.Names.{map, take, ◌≡◌}
use Rattle.serf_packets.proofs.slots.borrow_texts.Given as goal

abbrev pub invariant-loop-text : goal.invariant-loop-text
invariant-loop-text l = map (λ t. t.now) l.borrowed.items ≡ take l.text-index l.texts
