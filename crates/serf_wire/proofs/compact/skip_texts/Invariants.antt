use Rattle.serf_wire.proofs.Names.{AreItems, text}
use Rattle.serf_wire.proofs.compact.skip_texts.Given as goal

abbrev pub invariant-texts : goal.invariant-texts
invariant-texts l = AreItems 9 text l.counter l.bytes l.rest
