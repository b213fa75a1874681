use Rattle.serf_wire.proofs.Names.{take, ◌++◌, ◌≡◌, flat_map, raw_bytes}
use Rattle.serf_wire.proofs.put.write_texts.Given as goal

abbrev pub invariant-loop-text : goal.invariant-loop-text
invariant-loop-text l = l.out.items ≡ l.fn.out.items ++ flat_map (λ t. raw_bytes t.now) (take l.text-index l.texts)
