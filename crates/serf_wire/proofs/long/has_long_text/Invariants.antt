use Rattle.serf_wire.proofs.Names.{false, take, ◌≡◌, list_any, is_long}
use Rattle.serf_wire.proofs.long.has_long_text.Given as goal

abbrev pub invariant-loop-text : goal.invariant-loop-text
invariant-loop-text l = list_any (λ t. is_long t.now) (take l.text-index l.texts) ≡ false
