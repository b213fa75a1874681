use Rattle.serf_judge.proofs.Names.{map, take, ◌≡◌, content_of, key_content}
use Rattle.serf_judge.proofs.missed.contents.Given as goal

abbrev pub invariant-loop-entry : goal.invariant-loop-entry
invariant-loop-entry l = map key_content l.keys.items ≡ map content_of (take l.entry-index l.entries)
