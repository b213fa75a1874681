use Rattle.serf_snapshot.proofs.Names.{drop, ◌≡◌, all_ascii_digits}
use Rattle.serf_snapshot.proofs.clocks.is_all_digits.Given as goal

abbrev pub invariant-loop-b : goal.invariant-loop-b
invariant-loop-b l = all_ascii_digits (drop l.b-index l.text) ≡ all_ascii_digits l.text
