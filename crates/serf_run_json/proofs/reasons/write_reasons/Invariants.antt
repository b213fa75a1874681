use Rattle.serf_run_json.proofs.Names.{AddsObjects, codes}
use Rattle.serf_run_json.proofs.reasons.write_reasons.Given as goal

-- objects of reasons were written
abbrev pub invariant-loop-line : goal.invariant-loop-line
invariant-loop-line l = AddsObjects (codes "reason") l.fn.out.items l.out.items
