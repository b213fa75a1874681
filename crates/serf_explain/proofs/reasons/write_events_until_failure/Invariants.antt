use Rattle.serf_explain.proofs.Names.{AddsReasons}
use Rattle.serf_explain.proofs.reasons.write_events_until_failure.Given as goal

abbrev pub invariant-loop-line : goal.invariant-loop-line
invariant-loop-line l = AddsReasons l.context.number l.fn.out.items l.out.items
