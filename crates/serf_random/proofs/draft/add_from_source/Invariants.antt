use Rattle.serf_random.proofs.Names.{[], AddsActions}
use Rattle.serf_random.proofs.draft.add_from_source.Given as goal

-- At most this many actions were added.
abbrev pub invariant-loop-done : goal.invariant-loop-done
invariant-loop-done g l = AddsActions l.done l.fn.text.items l.text.items [] l.actions.items
