use Rattle.serf_random.proofs.Names.{arith, ◌+◌, ◌≤◌}
use Rattle.serf_random.proofs.DraftLemmas.{more_actions}
use Rattle.serf_random.proofs.draft.add_from_source.Goals as goal

pub returns-then-not-branch : goal.returns-then-not-branch
returns-then-not-branch g c =
    let few : c.loop-done.done + 1 ≤ c.args.maximum = omega arith in
    more_actions c.loop-done.done 1 c.args.maximum _ _ _ _ _ _ few c.loop-done.invariant c.in_ok-add_next.ensures

pub loop-done-preserved : goal.loop-done-preserved
loop-done-preserved g c =
    let few : c.loop-done.done + 1 ≤ c.loop-done.done + 1 = omega arith in
    more_actions c.loop-done.done 1 (c.loop-done.done + 1) _ _ _ _ _ _ few c.loop-done.invariant c.in_ok-add_next.ensures
