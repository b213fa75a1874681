use Rattle.serf_judge_json.proofs.Names.{refl, missing_view}
use Rattle.serf_judge_json.specs.Missing.{missing_text}
use Rattle.serf_judge_json.proofs.TextLaws.{all-written}
use Rattle.serf_judge_json.proofs.missing.write_missing_nodes.Goals as goal

pub returns : goal.returns
returns c =
    let missing = missing_view c.args.event.now in
    all-written (missing_text missing.event) (λ t. t.now) c.as_slice-node-items.result.now c.args.event.now.nodes.items missing.nodes c.loop-node.node-index c.loop-node.out.items c.args.out.now.items
    c.loop-node.invariant c.loop-node-test.false c.as_slice-node-items.ensures.value refl
