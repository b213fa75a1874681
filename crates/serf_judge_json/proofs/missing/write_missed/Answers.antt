use Rattle.serf_judge_json.proofs.Names.{ap, length, length-map, sym, ◌∙◌, missed_of, missing_view}
use Rattle.serf_judge_json.specs.Missing.{missing_nodes_text}
use Rattle.serf_judge_json.proofs.TextLaws.{all-written}
use Rattle.serf_judge_json.proofs.missing.write_missed.Goals as goal

pub returns : goal.returns
returns c =
    let events = c.args.events.now in
    let count = ap length c.as_slice.ensures.value ∙ sym (length-map c.in_ok-nodes.nodes.items (λ t. t.now)) ∙ ap length c.in_ok-nodes.ensures in
    let named = c.in_ok-report.ensures.missed ∙ ap (λ n. missed_of n events) count in
    all-written missing_nodes_text missing_view c.deref-event-items.result.now c.in_ok-report.report.missed.items _ c.loop-event.event-index c.loop-event.out.items c.args.out.now.items
    c.loop-event.invariant c.loop-event-test.false c.deref-event-items.ensures.value named
