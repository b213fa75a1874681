use Rattle.serf_judge_json.proofs.Names.{told_of}
use Rattle.serf_judge_json.specs.Repeats.{tally_text}
use Rattle.serf_judge_json.proofs.TextLaws.{all-written}
use Rattle.serf_judge_json.proofs.repeats.write_tallies.Goals as goal

pub returns : goal.returns
returns g c =
    all-written (tally_text c.args.finder.now.places c.args.kind) told_of c.as_slice-told-items.result.now c.in_ok-tallies.tallies.items _ c.loop-told.told-index c.loop-told.out.items c.args.out.now.items
    c.loop-told.invariant c.loop-told-test.false c.as_slice-told-items.ensures.value c.in_ok-tallies.ensures
