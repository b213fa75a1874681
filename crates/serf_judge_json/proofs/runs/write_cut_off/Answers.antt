use Rattle.serf_judge_json.proofs.Names.{codes, handed_seen}
use Rattle.serf_judge_json.specs.Entries.{entry_text}
use Rattle.serf_judge_json.specs.declared.kind.Kind.TheVariants as kinds
use Rattle.serf_judge_json.proofs.TextLaws.{all-written}
use Rattle.serf_judge_json.proofs.runs.write_cut_off.Goals as goal

pub returns : goal.returns
returns c =
    all-written (entry_text c.args.finder.now.places (codes "cut-off") kinds.Event) handed_seen c.as_slice-line-items.result.now c.in_ok-found.found.items _ c.loop-line.line-index c.loop-line.out.items c.args.out.now.items
    c.loop-line.invariant c.loop-line-test.false c.as_slice-line-items.ensures.value c.in_ok-found.ensures
