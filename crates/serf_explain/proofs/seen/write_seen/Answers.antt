use Rattle.serf_explain.proofs.Names.{ap, sym, ◌∙◌, on_ok_weaker, event_of, handed_words}
use Rattle.serf_explain.proofs.seen.write_seen.Goals as goal

pub returns : goal.returns
returns c =
    let event = c.args.of.now.event in
    let what = event_of event.name.now event.payload.now in
    on_ok_weaker c.write_handed.result
    (λ is. record {
      more = handed_words c.name_of.result.now event.time what c.action_of-handed.result;
      added = is;
      such = (c.action_of-handed.result, c.action_of-handed.ensures, ap (λ name. handed_words name event.time what c.action_of-handed.result) c.name_of.ensures);
    })
    c.write_handed.ensures
