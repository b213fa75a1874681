use Rattle.serf_explain.proofs.Names.{List, ap, arith, sym, true, ℕ, ◌++◌, ◌<◌, ◌^◌, ◌∙◌, ◌≡◌, on_ok_weaker, event_of, stands, event_words}
use Rattle.serf_explain.proofs.StandingLaws.{adds-standing}
use Rattle.serf_explain.proofs.merge_reasons.add_unescaped.Goals as goal

pub returns : goal.returns
returns c = λ judge.
    let event = c.args.event.now in
    let merging = c.args.merging.now in
    let agent : List ℕ = merging.agent.now.concrete.config.name in
    let slot : c.args.slot < 2 ^ 64 = omega arith in
    let time : event.time < 2 ^ 64 = omega arith in
    let action : c.args.action < 2 ^ 64 = omega arith in
    let what = event_of event.name.now event.payload.now in
    let plain : stands agent ≡ true = sym merging.plain_is ∙ c.requires.agent in
    let words : c.as_slice-words.result.now ≡ event_words event.time what =
    c.as_slice-words.ensures.value ∙ c.in_ok-write_unescaped_event.ensures ∙ ap (λ (t : List ℕ). t ++ event_words event.time what) c.clear.ensures.items in
    on_ok_weaker c.write_seen_after.result
    (λ is. adds-standing merging.number c.args.slot event.time c.args.action agent event.name.now event.payload.now c.as_slice-front.result.now c.as_slice-named.result.now c.as_slice-words.result.now c.args.lines.now.text.items c.write_seen_front.new.out.items c.write_seen_after.new.out.items
    slot time action plain c.requires.name c.requires.payload (c.as_slice-front.ensures.value ∙ merging.front_is) (c.as_slice-named.ensures.value ∙ merging.named_is) words c.in_ok-write_seen_front.ensures is)
    c.write_seen_after.ensures
