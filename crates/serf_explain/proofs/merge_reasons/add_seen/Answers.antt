use Rattle.serf_explain.proofs.Names.{OnOk, Option, Some, subst, sym, ℕ, ◌++◌, ◌≡◌, event_of, Seen, judged_line}
use Rattle.serf_explain.proofs.merge_reasons.add_seen.Goals as goal

pub returns-in-Some : goal.returns-in-Some
returns-in-Some c =
    let event = c.args.event.now in
    subst (λ (o : Option ℕ). OnOk c.add_unescaped.result (c.add_unescaped.new.lines.text.items ≡ c.args.lines.now.text.items ++ judged_line c.args.merging.now c.args.judge.now o c.args.slot event.time (event_of event.name.now event.payload.now) (Some Seen)))
    (sym c.in-Some.is) (c.add_unescaped.ensures c.args.judge.now)
