use Rattle.serf_explain.proofs.Names.{OnOk, subst, ℕ, ◌≡◌, on_ok_weaker, event_of_view, EventBody, TimedEntry, admission, after_event, AddsJudged, IsJudging}
use Rattle.serf_explain.proofs.CarriedLaws.{carried-line}
use Rattle.serf_explain.proofs.ReasonLaws.{on_ok_any}
use Rattle.serf_explain.proofs.merge_reasons.add_event.Goals as goal

pub returns-clause-lines : goal.returns-clause-lines
returns-clause-lines c = λ k i j m h.
    let merging = c.args.merging.now in
    let judge = c.judge.new.self in
    let at : ℕ → TimedEntry EventBody = λ t. record { time = t; key = event_of_view c.args.event.now } in
    let verdict = c.in_ok-verdict.verdict in
    let old = c.args.lines.now.text.items in
    let new = c.add_line.new.lines.text.items in
    let judged = c.in_ok-verdict.ensures i j m.sound m.agent_is h in
    let adds = subst (λ (t : ℕ). IsJudging i (after_event j (at t)) judge → verdict ≡ admission j t (at t).key → OnOk c.add_line.result (AddsJudged merging judge i j c.args.slot (at t) verdict old new)) c.get.ensures.value (c.add_line.ensures i j) judged.1 judged.0 in
    on_ok_weaker c.add_line.result (λ one. carried-line k c.args.slot (at c.args.time) verdict i j merging judge old new m judged.1 judged.0 one) adds

pub returns-clause-judging : goal.returns-clause-judging
returns-clause-judging c = λ k i j m h. on_ok_any c.add_line.result (c.in_ok-verdict.ensures i j m.sound m.agent_is h).1
