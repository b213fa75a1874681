use Rattle.serf_explain.proofs.Names.{List, ap, ℕ, ◌++◌, ◌∙◌, ◌≡◌, on_ok_weaker, event_of, because_line, carried_words, judged_detail}
use Rattle.serf_explain.proofs.merge_reasons.add_carried.Goals as goal

pub returns : goal.returns
returns c =
    let m = c.args.merging.now in
    let time = c.args.event.now.time in
    let what = event_of c.args.event.now.name.now c.args.event.now.payload.now in
    let detail : List ℕ = judged_detail m c.args.judge.now c.args.handed time what c.args.verdict in
    let old : List ℕ = c.args.lines.now.text.items in
    let words : List ℕ → List ℕ = λ d. carried_words c.args.slot time what c.args.verdict d in
    let said : c.deref.result.now ≡ detail = c.deref.ensures.value ∙ c.in_ok-write_detail.ensures ∙ ap (λ (t : List ℕ). t ++ detail) c.clear.ensures.items in
    let reason : c.deref-2.result.now ≡ words detail = c.deref-2.ensures.value ∙ c.in_ok-write_carried.ensures ∙ ap (λ (t : List ℕ). t ++ words c.deref.result.now) c.clear-2.ensures.items ∙ ap words said in
    on_ok_weaker c.write_because.result (λ is. is ∙ ap (λ (r : List ℕ). old ++ because_line m.number r) reason) c.write_because.ensures
