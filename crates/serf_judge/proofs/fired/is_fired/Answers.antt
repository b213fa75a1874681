use Rattle.serf_judge.proofs.Names.{ap, ℕ, ◌&&◌, ◌∙◌, list_any, EventContent, content_of, is_same_content, log_at, counts, one_counts, says}
use Rattle.serf_judge.proofs.fired.is_fired.Goals as goal

pub returns-in-Some : goal.returns-in-Some
returns-in-Some c = λ fired h.
    let starts = c.args.starts.now in
    let event = c.args.event.now in
    let at : ℕ × ℕ = (event.line, log_at starts event.line) in
    c.is_before.ensures ∙ ap (λ log. counts c.in-Some.recorded.now (event.line, log)) c.log_of.ensures ∙ ap (λ o. says counts o at) c.in-Some.ensures.value ∙ h c.content_key-key.result at
    ∙ ap (λ (x : EventContent). list_any (λ f. is_same_content x (content_of f) && one_counts starts f at) fired) c.content_key-key.ensures

pub returns-in-None : goal.returns-in-None
returns-in-None c = λ fired h.
    let starts = c.args.starts.now in
    let event = c.args.event.now in
    let at : ℕ × ℕ = (event.line, log_at starts event.line) in
    ap (λ o. says counts o at) c.in-None.ensures.value ∙ h c.content_key-key.result at
    ∙ ap (λ (x : EventContent). list_any (λ f. is_same_content x (content_of f) && one_counts starts f at) fired) c.content_key-key.ensures
