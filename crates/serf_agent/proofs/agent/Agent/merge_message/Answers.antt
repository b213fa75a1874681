use Rattle.serf_agent.proofs.Names.{None, Some, refl, subst, sym, ◌∙◌, ◌≡◌, err_from_is_err_and, PushPull, push_pull_said, Kept, ended, Merges, hear}
use Rattle.serf_agent.proofs.MergeLaws.{merges-all, merges-none, merges-wrong, same-push_pull}
use Rattle.serf_agent.proofs.agent.Agent.merge_message.Goals as goal

pub returns-in_err-hear-clause-merged : goal.returns-in_err-hear-clause-merged
returns-in_err-hear-clause-merged g c = λ i m sound is says.
    let borrowed = push_pull_said c.in-Some.state in
    let same : borrowed ≡ m = same-push_pull borrowed m (sym c.in-Some.ensures.some ∙ says) in
    let p = err_from_is_err_and c.from_residual.result c.from_residual.ensures.1 in
    rw (p.1, p.2) (subst (λ (q : PushPull). Merges i q c.args.is_join c.args.out.now.items c.args.out.now.items c.args.self.now.device c.hear.new.self (Some c.in_err-hear.field-0.0)) same
    (merges-none i borrowed c.args.is_join c.args.out.now.items c.args.out.now.items c.args.self.now.device c.hear.new.self c.in_err-hear.field-0.0 refl (c.in_err-hear.ensures.heard i sound is)))

pub returns-in-Ok-clause-merged : goal.returns-in-Ok-clause-merged
returns-in-Ok-clause-merged g c = λ i m sound is says.
    let borrowed = push_pull_said c.in-Some.state in
    let same : borrowed ≡ m = same-push_pull borrowed m (sym c.in-Some.ensures.some ∙ says) in
    let heard = c.in_ok-hear.ensures.heard i sound is in
    let r = c.in-Ok.ensures.received (ended i (hear i borrowed c.args.is_join) Kept).agent heard.sound heard.state in
    subst (λ (q : PushPull). Merges i q c.args.is_join c.args.out.now.items c.receive_slots.new.out.items c.args.self.now.device c.receive_slots.new.self None) same
    (merges-all i borrowed c.args.is_join c.args.out.now.items c.receive_slots.new.out.items c.args.self.now.device c.hear.new.self c.receive_slots.new.self c.in-Ok.field-0 heard r)

pub returns-in-Err-clause-merged : goal.returns-in-Err-clause-merged
returns-in-Err-clause-merged g c = λ i m sound is says.
    let borrowed = push_pull_said c.in-Some.state in
    let same : borrowed ≡ m = same-push_pull borrowed m (sym c.in-Some.ensures.some ∙ says) in
    let heard = c.in_ok-hear.ensures.heard i sound is in
    let r = c.in-Err.ensures.received (ended i (hear i borrowed c.args.is_join) Kept).agent heard.sound heard.state in
    subst (λ (q : PushPull). Merges i q c.args.is_join c.args.out.now.items c.receive_slots.new.out.items c.args.self.now.device c.receive_slots.new.self (Some c.in-Err.error)) same
    (merges-wrong i borrowed c.args.is_join c.args.out.now.items c.receive_slots.new.out.items c.args.self.now.device c.hear.new.self c.receive_slots.new.self c.in-Err.error heard r)
