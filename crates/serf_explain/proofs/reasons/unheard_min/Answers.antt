use Rattle.serf_explain.proofs.Names.{Some, ap, false, sym, true, ◌∙◌, ◌≡◌, option_map, message_of, packet_given, Act, state_event_clock, unheard_min, message_given}
use Rattle.serf_model.specs.declared.action.Act.TheVariants as acts
use Rattle.serf_explain.proofs.ReasonLaws.{unheard_is}
use Rattle.serf_explain.proofs.reasons.unheard_min.Goals as goal

pub returns-then-not-hears_nothing : goal.returns-then-not-hears_nothing
returns-then-not-hears_nothing c =
    let said = message_given (packet_given c.args.context.now.world.now.sent c.args.context.now.action.now) in
    let s = c.args.actor.now.agent.now.concrete in
    let act : c.args.actor.now.act.now ≡ acts.Merge c.in-Merge.packet c.in-Merge.join = c.in-Merge.is in
    unheard_is s c.args.actor.now.before.durable c.in-Merge.packet c.in-Merge.join false said (λ p. sym c.if-not-hears_nothing.true ∙ c.hears_nothing.ensures p)
    ∙ sym (ap (λ (a : Act). unheard_min s c.args.actor.now.before.durable a said) act)

pub returns-in-Some : goal.returns-in-Some
returns-in-Some c =
    let said = message_given (packet_given c.args.context.now.world.now.sent c.args.context.now.action.now) in
    let s = c.args.actor.now.agent.now.concrete in
    let act : c.args.actor.now.act.now ≡ acts.Merge c.in-Merge.packet c.in-Merge.join = c.in-Merge.is in
    let given : Some (message_of c.in-Some.message) ≡ said = sym (ap (λ o. option_map message_of o) c.in-Some.is) ∙ c.message_of.ensures in
    c.state_event_clock.ensures ∙ ap state_event_clock given
    ∙ unheard_is s c.args.actor.now.before.durable c.in-Merge.packet c.in-Merge.join true said (λ p. sym c.if-not-hears_nothing.false ∙ c.hears_nothing.ensures p)
    ∙ sym (ap (λ (a : Act). unheard_min s c.args.actor.now.before.durable a said) act)
