use Rattle.serf_explain.proofs.Names.{Bool, ap, subst, sym, true, ◌++◌, ◌∙◌, on_ok_weaker, action_text, AddsTurn, TellsAll}
use Rattle.serf_explain.proofs.TellLaws.{lines-added, nothing-added}
use Rattle.serf_explain.proofs.reasoning.write_turn.Goals as goal

pub returns-then-not-is_shown : goal.returns-then-not-is_shown
returns-then-not-is_shown c = λ carried lines.
    let context = c.args.context.now in
    subst (λ (b : Bool). AddsTurn (TellsAll b context.raised carried context.past.now context.number context.world.now context.action.now context.line.now) b context.world.now.sent context.number context.line.now c.args.out.now.items c.args.out.now.items) (sym c.if-not-is_shown.true)
    (nothing-added context.raised carried context.past.now context.world.now context.action.now context.number context.line.now c.args.out.now.items)

pub returns : goal.returns
returns c = λ carried lines.
    let context = c.args.context.now in
    let sent = context.world.now.sent in
    let old = c.args.out.now.items in
    on_ok_weaker c.write_reasons.result
    (λ h. subst (λ (b : Bool). AddsTurn (TellsAll b context.raised carried context.past.now context.number context.world.now context.action.now context.line.now) b sent context.number context.line.now old c.write_reasons.new.out.items) (sym c.if-not-is_shown.false)
    (lines-added (TellsAll true context.raised carried context.past.now context.number context.world.now context.action.now context.line.now) sent context.number context.line.now old c.write_action.new.out.items c.write_reasons.new.out.items
    (c.in_ok-write_action.ensures ∙ ap (λ s. old ++ action_text s context.number context.line.now) c.sent.ensures) h))
    (c.write_reasons.ensures carried lines)
