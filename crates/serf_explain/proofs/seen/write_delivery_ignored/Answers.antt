use Rattle.serf_explain.proofs.Names.{ap, sym, ◌∙◌, on_ok_weaker, option_map, delivered_as}
use Rattle.serf_explain.proofs.LeftLaws.{adds_delivered, adds_other}
use Rattle.serf_explain.proofs.seen.write_delivery_ignored.Goals as goal

pub returns-in-Some : goal.returns-in-Some
returns-in-Some c =
    let context = c.args.context.now in
    on_ok_weaker c.write_delivered.result
    (λ h. adds_delivered c.args.reason context.past.now context.number context.world.now context.action.now c.in-Some.of c.args.out.now.items c.write_delivered.new.out.items
    (ap (λ o. option_map delivered_as o) (sym c.in-Some.is) ∙ c.seen_event.ensures) h)
    c.write_delivered.ensures

pub returns-in-None : goal.returns-in-None
returns-in-None c =
    let context = c.args.context.now in
    on_ok_weaker c.write_lone.result
    (λ h. adds_other c.args.reason context.past.now context.number context.world.now context.action.now c.args.out.now.items c.write_lone.new.out.items
    (ap (λ o. option_map delivered_as o) (sym c.in-None.is) ∙ c.seen_event.ensures) h)
    c.write_lone.ensures
