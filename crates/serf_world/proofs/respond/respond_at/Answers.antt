use Rattle.serf_world.proofs.Names.{List, None, Option, ap, arith, length, subst, sym, ◌<◌, ◌∙◌, ◌≡◌, ◌≤◌, slice_get, DeliveredQuery, responds, NoQuery, TakesTurn, NodeState}
use Rattle.serf_world.proofs.TurnLaws.{past-none, refuses, responds-there}
use Rattle.serf_world.proofs.respond.respond_at.Goals as goal

pub returns-then-slot-len-clause-turn : goal.returns-then-slot-len-clause-turn
returns-then-slot-len-clause-turn c = λ m is.
    let past : length c.node.inside.handed.items ≤ c.args.handed = omega arith in
    let none : slice_get m.handed c.args.handed ≡ None = subst (λ (l : List (Option DeliveredQuery)). slice_get l c.args.handed ≡ None) (ap (λ (s : NodeState). s.handed) (c.node.view_is ∙ is)) (past-none c.node.inside.handed.items c.args.handed past) in
    subst (λ (o : Option (Option DeliveredQuery)). TakesTurn c.args.number c.args.sent.now.items c.args.sent.now.items (responds m c.args.handed o c.args.now c.args.payload.now) c.args.node.now c.refused.result) (sym none)
    (refuses m c.args.node.now NoQuery c.args.number c.args.sent.now.items c.refused.result is c.refused.ensures)

pub returns-clause-turn : goal.returns-clause-turn
returns-clause-turn c = λ m is.
    let within : c.args.handed < length c.node.inside.handed.items = omega arith in
    responds-there m c.args.handed c.args.now c.args.payload.now c.index_mut.result.now c.respond_in.new.slot (record { concrete = c.node.inside.agent.concrete; handed = c.node.inside.handed.items }) c.args.number c.args.sent.now.items c.respond_in.new.sent.items c.in_ok-line.line
    (c.node.view_is ∙ is) within c.index_mut.ensures.value (λ handed. c.in_ok-line.ensures.shows c.args.number handed) c.in_ok-line.ensures.slot
