use Rattle.serf_judge.proofs.Names.{ap, arith, nat_le, sym, ℕ, ◌<◌, ◌∙◌, ◌≤◌, le-leb, lt-leb, common_steps, says}
use Rattle.serf_judge.proofs.LaterLaws.{is-later, is-not-later, records-say}
use Rattle.serf_judge.proofs.later.event_not_before.Goals as goal

pub returns-then-time-firing : goal.returns-then-time-firing
returns-then-time-firing c = λ n h cut.
    let events = c.args.events.now in
    let f = c.args.firing.now in
    let recorded : ℕ = c.in-Some.recorded.now in
    let lt : recorded < f.time = grind (arith, common_steps) in
    is-later events f (sym (records-say events n f c.as_slice.result _ c.as_slice.ensures.value h cut f.time) ∙ ap (λ o. says (λ recorded t. nat_le t recorded) o f.time) (sym c.in-Some.ensures.value) ∙ lt-leb f.time recorded lt)

pub returns-else-time-firing : goal.returns-else-time-firing
returns-else-time-firing c = λ n h cut.
    let events = c.args.events.now in
    let f = c.args.firing.now in
    let recorded : ℕ = c.in-Some.recorded.now in
    let le : f.time ≤ recorded = grind (arith, common_steps) in
    rw c.first_at_or_after.ensures
    (is-not-later events f recorded le (sym (records-say events n f c.as_slice.result _ c.as_slice.ensures.value h cut recorded) ∙ ap (λ o. says (λ recorded t. nat_le t recorded) o recorded) (sym c.in-Some.ensures.value) ∙ le-leb recorded recorded (omega arith)))

pub returns-in-None : goal.returns-in-None
returns-in-None c = λ n h cut.
    let events = c.args.events.now in
    let f = c.args.firing.now in
    is-later events f (sym (records-say events n f c.as_slice.result _ c.as_slice.ensures.value h cut f.time) ∙ ap (λ o. says (λ recorded t. nat_le t recorded) o f.time) (sym c.in-None.ensures.value))
