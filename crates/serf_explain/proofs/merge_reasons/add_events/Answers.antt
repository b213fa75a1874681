use Rattle.serf_explain.proofs.Names.{List, [], ap, subst, sym, ◌∷◌, event_of_view, events_left, EventViews, EventBody, at_time, SlotEntry, after_events, slot_entries, HasJudged}
use Rattle.serf_explain.proofs.CarriedLaws.{judged-more, judged-start}
use Rattle.serf_explain.proofs.merge_reasons.add_events.Goals as goal

pub loop-event-init : goal.loop-event-init
loop-event-init c = λ k i j m h.
    let all = slot_entries c.args.slot (at_time c.args.time (events_left c.args.events)) in
    let lines = c.args.lines.now.text.items in
    subst (λ (it : EventViews). HasJudged k c.args.merging.now.number i j all (slot_entries c.args.slot (at_time c.args.time (events_left it))) lines lines c.args.judge.now) (sym c.into_iter-event-iterator.ensures.into_iter_gives)
    (judged-start k c.args.merging.now.number i j all lines c.args.judge.now h)

pub loop-event-preserved : goal.loop-event-preserved
loop-event-preserved c = λ k i j m h.
    let slot = c.args.slot in
    let n = c.args.merging.now.number in
    let all = slot_entries slot (at_time c.args.time (events_left c.args.events)) in
    let old = c.args.lines.now.text.items in
    let mid = c.loop-event.lines.text.items in
    let part : List SlotEntry = record { slot = slot; entry = record { time = c.args.time; key = event_of_view c.in-Some.event } } ∷ [] in
    let has = subst (λ (l : List SlotEntry). HasJudged k n i j all l old mid c.loop-event.judge) (ap (λ (l : List EventBody). slot_entries slot (at_time c.args.time l)) c.in-Some.ensures.steps) (c.loop-event.invariant k i j m h) in
    let now = after_events has.done j in
    judged-more k n i j all part (slot_entries slot (at_time c.args.time (events_left c.next.new.self))) old mid c.add_event.new.lines.text.items c.loop-event.judge c.add_event.new.judge has
    (c.in_ok-add_event.ensures.lines k i now m has.judging) (c.in_ok-add_event.ensures.judging k i now m has.judging)

pub returns : goal.returns
returns c = λ k i j m h.
    let slot = c.args.slot in
    subst (λ (l : List EventBody). HasJudged k c.args.merging.now.number i j (slot_entries slot (at_time c.args.time (events_left c.args.events))) (slot_entries slot (at_time c.args.time l)) c.args.lines.now.text.items c.loop-event.lines.text.items c.loop-event.judge)
    c.in-None.ensures.steps.0 (c.loop-event.invariant k i j m h)
