use Rattle.serf_explain.proofs.Names.{[], subst, sym, event_of_view, slot_of_view, SlotView, events_of_slot, SlotEntry, slot_entries, HasJudged}
use Rattle.serf_explain.proofs.CarriedLaws.{judged-one}
use Rattle.serf_explain.proofs.merge_reasons.add_slot.Goals as goal

pub returns-in_ok-add_event-in-Single : goal.returns-in_ok-add_event-in-Single
returns-in_ok-add_event-in-Single c = λ k i j m h.
    let n = c.args.merging.now.number in
    let old = c.args.lines.now.text.items in
    let new = c.add_event.new.lines.text.items in
    let judge = c.add_event.new.judge in
    let p : SlotEntry = record { slot = c.args.slot; entry = record { time = c.in-Single.time; key = event_of_view c.in-Single.event } } in
    let told = c.in_ok-add_event-in-Single.ensures in
    subst (λ (s : SlotView). HasJudged k n i j (slot_entries c.args.slot (events_of_slot (slot_of_view s))) [] old new judge) (sym c.in-Single.is) (judged-one k n i j p old new judge (told.lines k i j m h) (told.judging k i j m h))
