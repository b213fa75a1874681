use Rattle.serf_explain.proofs.Names.{List, ap, subst, sym, ℕ, slot_of_view, slots_left, SlotContent, SlotViews, events_of_slot, SlotEntry, after_events, next_slot, slot_entries, slot_entries_from, HasJudged}
use Rattle.serf_explain.proofs.CarriedLaws.{judged-agent, judged-lines, judged-more, judged-start}
use Rattle.serf_explain.proofs.merge_reasons.add_slots.Goals as goal

pub loop-content-init : goal.loop-content-init
loop-content-init c = λ k i j m h.
    let all = slot_entries_from 0 (slots_left c.args.slots) in
    let lines = c.args.lines.now.text.items in
    subst (λ (it : SlotViews). HasJudged k c.args.merging.now.number i j all (slot_entries_from 0 (slots_left it)) lines lines c.args.judge.now) (sym c.into_iter-content-iterator.ensures.into_iter_gives)
    (judged-start k c.args.merging.now.number i j all lines c.args.judge.now h)

pub returns : goal.returns
returns c = λ k i j m h.
    subst (λ (l : List SlotContent). HasJudged k c.args.merging.now.number i j (slot_entries_from 0 (slots_left c.args.slots)) (slot_entries_from c.loop-content.slot l) c.args.lines.now.text.items c.loop-content.lines.text.items c.loop-content.judge)
    c.in-None.ensures.steps.0 (c.loop-content.invariant k i j m h)

pub loop-content-preserved : goal.loop-content-preserved
loop-content-preserved c = λ k i j m h.
    let n = c.args.merging.now.number in
    let slot = c.loop-content.slot in
    let all = slot_entries_from 0 (slots_left c.args.slots) in
    let old = c.args.lines.now.text.items in
    let mid = c.loop-content.lines.text.items in
    let new = c.add_slot.new.lines.text.items in
    let part : List SlotEntry = slot_entries slot (events_of_slot (slot_of_view c.in-Some.content)) in
    let rest : List SlotContent = slots_left c.next.new.self in
    let has = subst (λ (l : List SlotEntry). HasJudged k n i j all l old mid c.loop-content.judge) (ap (λ (l : List SlotContent). slot_entries_from slot l) c.in-Some.ensures.steps) (c.loop-content.invariant k i j m h) in
    let now = after_events has.done j in
    let told = c.in_ok-add_slot.ensures k i now m has.judging in
    subst (λ (x : ℕ). HasJudged k n i j all (slot_entries_from x rest) old new c.add_slot.new.judge) (sym c.saturating_add-slot.ensures)
    (judged-more k n i j all part (slot_entries_from (next_slot slot) rest) old mid new c.loop-content.judge c.add_slot.new.judge has
    (judged-lines k n i now part mid new c.add_slot.new.judge told) (judged-agent k n i now part mid new c.add_slot.new.judge told))
