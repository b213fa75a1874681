use Rattle.serf_explain.proofs.Names.{List, [], subst, sym, SlotContent, slot_entries_from, heard, HasJudged}
use Rattle.serf_explain.proofs.CarriedLaws.{adds_state}
use Rattle.serf_explain.proofs.merge_reasons.add_carried_lines.Goals as goal

pub returns : goal.returns
returns c = λ k i m g clock slots.
    let n = c.args.merging.now.number in
    let j = heard m c.args.is_join i in
    let old = c.args.lines.now.text.items in
    let new = c.add_slots.new.lines.text.items in
    let judge = c.add_slots.new.judge in
    let judged = c.in_ok-add_slots.ensures k i j g (c.in_ok-judge.ensures i m g.sound g.agent_is clock) in
    adds_state k n i j (slot_entries_from 0 m.slots) old new judge c.raised-lines.result
    (subst (λ (s : List SlotContent). HasJudged k n i j (slot_entries_from 0 s) [] old new judge) (sym slots) judged)
    (λ m is. c.raised-lines.ensures i m g.agent_is is)
