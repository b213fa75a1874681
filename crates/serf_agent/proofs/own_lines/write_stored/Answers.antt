use Rattle.serf_agent.proofs.Names.{List, OnOk, ap, append_assoc, subst, ℕ, ◌++◌, ◌∙◌, flat_map, slots_borrowed, slots_to_come, min_line, ClockKind, SlotOf, held_from, min_written, lines_of_slot, lines_written}
use Rattle.serf_agent.proofs.WrittenLines.{slot-lines}
use Rattle.serf_agent.proofs.own_lines.write_stored.Goals as goal

pub returns : goal.returns
returns g c before has =
    let line = g.K.Written.line in
    let kind = c.KIND.result in
    let lowest = c.min_written-lowest.result in
    let told = min_written c.args.slot_count c.args.last c.args.track.now.minimum in
    let slots = c.slots.result in
    let more = flat_map (lines_of_slot line lowest) (slots_to_come slots) in
    let all = append_assoc before (min_line kind lowest) more
    ∙ ap (λ (l : List ℕ). before ++ (min_line kind lowest ++ l)) (slot-lines line lowest (slots_borrowed slots) ∙ ap (λ (ss : List (SlotOf _)). lines_written line (held_from lowest ss)) c.slots.ensures)
    ∙ ap (λ (n : ℕ). before ++ (min_line kind n ++ lines_written line (held_from n c.args.track.now.window.slots))) c.min_written-lowest.ensures
    ∙ ap (λ (k : ClockKind). before ++ (min_line k told ++ lines_written line (held_from told c.args.track.now.window.slots))) c.KIND.ensures in
    subst (λ (l : List ℕ). OnOk c.write_slots.result (g.O.LineOutput.has c.write_slots.new.output l)) all (c.write_slots.ensures (before ++ min_line kind lowest) (c.in_ok-append_min_line.ensures before has))
