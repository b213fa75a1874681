use Rattle.serf_wire.proofs.Names.{arith, length, map, replicate, rules, sym, ◌+◌, ◌-◌, ◌<◌, ◌∙◌, ◌≡◌, ◌≤◌, length-map, length-replicate, slice_get_past, slot_in_memory, slots_borrowed, unused_slot}
use Rattle.std.proofs.lemmas.List.{length-append}
use Rattle.serf_wire.proofs.Unused.{get_after}
use Rattle.serf_wire.proofs.borrowed_slots.BorrowedSlots.get.Goals as goal

pub returns-in-None : goal.returns-in-None
returns-in-None g c =
    let past : length c.args.self.now.used.now ≤ c.args.index = search rules in
    let within : c.args.index - length c.args.self.now.used.now < c.args.self.now.unused = omega arith in
    rw c.unused.ensures (sym (get_after slot_in_memory c.args.self.now.used.now c.args.self.now.unused c.args.index unused_slot past within))

pub returns-in-None-2 : goal.returns-in-None-2
returns-in-None-2 g c =
    let past : length c.args.self.now.used.now ≤ c.args.index = search rules in
    let size : length (map slot_in_memory (slots_borrowed c.args.self.now)) ≡ length c.args.self.now.used.now + c.args.self.now.unused =
    length-map (slots_borrowed c.args.self.now) slot_in_memory ∙ omega (arith, length-append c.args.self.now.used.now (replicate c.args.self.now.unused unused_slot), length-replicate c.args.self.now.unused (unused_slot {K = g.row.T.Denot})) in
    sym (slice_get_past (map slot_in_memory (slots_borrowed c.args.self.now)) c.args.index (omega arith))
