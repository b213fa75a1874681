use Rattle.serf_window.proofs.Names.{arith, length, map, ◌∙◌, ◌≡◌, length-map, all_slots, slot_view}
use Rattle.serf_window.proofs.AllSlots.{all_slots-held, length-all_slots}
use Rattle.serf_window.proofs.WindowLemmas.{held_count-le, held_count-maximum}
use Rattle.serf_window.proofs.window.Window.held.Goals as goal

pub count_held-requires : goal.count_held-requires
count_held-requires g c =
    let all = map slot_view (all_slots c.self.inside.slot_count c.self.inside.made.items) in
    let size : length (map slot_view (all_slots c.self.inside.slot_count c.self.inside.made.items)) ≡ c.self.inside.slot_count =
    length-map (all_slots c.self.inside.slot_count c.self.inside.made.items) slot_view ∙ length-all_slots c.self.inside.slot_count c.self.inside.made.items (omega (arith, c.self.invariant.1)) in
    let maximum = held_count-maximum c.self.inside.slot_count c.self.inside.per_time all c.self.invariant.0 size in
    rw (c.as_slice.ensures.value, all_slots-held c.self.inside.slot_count c.self.inside.made.items) (omega (arith, maximum))

pub returns-clause-count : goal.returns-clause-count
returns-clause-count g c = rw (← c.self.view_is, ← all_slots-held c.self.inside.slot_count c.self.inside.made.items, ← c.as_slice.ensures.value) c.count_held.ensures

pub returns-clause-bound : goal.returns-clause-bound
returns-clause-bound g c =
    let all = map slot_view (all_slots c.self.inside.slot_count c.self.inside.made.items) in
    let size : length (map slot_view (all_slots c.self.inside.slot_count c.self.inside.made.items)) ≡ c.self.inside.slot_count =
    length-map (all_slots c.self.inside.slot_count c.self.inside.made.items) slot_view ∙ length-all_slots c.self.inside.slot_count c.self.inside.made.items (omega (arith, c.self.invariant.1)) in
    let maximum = held_count-le c.self.inside.slot_count c.self.inside.per_time all c.self.invariant.0 size in
    rw (← c.self.view_is, size, c.count_held.ensures, c.as_slice.ensures.value, all_slots-held c.self.inside.slot_count c.self.inside.made.items) maximum
