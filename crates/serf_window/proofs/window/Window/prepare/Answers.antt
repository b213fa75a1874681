use Rattle.serf_window.proofs.Names.{ap, arith, get_or, length, map, refl, rules, set, subst, sym, ◌%◌, ◌<◌, ◌∙◌, ◌≡◌, ◌≤◌, get_or_read, err_from_is_err_and, unused_slot, all_slots, slot_view, EachAtMost, room_for}
use Rattle.serf_window.proofs.AllSlots.{room_for-kept, room_for-made, room_for-own, room_for-past, room_for-same, shown, slots-roomier}
use Rattle.serf_window.proofs.window.Window.prepare.Goals as goal

-- the slots are unchanged
unchanged : (g : _) (c : goal.In_ok-make_room g) → map slot_view (all_slots c.self.inside.slot_count (set c.reach.new.slots.items c.place_of-place.result (record { time = c.index_mut-slot.result.now.time; held = c.make_room.new.self }))) ≡ map slot_view (all_slots c.self.inside.slot_count c.self.inside.made.items)
unchanged g c =
    let within : c.place_of-place.result < length c.reach.new.slots.items = omega (arith, c.in_ok-reach.ensures.there) in
    slots-roomier c.self.inside.slot_count c.place_of-place.result c.self.inside.made.items c.reach.new.slots.items c.index_mut-slot.result.now (record { time = c.index_mut-slot.result.now.time; held = c.make_room.new.self }) c.reach.ensures.same within c.index_mut-slot.ensures.value (rw c.make_room.ensures.items refl)

pub returns-clause-slots : goal.returns-clause-slots
returns-clause-slots g c = rw (← c.self.view_is) (unchanged g c)

pub returns-clause-room : goal.returns-clause-room
returns-clause-room g c =
    let le : length c.reach.new.slots.items ≤ c.self.inside.slot_count = omega arith in
    let within : c.place_of-place.result < length c.reach.new.slots.items = omega (arith, c.in_ok-reach.ensures.there) in
    let place : c.place_of-place.result ≡ c.args.time % c.self.inside.slot_count = search rules in
    let room : 0 < c.make_room.new.self.room = search rules in
    room_for-own c.self.inside.slot_count c.self.inside.per_time c.place_of-place.result c.args.time c.reach.new.slots.items (record { time = c.index_mut-slot.result.now.time; held = c.make_room.new.self }) le within place room

pub returns-clause-others : goal.returns-clause-others
returns-clause-others g c =
    let le : length c.reach.new.slots.items ≤ c.self.inside.slot_count = omega arith in
    let within : c.place_of-place.result < length c.reach.new.slots.items = omega (arith, c.in_ok-reach.ensures.there) in
    let room : 0 < c.make_room.new.self.room = search rules in
    rw (← c.self.view_is) (λ t before. room_for-kept c.self.inside.slot_count c.self.inside.per_time c.place_of-place.result t c.self.inside.made.items c.reach.new.slots.items (record { time = c.index_mut-slot.result.now.time; held = c.make_room.new.self }) c.reach.ensures.same le within room before)

pub invariant_of-self-2 : goal.invariant_of-self-2
invariant_of-self-2 g c =
    let is = c.self.invariant.0 in (
      record {
        some_slot = is.some_slot;
        max_slots = is.max_slots;
        some_of_time = is.some_of_time;
        max_of_time = is.max_of_time;
        each = subst (EachAtMost c.self.inside.per_time) (sym (unchanged g c)) is.each;
      },
      c.reach.ensures.size,
    )

pub returns-in_err-reach-clause-full : goal.returns-in_err-reach-clause-full
returns-in_err-reach-clause-full g c =
    let le : length c.self.inside.made.items ≤ c.self.inside.slot_count = omega (arith, c.self.invariant.1) in
    let below : c.place_of-place.result < c.self.inside.slot_count = omega arith in
    let place : c.place_of-place.result ≡ c.args.time % c.self.inside.slot_count = search rules in
    let past : length c.self.inside.made.items ≤ c.place_of-place.result = omega (arith, c.in_err-reach.ensures.full) in
    let none = room_for-past c.self.inside.slot_count c.self.inside.per_time c.place_of-place.result c.args.time c.self.inside.made.items le below place past in
    let p = err_from_is_err_and c.from_residual-in_err-reach.result c.from_residual-in_err-reach.ensures.1 in
    rw (p.1, ← c.self.view_is) (λ _. none)

pub returns-in_err-make_room-clause-full : goal.returns-in_err-make_room-clause-full
returns-in_err-make_room-clause-full g c =
    let le : length c.reach.new.slots.items ≤ c.self.inside.slot_count = omega arith in
    let within : c.place_of-place.result < length c.reach.new.slots.items = omega (arith, c.in_ok-reach.ensures.there) in
    let below : c.place_of-place.result < c.self.inside.slot_count = omega arith in
    let place : c.place_of-place.result ≡ c.args.time % c.self.inside.slot_count = search rules in
    let full : c.index_mut-slot.result.now.held.room ≡ 0 = c.in_err-make_room.ensures.full in
    let read : c.index_mut-slot.result.now ≡ get_or c.reach.new.slots.items c.place_of-place.result unused_slot = get_or_read c.reach.new.slots.items c.place_of-place.result c.index_mut-slot.result.now within c.index_mut-slot.ensures.value unused_slot in
    let now : room_for (shown c.self.inside.slot_count c.self.inside.per_time c.reach.new.slots.items) c.args.time ≡ 0 =
    room_for-made c.self.inside.slot_count c.self.inside.per_time c.place_of-place.result c.args.time c.reach.new.slots.items le below place ∙ ap (λ s. s.held.room) (sym read) ∙ full in
    let none = sym (room_for-same c.self.inside.slot_count c.self.inside.per_time c.args.time c.self.inside.made.items c.reach.new.slots.items c.reach.ensures.same) ∙ now in
    let p = err_from_is_err_and c.from_residual-in_err-make_room.result c.from_residual-in_err-make_room.ensures.1 in
    rw (p.1, ← c.self.view_is) (λ _. none)
