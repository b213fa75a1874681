use Rattle.serf_window.proofs.Names.{ap, arith, get_or, length, map, refl, rules, set, subst, sym, ◌%◌, ◌<◌, ◌∙◌, ◌≡◌, ◌≤◌, get_or_read, length-map, unused_slot, all_slots, slot_view, EachAtMost, room_for, slots_after, time_in}
use Rattle.serf_window.proofs.AllSlots.{is_made, length-all_slots, room_for-made, room_for-other, shown, slot_for-made, slots_after-made}
use Rattle.serf_window.proofs.WindowLemmas.{EachAtMost-after, TimesBelow-after, slots_after-entered}
use Rattle.serf_window.proofs.window.Window.insert_new.Goals as goal

pub index_mut-requires : goal.index_mut-requires
index_mut-requires g c =
    let le : length c.self.inside.made.items ≤ c.self.inside.slot_count = omega (arith, c.self.invariant.1) in
    let below : c.place_of-place.result < c.self.inside.slot_count = omega arith in
    let place : c.place_of-place.result ≡ c.entry.inside.time % c.self.inside.slot_count = search rules in
    let some : 0 < room_for (shown c.self.inside.slot_count c.self.inside.per_time c.self.inside.made.items) c.entry.inside.time = rw (← c.self.view_is, ← c.entry.view_is) at c.requires.room in
    let within : c.place_of-place.result < length c.self.inside.made.items = is_made c.self.inside.slot_count c.self.inside.per_time c.place_of-place.result c.entry.inside.time c.self.inside.made.items le below place some in
    omega arith

-- the slot that is written, and its place
slot_is : (g : _) (c : goal.After-index_mut g) → c.index_mut.result.now ≡ get_or c.self.inside.made.items c.place_of-place.result unused_slot
slot_is g c =
    let le : length c.self.inside.made.items ≤ c.self.inside.slot_count = omega (arith, c.self.invariant.1) in
    let below : c.place_of-place.result < c.self.inside.slot_count = omega arith in
    let place : c.place_of-place.result ≡ c.entry.inside.time % c.self.inside.slot_count = search rules in
    let some : 0 < room_for (shown c.self.inside.slot_count c.self.inside.per_time c.self.inside.made.items) c.entry.inside.time = rw (← c.self.view_is, ← c.entry.view_is) at c.requires.room in
    let within : c.place_of-place.result < length c.self.inside.made.items = is_made c.self.inside.slot_count c.self.inside.per_time c.place_of-place.result c.entry.inside.time c.self.inside.made.items le below place some in
    get_or_read c.self.inside.made.items c.place_of-place.result c.index_mut.result.now within c.index_mut.ensures.value unused_slot

pub accept-requires-clause-room : goal.accept-requires-clause-room
accept-requires-clause-room g c =
    let le : length c.self.inside.made.items ≤ c.self.inside.slot_count = omega (arith, c.self.invariant.1) in
    let within : c.place_of-place.result < c.self.inside.slot_count = omega arith in
    let place : c.place_of-place.result ≡ c.entry.inside.time % c.self.inside.slot_count = search rules in
    let some : 0 < room_for (shown c.self.inside.slot_count c.self.inside.per_time c.self.inside.made.items) c.entry.inside.time = rw (← c.self.view_is, ← c.entry.view_is) at c.requires.room in
    let room = room_for-made c.self.inside.slot_count c.self.inside.per_time c.place_of-place.result c.entry.inside.time c.self.inside.made.items le within place in
    rw (slot_is g c) (subst (λ r. 0 < r) room some)

pub accept-requires-clause-not_later : goal.accept-requires-clause-not_later
accept-requires-clause-not_later g c =
    let le : length c.self.inside.made.items ≤ c.self.inside.slot_count = omega (arith, c.self.invariant.1) in
    let within : c.place_of-place.result < c.self.inside.slot_count = omega arith in
    let place : c.place_of-place.result ≡ c.entry.inside.time % c.self.inside.slot_count = search rules in
    let early : time_in (map slot_view (all_slots c.self.inside.slot_count c.self.inside.made.items)) c.entry.inside.time ≤ c.entry.inside.time = rw (← c.self.view_is, ← c.entry.view_is) at c.requires.not_later in
    let mine = slot_for-made c.self.inside.slot_count c.place_of-place.result c.entry.inside.time c.self.inside.made.items le within place in
    rw (slot_is g c) (subst (λ s. s.time ≤ c.entry.inside.time) mine early)

-- the slots after the write
entered : (g : _) (c : goal.After-self-1 g) → map slot_view (all_slots c.self.inside.slot_count (set c.self.inside.made.items c.place_of-place.result c.accept.new.slot)) ≡ slots_after (map slot_view (all_slots c.self.inside.slot_count c.self.inside.made.items)) (record { time = c.entry.inside.time; key = c.entry.inside.key })
entered g c =
    let le : length c.self.inside.made.items ≤ c.self.inside.slot_count = omega (arith, c.self.invariant.1) in
    let below : c.place_of-place.result < c.self.inside.slot_count = omega arith in
    let place : c.place_of-place.result ≡ c.entry.inside.time % c.self.inside.slot_count = search rules in
    let some : 0 < room_for (shown c.self.inside.slot_count c.self.inside.per_time c.self.inside.made.items) c.entry.inside.time = rw (← c.self.view_is, ← c.entry.view_is) at c.requires.room in
    let within : c.place_of-place.result < length c.self.inside.made.items = is_made c.self.inside.slot_count c.self.inside.per_time c.place_of-place.result c.entry.inside.time c.self.inside.made.items le below place some in
    slots_after-made c.self.inside.slot_count c.place_of-place.result (record { time = c.entry.inside.time; key = c.entry.inside.key }) c.self.inside.made.items c.index_mut.result.now c.accept.new.slot le within place c.index_mut.ensures.value c.accept.ensures

-- how many slots there are
size : (g : _) (c : goal.After-self-1 g) → length (map slot_view (all_slots c.self.inside.slot_count c.self.inside.made.items)) ≡ c.self.inside.slot_count
size g c = length-map (all_slots c.self.inside.slot_count c.self.inside.made.items) slot_view ∙ length-all_slots c.self.inside.slot_count c.self.inside.made.items (omega (arith, c.self.invariant.1))

pub returns-clause-after : goal.returns-clause-after
returns-clause-after g c = rw (← c.self.view_is, ← c.entry.view_is) (entered g c)

pub returns-clause-slots : goal.returns-clause-slots
returns-clause-slots g c =
    let all = map slot_view (all_slots c.self.inside.slot_count c.self.inside.made.items) in
    let count = size g c in
    let pos : 0 < length (map slot_view (all_slots c.self.inside.slot_count c.self.inside.made.items)) = omega (arith, c.self.invariant.0.some_slot) in
    let not_later = rw (← c.self.view_is, ← c.entry.view_is) at c.requires.not_later in
    rw (← c.self.view_is, ← c.entry.view_is) (λ es is.
    entered g c ∙ slots_after-entered (length all) all (record { time = c.entry.inside.time; key = c.entry.inside.key }) es refl pos is not_later)

pub returns-clause-below : goal.returns-clause-below
returns-clause-below g c = rw (← c.self.view_is, ← c.entry.view_is) (λ clock low below.
    rw (entered g c) (TimesBelow-after clock (map slot_view (all_slots c.self.inside.slot_count c.self.inside.made.items)) (record { time = c.entry.inside.time; key = c.entry.inside.key }) low below))

pub returns-clause-others : goal.returns-clause-others
returns-clause-others g c =
    let le : length c.self.inside.made.items ≤ c.self.inside.slot_count = omega (arith, c.self.invariant.1) in
    let below : c.place_of-place.result < c.self.inside.slot_count = omega arith in
    let place : c.place_of-place.result ≡ c.entry.inside.time % c.self.inside.slot_count = search rules in
    let some : 0 < room_for (shown c.self.inside.slot_count c.self.inside.per_time c.self.inside.made.items) c.entry.inside.time = rw (← c.self.view_is, ← c.entry.view_is) at c.requires.room in
    let within : c.place_of-place.result < length c.self.inside.made.items = is_made c.self.inside.slot_count c.self.inside.per_time c.place_of-place.result c.entry.inside.time c.self.inside.made.items le below place some in
    let count = size g c in
    rw (← c.self.view_is, ← c.entry.view_is) (λ t other.
    room_for-other c.self.inside.slot_count c.self.inside.per_time c.place_of-place.result t c.self.inside.made.items c.accept.new.slot le within
    (λ q. other (ap (λ m. t % m) count ∙ q ∙ place ∙ ap (λ m. c.entry.inside.time % m) (sym count))))

pub invariant_of-self : goal.invariant_of-self
invariant_of-self g c =
    let free = rw (← c.self.view_is, ← c.entry.view_is) at c.requires.not_full in
    let is = c.self.invariant.0 in (
      record {
        some_slot = is.some_slot;
        max_slots = is.max_slots;
        some_of_time = is.some_of_time;
        max_of_time = is.max_of_time;
        each = subst (EachAtMost c.self.inside.per_time) (sym (entered g c)) (EachAtMost-after c.self.inside.per_time (map slot_view (all_slots c.self.inside.slot_count c.self.inside.made.items)) (record { time = c.entry.inside.time; key = c.entry.inside.key }) free is.each);
      },
      c.self.invariant.1,
    )
