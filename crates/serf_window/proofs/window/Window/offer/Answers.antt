use Rattle.serf_window.proofs.Names.{ap, arith, get_or, length, map, refl, rules, subst, sym, ◌%◌, ◌+◌, ◌<◌, ◌∙◌, ◌≡◌, ◌≤◌, length-map, unused_slot, slot_verdict, all_slots, slot_view, held_of, slot_for}
use Rattle.serf_window.proofs.AllSlots.{length-all_slots, slot_for-made}
use Rattle.serf_window.proofs.WindowLemmas.{slot_verdict-entered, slot_verdict-new}
use Rattle.serf_window.proofs.window.Window.offer.Goals as goal

-- the slot of the time of the offer
mine : (g : _) (c : goal.After-verdict_at g) → slot_for (map slot_view (all_slots c.self.inside.slot_count c.self.inside.made.items)) c.args.time ≡ slot_view (get_or c.as_slice.result.now c.place_of-place.result unused_slot)
mine g c =
    let le : length c.self.inside.made.items ≤ c.self.inside.slot_count = omega (arith, c.self.invariant.1) in
    let within : c.place_of-place.result < c.self.inside.slot_count = omega arith in
    let place : c.place_of-place.result ≡ c.args.time % c.self.inside.slot_count = search rules in
    slot_for-made c.self.inside.slot_count c.place_of-place.result c.args.time c.self.inside.made.items le within place
    ∙ ap (λ made. slot_view (get_or made c.place_of-place.result unused_slot)) (sym c.as_slice.ensures.value)

pub returns-clause-verdict : goal.returns-clause-verdict
returns-clause-verdict g c =
    let all = map slot_view (all_slots c.self.inside.slot_count c.self.inside.made.items) in
    let per_time = c.self.inside.per_time in
    let key = g.L.BorrowedKey.key c.args.key.now in
    let size : length (map slot_view (all_slots c.self.inside.slot_count c.self.inside.made.items)) ≡ c.self.inside.slot_count =
    length-map (all_slots c.self.inside.slot_count c.self.inside.made.items) slot_view ∙ length-all_slots c.self.inside.slot_count c.self.inside.made.items (omega (arith, c.self.invariant.1)) in
    let some : 0 < c.self.inside.per_time = omega (arith, c.self.invariant.0.some_of_time) in
    let low : c.args.minimum ≤ c.args.time = omega arith in
    let young : c.args.clock_after ≤ c.args.time + length (map slot_view (all_slots c.self.inside.slot_count c.self.inside.made.items)) = omega arith in
    let pos : 0 < length (map slot_view (all_slots c.self.inside.slot_count c.self.inside.made.items)) = omega (arith, c.self.invariant.0.some_slot) in
    rw (← c.self.view_is) (λ es is lt below.
    c.verdict_at.ensures
    ∙ ap (λ s. slot_verdict g.L.BorrowedKey.same per_time s c.args.time key) (sym (mine g c))
    ∙ slot_verdict-entered g.L.BorrowedKey.same (length all) per_time c.args.clock_after c.args.minimum c.args.time key all es refl pos some is below low young)

pub returns-clause-not_later : goal.returns-clause-not_later
returns-clause-not_later g c = rw (← c.self.view_is) (λ new.
    let may = slot_verdict-new g.L.BorrowedKey.same c.self.inside.per_time c.args.time (g.L.BorrowedKey.key c.args.key.now) (slot_view (get_or c.as_slice.result.now c.place_of-place.result unused_slot)) (omega (arith, c.self.invariant.0.some_of_time)) (sym c.verdict_at.ensures ∙ new) in
    subst (λ s. s.time ≤ c.args.time) (sym (mine g c)) may.0)

pub returns-clause-not_full : goal.returns-clause-not_full
returns-clause-not_full g c = rw (← c.self.view_is) (λ new.
    let may = slot_verdict-new g.L.BorrowedKey.same c.self.inside.per_time c.args.time (g.L.BorrowedKey.key c.args.key.now) (slot_view (get_or c.as_slice.result.now c.place_of-place.result unused_slot)) (omega (arith, c.self.invariant.0.some_of_time)) (sym c.verdict_at.ensures ∙ new) in
    subst (λ s. length (held_of s c.args.time) < c.self.inside.per_time) (sym (mine g c)) may.1)
