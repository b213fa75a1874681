-- The names that the proofs of this crate cite from std, from the crates below and from the definitions.
pub use Rattle.std.proofs.Common.{Bool, List, [], ap, arith, cond, false, filter, get_or, inl, inr, length, length-append, map, max, nat_le, refl}
pub use Rattle.std.proofs.Common.{replicate, rules, set, subst, suc, sum_by, sym, true, vec_capacity, vec_len, zero, ℕ, ◌%◌, ◌*◌, ◌++◌, ◌+◌, ◌-◌}
pub use Rattle.std.proofs.Common.{◌/◌, ◌<◌, ◌==◌, ◌∙◌, ◌∷◌, ◌≡◌, ◌≢◌, ◌≤◌, ◌⊎◌}
pub use Rattle.std.proofs.Math.Nat.{div-add-mod, mul-le-mul_left}
pub use Rattle.std.proofs.Math.Seq.{map-set_same}
pub use Rattle.std.proofs.lemmas.Bool.{and_from, cases_Bool, cases_eq, cases_lt, cases_order, eq-eqb, eqb-false, eqb-true, le-ltb, lt-leb, lt-ltb}
pub use Rattle.std.proofs.lemmas.Bool.{ltb-true, ne_eqb, or_parts, true≢false}
pub use Rattle.std.proofs.lemmas.Bool.Decides.{nat_tests}
pub use Rattle.std.proofs.lemmas.Grind.{common_steps}
pub use Rattle.std.proofs.lemmas.List.{append_assoc, get_or-append_right, get_or-map, get_or-replicate, get_or-set_other, get_or-set_same}
pub use Rattle.std.proofs.lemmas.List.{get_or_append_left, get_or_default, get_or_past, get_or_read, length-map, length-replicate, length-set}
pub use Rattle.std.proofs.lemmas.List.{map-set, replicate-append-replicate, set-append_left}
pub use Rattle.std.proofs.lemmas.List.Elements.{All-cons, All-contains_itself, All-filter, All-head, All-map, All-nil, All-set, All-tail}
pub use Rattle.std.proofs.lemmas.List.Elements.{All-weaker, Contains-append_cases, Contains-append_left, Contains-append_right, filter-append}
pub use Rattle.std.proofs.lemmas.List.Elements.{filter_passes}
pub use Rattle.std.proofs.lemmas.List.Folds.{fold-map, list_any-append, sum_by-replicate}
pub use Rattle.std.proofs.lemmas.List.FromFn.{fill_by_all, get_or-map-range_with_len, length-map-range_with_len}
pub use Rattle.std.proofs.lemmas.List.Quantifiers.{all_pairs_push}
pub use Rattle.std.proofs.lemmas.List.Sums.{sum_by-append, sum_by-le}
pub use Rattle.std.proofs.lemmas.Nat.{mod_below}
pub use Rattle.std.proofs.lemmas.Result.{err_from_is_err_and}
pub use Rattle.std.specs.List.{All, Contains, list_any, range_with_len}
pub use Rattle.std.specs.Prelude.{AllPairs, drop, nat_lt, ◌&&◌, ◌||◌}
pub use Rattle.serf_wire.specs.Buffers.{unused_slot}
pub use Rattle.serf_wire.specs.declared.texts.EventBody.{EventBody}
pub use Rattle.serf_wire.specs.declared.texts.TimeSlot.{TimeSlot}
pub use Rattle.serf_window.specs.Laws.{SlotLaws}
pub use Rattle.serf_window.specs.OneSlot.{slot_verdict}
pub use Rattle.serf_window.specs.Recall.{IsRecalled, RecallLaws, Recalled, entries_offered, recalled, recalled_by, recalled_one}
pub use Rattle.serf_window.specs.Slots.{all_slots, room_in, slot_view}
pub use Rattle.serf_window.specs.Window.{EachAtMost, IsWindow, SlotOf, TimedEntry, TimesBelow, WindowOf, count_at, count_in, empty_slot, entries_of}
pub use Rattle.serf_window.specs.Window.{largest_time, held_at, held_count, held_of, room_for, slot_after, slot_for, slot_of, slots_after}
pub use Rattle.serf_window.specs.Window.{slots_of, time_in, verdict_of, was_entered}
pub use Rattle.serf_window.specs.declared.recall.Offer.{Offer}
pub use Rattle.serf_window.specs.declared.verdict.Verdict.{Verdict}
pub use Rattle.serf_window.specs.declared.verdict.Verdict.TheVariants.{BelowMinimum, New, Seen, TimeFull, TooOld}
