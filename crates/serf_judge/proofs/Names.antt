-- The names of std, of the crates below and of the definitions that the proofs of this crate cite.
pub use Rattle.std.proofs.Common.{Bool, Bor, Decides, IsTrue, List, None, Ok, OnOk, Option, Result, Some, [], ap, append_assoc, arith, cond, false}
pub use Rattle.std.proofs.Common.{get_or, inl, inr, length, map, max, min, nat_eq, nat_le, nat_lt, not, refl, reverse, rules, subst, suc, sym, take}
pub use Rattle.std.proofs.Common.{take_all, true, true≢false, unwrap_or, zero, ℕ, ◌&&◌, ◌++◌, ◌+◌, ◌-◌, ◌<◌, ◌==◌, ◌^◌, ◌||◌, ◌↔◌, ◌∙◌, ◌∷◌, ◌≡◌}
pub use Rattle.std.proofs.Common.{◌≢◌, ◌≤◌, ◌⊎◌}
pub use Rattle.std.proofs.lemmas.Bool.{and_from, and_parts, cases_lt, le-leb, le-ltb, leb-true, lt-leb, lt-ltb, ltb-true}
pub use Rattle.std.proofs.lemmas.Bool.Decides.{Decides-eqb, nat_tests, same_from_decides}
pub use Rattle.std.proofs.lemmas.Fn.{always_returns_same}
pub use Rattle.std.proofs.lemmas.Grind.{common_steps, reverse_onto}
pub use Rattle.std.proofs.lemmas.Iterator.Adapters.{position_from-zero}
pub use Rattle.std.proofs.lemmas.List.{append-nil, get_or-map, length-map, length_push, nil_from_length, map-append, map_more, map_push, reverse-append, take-map, take_more}
pub use Rattle.std.proofs.lemmas.List.Elements.{filter-append}
pub use Rattle.std.proofs.lemmas.List.Folds.{Any-from_list_any, list_any-append, list_any_at}
pub use Rattle.std.proofs.lemmas.List.Kept.{AllPairs-filter}
pub use Rattle.std.proofs.lemmas.List.Sorted.{IsNonDecreasingBy-from_all_adjacent}
pub use Rattle.std.proofs.lemmas.List.Splits.{length-slice_split}
pub use Rattle.std.proofs.lemmas.List.Sums.{fails_before_first, fold-append, passes_at_first}
pub use Rattle.std.proofs.lemmas.Option.{get_or_from_slice_get, none-some, slice_get-get_or, slice_get-map, slice_get_cases, slice_get_read}
pub use Rattle.std.proofs.lemmas.Option.{slice_get_within}
pub use Rattle.std.proofs.lemmas.Result.{IfOk-weaker, on_ok_weaker}
pub use Rattle.std.proofs.lemmas.Slice.Eq.{bytes_eq-Decides}
pub use Rattle.std.specs.Cmp.{IsEquivalence}
pub use Rattle.std.specs.Cmp.Lexicographic.{nat_list_eq_equiv}
pub use Rattle.std.specs.HashMap.{get}
pub use Rattle.std.specs.HashSet.{contains}
pub use Rattle.std.specs.List.{IsAllAdjacentAnswer, list_any, position_from, position_or_len}
pub use Rattle.std.specs.Option.{is_some, option_eq, option_map}
pub use Rattle.std.specs.Prelude.{AllPairs, IfOk, MatchOption, filter, if◌then◌else◌, position, slice_get}
pub use Rattle.std.specs.Str.{bytes_eq}
pub use Rattle.std.specs.Vec.Iter.{into_iter_items}
pub use mathlib.Core.Bool.{beq}
pub use Rattle.serf_snapshot.specs.Clocks.{prefix_of}
pub use Rattle.serf_snapshot.specs.declared.kind.ClockKind.TheVariants.{Event, Member, Query}
pub use Rattle.serf_agent.specs.Ideal.{IdealAgent}
pub use Rattle.serf_agent.specs.Sound.{IsSound}
pub use Rattle.serf_agent.specs.View.{view_of}
pub use Rattle.serf_text.specs.Lines.{lines_of}
pub use Rattle.serf_text.specs.Words.{words_of}
pub use Rattle.serf_judge.specs.Again.{firsts_of, picked_after}
pub use Rattle.serf_judge.specs.Dated.{after_date, date_text}
pub use Rattle.serf_judge.specs.Fired.{EventContent, content_key_eq, content_of, is_same_content, key_content, log_at, was_fired}
pub use Rattle.serf_judge.specs.HandedAgain.{is_again, opened_on, serf_minimum}
pub use Rattle.serf_judge.specs.Identity.{Identity, event_identity, event_seen, handed_seen, is_same, key_eq, key_identity, query_identity}
pub use Rattle.serf_judge.specs.Identity.{query_seen}
pub use Rattle.serf_judge.specs.Joined.{moved_on}
pub use Rattle.serf_judge.specs.Runs.{AreCounted, Run, cut_off_of, ends_of, is_cut_off, run_seen}
pub use Rattle.serf_judge.specs.Kept.{counted_from, counted_lines, is_leave, is_line_from, is_line_of, is_line_wanted}
pub use Rattle.serf_judge.specs.Later.{IsInOrder, IsLater, IsNotLater}
pub use Rattle.serf_judge.specs.Log.{nothing}
pub use Rattle.serf_judge.specs.Missed.{Missing, at_most, at_node, contents_of, has_nodes, missed_of, missing_at, missing_of, missing_view}
pub use Rattle.serf_judge.specs.Missed.{was_handed}
pub use Rattle.serf_judge.specs.Nodes.{is_same_text, nodes_in, receivers_of, texts_of}
pub use Rattle.serf_judge.specs.Recorded.{AreLargest, AreKept, AreRecorded, AreTallied, HasHanded, IsCut, Records, counts, is_handed_at, kept, lacks}
pub use Rattle.serf_judge.specs.Recorded.{one_counts, says}
pub use Rattle.serf_judge.specs.Pairs.{HasNoPair, IsFirstPair, IsPair}
pub use Rattle.serf_judge.specs.Said.{LogView, is_comment, log_view, with_date, with_line, with_said, words_said}
pub use Rattle.serf_judge.specs.SerfClocks.{clock_after, clock_after_all, serf_clock}
pub use Rattle.serf_judge.specs.Stands.{StandsFor}
pub use Rattle.serf_judge.specs.Tallies.{largest, lowest, lines_to, nodes_of, repeats_among, tallies_of, tally_of, told_of}
pub use Rattle.serf_judge.specs.Twice.{AreFirstTwo, HasNoTwo, IsTwice}
pub use Rattle.serf_judge.specs.declared.entry.EventEntry.{EventEntry}
pub use Rattle.serf_judge.specs.declared.entry.RunEntry.{RunEntry}
pub use Rattle.serf_judge.specs.declared.fired.ContentKey.{ContentKey}
pub use Rattle.serf_judge.specs.declared.key.Delivery.{Delivery}
pub use Rattle.serf_judge.specs.declared.key.Key.{Key}
pub use Rattle.serf_judge.specs.declared.reader.Reader.{Reader}
pub use Rattle.serf_judge.specs.declared.tally.Tally.{Tally}
