-- The names of std, of the crates below and of the definitions that the proofs of this crate cite.
pub use Rattle.std.proofs.Common.{Bool, Bor, Decides, IsTrue, List, None, Option, Some, [], ap, append_assoc, arith, codes, cond, drop, false, get_or, length, map, nat_eq, nat_le, nat_lt}
pub use Rattle.std.proofs.Common.{refl, rules, sym, take, true, true≢false, unwrap_or, ℕ, ◌&&◌, ◌++◌, ◌+◌, ◌<◌, ◌==◌, ◌↔◌, ◌∙◌, ◌∷◌, ◌≡◌, ◌≤◌, ◌⊎◌, inl, inr}
pub use Rattle.std.proofs.Common.{OnOk, subst, take_all}
pub use Rattle.std.proofs.lemmas.Bool.{and_from, and_parts, cases_lt, le-leb, leb-true, lt-ltb, ltb-false, ltb-true}
pub use Rattle.std.proofs.lemmas.Bool.Decides.{Decides-eqb, nat_tests}
pub use Rattle.std.proofs.lemmas.Fn.{always_returns_same}
pub use Rattle.std.proofs.lemmas.Grind.{common_steps, flat_map-append}
pub use Rattle.std.proofs.lemmas.List.{append-nil, length-map, map-append, map_more, take-append-drop}
pub use Rattle.std.proofs.lemmas.List.Folds.{find_at, flat_map-map}
pub use Rattle.std.proofs.lemmas.List.Sorted.{IsNonDecreasingBy-from_all_adjacent, IsPartitionPoint-from_clause, IsPartitionedBy-ltb}
pub use Rattle.std.proofs.lemmas.List.Sums.{position_or_len_is}
pub use Rattle.std.proofs.lemmas.Option.{get_or_from_slice_get, none-some, slice_get_cases, slice_get-get_or, slice_get_past, slice_get_read, slice_get_within}
pub use Rattle.std.proofs.lemmas.Result.{on_ok_weaker}
pub use Rattle.std.proofs.lemmas.Slice.Eq.{bytes_eq-Decides}
pub use Rattle.std.specs.List.{IsAllAdjacentAnswer, flat_map, list_any, position_or_len}
pub use Rattle.std.specs.List.Sorted.{IsPartitionPoint}
pub use Rattle.std.specs.Option.{is_some, option_eq, option_or}
pub use Rattle.std.specs.Prelude.{find, slice_get}
pub use Rattle.std.specs.Str.{bytes_eq}
pub use Rattle.serf_judge.specs.Again.{picked_after}
pub use Rattle.serf_judge.specs.Identity.{Identity, handed_seen, is_same}
pub use Rattle.serf_judge.specs.Runs.{run_seen}
pub use Rattle.serf_judge.specs.Tallies.{repeats_among, told_of}
pub use Rattle.serf_judge.specs.declared.entry.DatedLine.{DatedLine}
pub use Rattle.serf_judge_json.specs.Entries.{bad_text, counts_text, entries_text, node_text, read_text}
pub use Rattle.serf_judge_json.specs.Places.{AreInOrder}
pub use Rattle.serf_judge_json.specs.Repeats.{again_text, first_of, repeat_text, text_after}
pub use Rattle.serf_judge_json.specs.declared.kind.Kind.{Kind}
pub use Rattle.serf_judge_json.specs.declared.places.LogPlaces.{LogPlaces}
pub use Rattle.serf_judge.specs.Missed.{missed_of, missing_view}
pub use Rattle.std.proofs.lemmas.Iterator.Adapters.{position_from-zero}
pub use Rattle.std.specs.List.{position_from}
pub use Rattle.std.specs.Option.{option_and_then, option_map}
pub use Rattle.serf_judge_json.specs.Judgement.{lines_text, verdicts_text}
pub use Rattle.serf_judge_json.specs.Missing.{missed_text}
pub use Rattle.serf_judge_json.specs.Runs.{runs_text}
pub use Rattle.serf_judge.specs.HandedAgain.{is_again}
