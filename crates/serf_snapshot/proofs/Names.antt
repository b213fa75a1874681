-- The names that the proofs of this crate cite from std, from the crates below, and from the definitions.
pub use Rattle.std.proofs.Common.{Bool, IfSome, IsSome, List, None, Option, Some, [], ap, append_assoc, arith, cond, drop, eqb, false, get_or, inl}
pub use Rattle.std.proofs.Common.{inr, length, max, min, nat_le, not, refl, rules, subst, sym, take, true, zero, ℕ, ◌&&◌, ◌*◌, ◌++◌, ◌+◌, ◌-◌, ◌/◌}
pub use Rattle.std.proofs.Common.{◌<◌, ◌==◌, ◌^◌, ◌∙◌, ◌∷◌, ◌≡◌, ◌≢◌, ◌≤◌, ◌⊎◌}
pub use Rattle.std.proofs.lemmas.Bool.{and_from, and_left, and_parts, and_right, cases_Bool, cases_lt, cond-false, cond-true, eq-eqb, eqb-false}
pub use Rattle.std.proofs.lemmas.Bool.{eqb-true, le-leb, leb-false, leb-true, lt-ltb, ltb-true, ne_eqb, not-true, true≢false}
pub use Rattle.std.proofs.lemmas.Fmt.{decimal_by_steps, decimal_nonempty, digits_decimal, digits_value-decimal, length-decimal-le}
pub use Rattle.std.proofs.lemmas.Grind.{common_steps}
pub use Rattle.std.proofs.lemmas.List.{drop-drop, drop_more, get_or-drop, get_or_past, length-append, length-drop, take-append-drop, take_more}
pub use Rattle.std.proofs.lemmas.List.Concat.{flat_map-append}
pub use Rattle.std.proofs.lemmas.List.Elements.{All-append, All-cons, All-head, All-nil, All-tail}
pub use Rattle.std.proofs.lemmas.List.Quantifiers.{position-Some}
pub use Rattle.std.proofs.lemmas.List.Splits.{slice_split_at, slice_split_first, slice_split_none}
pub use Rattle.std.proofs.lemmas.List.Sums.{position_or_len_is}
pub use Rattle.std.proofs.lemmas.Str.Parse.{IsNumeralModel, numerals_by_fold}
pub use Rattle.std.specs.Char.{is_ascii_digit}
pub use Rattle.std.specs.Cmp.{both_ways}
pub use Rattle.std.specs.Cmp.Lexicographic.{other_text, pointwise, same_text}
pub use Rattle.std.specs.Fmt.{digit_glyph, digits_onto}
unfoldable pub use Rattle.std.specs.Fmt.{digits}
pub use Rattle.std.specs.List.{All, AllPass, flat_map, onto_first, position, position_or_len, slice_get, slice_split}
pub use Rattle.std.specs.Option.{option_map}
pub use Rattle.std.specs.Prelude.{Err, Ok, Result, codes, decimal, nat_eq, nat_lt, slice_index, suc, ◌%◌}
pub use Rattle.std.specs.Result.{result_ok}
pub use Rattle.std.specs.Str.{all_ascii_digits}
pub use Rattle.hex.proofs.HexLemmas.{IsDigits-lower_digits, decode_of-encode_lower, decode_of-ok, length-encode_with}
pub use Rattle.hex.specs.Hex.{IsBytes, decode_of, encode_lower, hex_digit_value, is_hex_digit, lower_digits}
unfoldable pub use Rattle.hex.specs.Hex.{encode_with}
pub use Rattle.hex.specs.declared.error.FromHexError.{FromHexError}
pub use Rattle.serf_snapshot.specs.Clocks.{following, clock_line, compacted_text, largest, is_empty, is_time_text, is_whole, last_clock, line_above_zero}
pub use Rattle.serf_snapshot.specs.Clocks.{line_value, lines_of, of_kind, once_set, onto_line, prefix_of, read_on, sealed, time_text_value}
pub use Rattle.serf_snapshot.specs.Compaction.{IsLengthOf, counted, is_worth_replacing}
pub use Rattle.serf_snapshot.specs.Device.{Calls, Device, Fails, FailurePlan, HasFailed, IsClean, Observable, appended, durable_of, flushed}
pub use Rattle.serf_snapshot.specs.Device.{memory_device, replace_decremented}
pub use Rattle.serf_snapshot.specs.Ends.{ReplacesText}
pub use Rattle.serf_snapshot.specs.EventLines.{above_unkept, begins_with_zero, bytes_of_hex, event_after, event_from, event_from_parts, event_line}
pub use Rattle.serf_snapshot.specs.EventLines.{event_of_line, event_text, events_in, events_of_lines, id_of, if_event_wanted, if_query_wanted}
pub use Rattle.serf_snapshot.specs.EventLines.{if_wanted, is_event_wanted, is_query_wanted, kept_clock_line, kept_clock_text, kept_query, min_in}
pub use Rattle.serf_snapshot.specs.EventLines.{min_line, min_of_line, min_of_lines, min_prefix, min_text, min_text_value, queries_in}
pub use Rattle.serf_snapshot.specs.EventLines.{queries_of_lines, query_after, query_from, query_from_parts, query_line, query_of_line, query_text}
pub use Rattle.serf_snapshot.specs.EventLines.{said_by_lines}
pub use Rattle.serf_snapshot.specs.KeptAppends.{SaysNoClock, compaction_bytes, kept_bytes, kept_compaction_of, kept_line_above_zero, kept_appended}
pub use Rattle.serf_snapshot.specs.KeptAppends.{lines_given, text_with, time_above_zero}
pub use Rattle.serf_snapshot.specs.AppendsLine.{Failed, IsKept, IsObservable, IsSnapshotSound, KeepsEither, KeepsPart, Kept, MayReplace, MayWrite}
pub use Rattle.serf_snapshot.specs.AppendsLine.{SnapshotView, Writing, compacted, compaction_of, durable_left_by, last_line, append_line_decremented, append_line_fails}
pub use Rattle.serf_snapshot.specs.AppendsLine.{noted, opened, text_replaced, will_replace, will_write, with_sink, written}
pub use Rattle.serf_snapshot.specs.TimedEvent.{TimedEvent, timed_event}
pub use Rattle.serf_snapshot.specs.declared.kept.KeptQuery.{KeptQuery}
pub use Rattle.serf_snapshot.specs.declared.kept.EntryFilter.{EntryFilter}
pub use Rattle.serf_snapshot.specs.declared.kind.ClockKind.{ClockKind}
pub use Rattle.serf_snapshot.specs.declared.kind.ClockKind.TheVariants.{Event, Member, Query}
