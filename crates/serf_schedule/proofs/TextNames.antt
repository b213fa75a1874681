-- What the proofs of this crate use from other crates.
pub use Rattle.std.proofs.Common.{All, Bool, List, None, Ok, Option, Some, [], ap, append_assoc, arith, codes, cond, decimal, false, inl, inr, length}
pub use Rattle.std.proofs.Common.{map, pos, refl, rules, subst, suc, sym, take, true, zero, ℕ, ℤ, ◌%◌, ◌++◌, ◌+◌, ◌/◌, ◌<◌, ◌^◌, ◌∙◌, ◌∷◌, ◌≡◌, ◌≤◌}
pub use Rattle.std.proofs.lemmas.Bool.{and_parts, cases_lt}
pub use Rattle.std.proofs.lemmas.Fmt.{decimal_nonempty, digits_decimal, digits_value-decimal}
pub use Rattle.std.proofs.lemmas.Grind.{common_steps}
pub use Rattle.std.proofs.lemmas.List.{append-nil}
pub use Rattle.std.proofs.lemmas.List.Elements.{All-append, All-cons, All-nil, recursion_from_All}
pub use Rattle.std.proofs.lemmas.List.Splits.{slice_split_at, slice_split_none}
pub use Rattle.std.proofs.lemmas.Str.Parse.{IsNumeralModel, numerals_by_value}
pub use Rattle.std.specs.Char.{is_ascii_digit}
pub use Rattle.std.specs.Fmt.{signed_decimal}
pub use Rattle.std.specs.List.{AllByRecursion, flat_map, list_all, slice_split}
pub use Rattle.std.specs.Prelude.{filter, nat_le, nat_lt, not, slice_index, ◌&&◌, ◌==◌}
pub use Rattle.std.specs.Str.Parse.{digits_value}
pub use Rattle.hex.proofs.HexLemmas.{decode_of-encode_lower, length-encode_with}
pub use Rattle.hex.specs.Hex.{IsBytes, encode_lower, lower_digits}
unfoldable pub use Rattle.hex.specs.Hex.{encode_with}
pub use Rattle.serf_agent.specs.Config.{is_sound}
pub use Rattle.serf_agent.specs.Defaults.{default_query_limit, default_response_limit}
pub use Rattle.serf_agent.specs.declared.config.Config.{Config}
pub use Rattle.serf_agent.specs.declared.outcome.QueryParams.{QueryParams}
pub use Rattle.serf_model.specs.Runs.{AreConfigs, has_name, twice_after}
pub use Rattle.serf_model.specs.declared.action.Act.{Act as Deed}
pub use Rattle.serf_model.specs.declared.action.Action.{Action}
pub use Rattle.serf_model.specs.declared.action.SinkCall.{SinkCall}
pub use Rattle.serf_model.specs.declared.action.SinkCall.TheVariants.{Append, Flush, ReplaceNew, ReplaceOld}
pub use Rattle.serf_model.specs.declared.query.NewQuery.{NewQuery}
unfoldable pub use Rattle.serf_schedule.specs.Command.{command_of}
pub use Rattle.serf_schedule.specs.Line.{Parsed, filters_from, is_agent_count, mode_of, said_by, with_action}
unfoldable pub use Rattle.serf_schedule.specs.Line.{after_line, agent_of, answer_of, break_of, closing_of, delivery_of, firing_of, injection_of, limit_in, merging_of, mode_in, params_of, per_time_in, query_of, restart_of}
pub use Rattle.serf_schedule.specs.Schedule.{after_lines, parsed_of, schedule_of}
pub use Rattle.serf_text.specs.TextParts.{flag_text}
unfoldable pub use Rattle.serf_text.specs.TextParts.{hex_text}
pub use Rattle.serf_text.specs.Words.{between, bytes_of, choice_of, number_of, words_of}
pub use Rattle.serf_schedule.specs.Sinks.{sink_call_of}
unfoldable pub use Rattle.serf_text.specs.Words.{bytes_in, choice_in, number_between, number_in}
unfoldable pub use Rattle.serf_schedule.specs.Sinks.{sink_call_in}
