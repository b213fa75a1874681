-- The names that the proofs of this crate cite: from std, from the crates below and from the definitions.
pub use Rattle.std.proofs.Common.{Bool, Err, List, None, Ok, Option, Result, Some, [], ap, append_assoc, arith, codes, cond, decimal, drop, false}
pub use Rattle.std.proofs.Common.{inl, inr, length, length-append, map, nat_le, nat_lt, not, refl, rules, subst, sym, take, true, ℕ, ◌&&◌, ◌++◌}
pub use Rattle.std.proofs.Common.{◌+◌, ◌<◌, ◌==◌, ◌||◌, ◌∙◌, ◌∷◌, ◌≡◌, ◌≤◌}
pub use Rattle.std.proofs.lemmas.Bool.{and_parts}
pub use Rattle.std.proofs.lemmas.Bool.Decides.{nat_tests}
pub use Rattle.std.proofs.lemmas.Grind.{common_steps}
pub use Rattle.std.proofs.lemmas.List.{append-nil, get_or_append_left, length-map, map-append}
pub use Rattle.std.proofs.lemmas.List.Elements.{All-nil, All-push}
pub use Rattle.std.proofs.lemmas.List.Sums.{fold_push}
pub use Rattle.std.proofs.lemmas.Option.{unwrap_or-slice_get}
pub use Rattle.std.proofs.lemmas.Result.{on_ok_weaker}
pub use Rattle.std.specs.List.{All, flat_map, fold, slice_split}
pub use Rattle.std.specs.Option.{option_to_list}
pub use Rattle.std.specs.Prelude.{IfOk, pos, slice_get, slice_index}
pub use Rattle.std.specs.Result.{result_ok}
pub use Rattle.std.specs.Vec.Iter.{into_iter_items}
pub use Rattle.hex.proofs.HexLemmas.{decode_of-ok}
pub use Rattle.hex.specs.Hex.{IsBytes, decode_of}
pub use Rattle.hex.specs.declared.error.FromHexError.{FromHexError}
pub use Rattle.serf_wire.specs.Fields.{fits}
pub use Rattle.serf_text.specs.Gives.{BadLine, Fails, Gives, at_line, ◌>>=◌}
unfoldable pub use Rattle.serf_text.specs.TextParts.{hex_text}
pub use Rattle.serf_text.specs.Words.{between, bytes_of, number_of, or_bad, word_at, words_of}
unfoldable pub use Rattle.serf_text.specs.Words.{bytes_in, choice_in, number_between, number_in}
pub use Rattle.serf_text.specs.declared.cause.Cause.{Cause}
pub use Rattle.serf_text.specs.declared.cause.Cause.TheVariants.{BadConfig, LateAgent, NameTwice, WordCount}
pub use Rattle.serf_text.specs.declared.cause.LineError.{LineError}
pub use Rattle.serf_text.specs.declared.cause.LineError.TheVariants.{Bad, OutOfMemory}
pub use Rattle.serf_agent.specs.Config.{is_sound}
pub use Rattle.serf_agent.specs.KeptTexts.{IsWritable}
pub use Rattle.serf_agent.specs.declared.config.Config.{Config}
pub use Rattle.serf_agent.specs.declared.outcome.QueryParams.{QueryParams}
pub use Rattle.serf_model.specs.Cluster.{Cluster, IdealNode, Run, after, numbers_from, on_agent, run_of, start, step}
pub use Rattle.serf_model.specs.Runs.{AreConfigs, NoneBadIsSound, has_name}
pub use Rattle.serf_model.specs.Sizes.{HasSizes}
pub use Rattle.serf_model.specs.Tails.{BringsTold}
pub use Rattle.serf_model.specs.Trace.{Turn, events_in_packet, outcome_of}
pub use Rattle.serf_model.specs.declared.action.Action.{Action}
pub use Rattle.serf_model.specs.declared.action.Action.TheVariants.{Inject, Of}
pub use Rattle.serf_model.specs.declared.line.Line.{Line}
pub use Rattle.serf_world.specs.Acts.{Acts}
pub use Rattle.serf_world.specs.View.{TakesStep, WorldState}
pub use Rattle.serf_schedule.specs.Command.{count_of, verb_word}
unfoldable pub use Rattle.serf_schedule.specs.Command.{command_of}
pub use Rattle.serf_schedule.specs.Comments.{CommentsAreSkipped, IsWord, is_plain}
pub use Rattle.serf_schedule.specs.Grown.{AddsSame, Grows, with_turn}
pub use Rattle.serf_schedule.specs.Laws.{LateLinesAddSame, LinesGrow}
pub use Rattle.serf_schedule.specs.Line.{Parsed, act_of, add_action, add_agent, by_agent, command_line, filters_from, is_agent_count, is_skipped}
pub use Rattle.serf_schedule.specs.Line.{query_said, said_by, with_action}
unfoldable pub use Rattle.serf_schedule.specs.Line.{after_line, agent_of, answer_of, break_of, closing_of, delivery_of, firing_of, injection_of}
unfoldable pub use Rattle.serf_schedule.specs.Line.{merging_of, params_of, query_of, restart_of}
pub use Rattle.serf_schedule.specs.Parts.{parts_said}
pub use Rattle.serf_schedule.specs.Running.{HasActed, HasRun, IsLineRefused, IsStage}
pub use Rattle.serf_schedule.specs.Said.{IsHeld, following}
pub use Rattle.serf_schedule.specs.Sayable.{AreSayable, HasByteName, IsActSayable, IsQuerySayable, IsSayable}
pub use Rattle.serf_schedule.specs.Schedule.{after_lines, parsed_of, schedule_in, schedule_of}
pub use Rattle.serf_schedule.specs.ScheduleText.{act_words, action_words, agent_words, flags_of, join_word, line_text, mode_word, schedule_text}
pub use Rattle.serf_schedule.specs.ScheduleText.{sink_call_word, spaced}
unfoldable pub use Rattle.serf_schedule.specs.ScheduleText.{agent_text}
pub use Rattle.serf_schedule.specs.Show.{actions_text, answer_line, event_line, handed_line, numbered, packet_of, trace_text}
unfoldable pub use Rattle.serf_schedule.specs.Show.{action_text, sent_line}
unfoldable pub use Rattle.serf_schedule.specs.Sinks.{sink_call_in}
pub use Rattle.serf_schedule.specs.TraceText.{tells_trace}
pub use Rattle.serf_schedule.specs.Words.{word_after, word_text}
pub use Rattle.serf_schedule.specs.declared.command.Command.{Command}
pub use Rattle.serf_schedule.specs.declared.command.Command.TheVariants.{Act, Agent, Query}
pub use Rattle.serf_schedule.specs.declared.command.Bare.TheVariants.{State}
pub use Rattle.serf_schedule.specs.declared.command.Verb.{Verb}
pub use Rattle.serf_schedule.specs.declared.command.Verb.TheVariants.{Break, Close, Deliver, Fire, Bare, Merge, Respond, Restart}
pub use Rattle.serf_schedule.specs.declared.run.Acting.{Acting}
