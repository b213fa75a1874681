-- The names that the proofs of this crate cite: from std, from the crates below and from the definitions.
pub use Rattle.std.proofs.Common.{Bool, Bor, Decides, Err, List, None, Ok, Option, Result, Some, [], ap, append_assoc, arith, cond, false, inr}
pub use Rattle.std.proofs.Common.{length, length-append, map, nat_eq, refl, subst, sym, take, true, ℕ, ◌&&◌, ◌++◌, ◌+◌, ◌==◌, ◌∙◌, ◌∷◌, ◌≡◌, ◌≤◌}
pub use Rattle.std.proofs.lemmas.Bool.{and_parts}
pub use Rattle.std.proofs.lemmas.Bool.Decides.{Decides-eqb}
pub use Rattle.std.proofs.lemmas.Grind.{common_steps}
pub use Rattle.std.proofs.lemmas.List.{append-nil, length-map, map-append, map-id}
pub use Rattle.std.proofs.lemmas.List.Sums.{fold-append, fold_push}
pub use Rattle.std.proofs.lemmas.Result.{IfErr-weaker, on_ok_weaker}
pub use Rattle.std.proofs.lemmas.Slice.Eq.{slice_eq-Decides}
pub use Rattle.std.specs.Cmp.Lexicographic.{pointwise}
pub use Rattle.std.specs.List.{fold, slice_split}
pub use Rattle.std.specs.Map.{keys_of}
pub use Rattle.std.specs.Prelude.{All, OnOk}
pub use Rattle.std.specs.Str.{bytes_eq}
pub use Rattle.indexmap.specs.IndexMap.{get, insert_entry, keys}
pub use Rattle.serf_text.specs.Gives.{BadLine}
pub use Rattle.serf_text.specs.Lines.{lines_of}
pub use Rattle.serf_text.specs.Streams.{StopsAt}
pub use Rattle.serf_text.specs.declared.cause.Cause.{Cause}
pub use Rattle.serf_text.specs.declared.stream_error.StreamError.{StreamError}
pub use Rattle.serf_agent.specs.declared.config.Config.{Config}
pub use Rattle.serf_model.specs.Cluster.{Run, after, run_of, start, step, trace_of}
pub use Rattle.serf_model.specs.Kept.{KeepsPromises}
pub use Rattle.serf_model.specs.Runs.{AreConfigs}
pub use Rattle.serf_model.specs.Sizes.{HasSizes}
pub use Rattle.serf_model.specs.Tails.{CanTell}
pub use Rattle.serf_model.specs.Trace.{Turn, turns_of}
pub use Rattle.serf_model.specs.declared.action.Action.{Action}
pub use Rattle.serf_model.specs.declared.line.EventLine.{EventLine}
pub use Rattle.serf_model.specs.declared.line.Line.{Line}
pub use Rattle.serf_schedule.specs.Laws.{SchedulesAreSized, SchedulesAreTold}
pub use Rattle.serf_schedule.specs.Output.{output_of, text_of}
pub use Rattle.serf_schedule.specs.Running.{HasRun, HasStreamed, is_refused_by}
pub use Rattle.serf_schedule.specs.Schedule.{schedule_in}
pub use Rattle.serf_schedule.specs.Show.{answer_words}
pub use Rattle.serf_schedule.specs.TraceText.{tells_trace}
pub use Rattle.serf_replay.specs.Laws.{SchedulesTraceRuns}
pub use Rattle.serf_replay.specs.Records.{events_at, hand_outs_from, is_event, numbered_from}
pub use Rattle.serf_replay.specs.Output.{TracesRun}
pub use Rattle.serf_replay.specs.Stopped.{IsHalted, IsHaltedAt}
pub use Rattle.serf_replay.specs.Summaries.{AreHandOuts, Event, IsSummary, event_eq, event_in, event_key_eq, event_of}
pub use Rattle.serf_replay.specs.Summing.{sums_up}
pub use Rattle.serf_replay.specs.Tally.{again, firsts, recorded, frequency_in, with_first, with_record}
pub use Rattle.serf_replay.specs.Turns.{lines_in, run_in}
pub use Rattle.serf_replay.specs.declared.keys.EventKey.{EventKey}
pub use Rattle.serf_replay.specs.declared.tally.Frequency.{Frequency}
