-- The names of std, of the crates below and of the definitions that the proofs of this crate cite.
pub use Rattle.std.proofs.Common.{All, Bool, Bor, Err, List, None, Ok, OnOk, Option, Result, Some, [], ap, append-nil, append_assoc, ap₂, arith}
pub use Rattle.std.proofs.Common.{codes, cond, decimal, drop, false, filter, get_or, inl, inr, length, length-append, map, max, min, nat_le, nat_lt}
pub use Rattle.std.proofs.Common.{not, refl, rules, subst, suc, sym, take, take_all, true, zero, ℕ, ◌%◌, ◌&&◌, ◌++◌, ◌+◌, ◌-◌, ◌<◌, ◌==◌, ◌^◌, ◌||◌}
pub use Rattle.std.proofs.Common.{◌∙◌, ◌∷◌, ◌≡◌, ◌≤◌, ◌⊎◌}
pub use Rattle.std.proofs.Math.Bool.{or-true}
pub use Rattle.std.proofs.Math.Seq.{drop-append_seam}
pub use Rattle.std.proofs.lemmas.Bool.{and_parts, cases_Bool, eq-eqb, eqb-true, ltb-false, ne_eqb}
pub use Rattle.std.proofs.lemmas.Bool.Decides.{nat_tests}
pub use Rattle.std.proofs.lemmas.Fmt.{decimal_by_steps}
pub use Rattle.std.proofs.lemmas.List.{length-map, map-append, take_more}
pub use Rattle.std.proofs.lemmas.List.Elements.{All-cons, All-head, All-nil, All-push, All-tail, All-weaker, filter-append}
pub use Rattle.std.proofs.lemmas.List.Folds.{list_all-append, list_any-append}
pub use Rattle.std.proofs.lemmas.List.Sums.{fold-append}
pub use Rattle.std.proofs.lemmas.Option.{slice_get-get_or, slice_get-map, slice_get_past}
pub use Rattle.std.proofs.lemmas.Result.{on_ok_weaker}
pub use Rattle.std.proofs.lemmas.Slice.Eq.{bytes_eq-Decides}
pub use Rattle.std.specs.List.{AllByRecursion, find, flat_map, fold, list_all, list_any}
pub use Rattle.std.specs.Option.{option_copied, option_map}
pub use Rattle.std.specs.Prelude.{Contains, if◌then◌else◌, is_some, nat_eq, slice_get, slice_index_or, slice_set}
pub use Rattle.std.specs.Str.{bytes_eq}
pub use Rattle.indexmap.specs.IndexMap.{get}
pub use Rattle.serf_lamport.specs.Clock.{observed}
pub use Rattle.serf_wire.specs.Buffers.{borrowed_slot, slot_in_memory, slots_borrowed}
pub use Rattle.serf_wire.specs.Decoded.{decoded}
pub use Rattle.serf_wire.specs.Lists.{event_of_view, events_left, slot_of_view, slots_left}
pub use Rattle.serf_wire.specs.Message.{Message, PushPull, UserEvent, foreign, message_of, push_pull, push_pull_said, query, query_response}
pub use Rattle.serf_wire.specs.Message.{user_event}
pub use Rattle.serf_wire.specs.Slots.{SlotContent}
pub use Rattle.serf_wire.specs.declared.error.WireError.{WireError}
pub use Rattle.serf_wire.specs.declared.borrowed_slots.BorrowedSlot.{BorrowedSlot}
pub use Rattle.serf_wire.specs.declared.lists.EventViews.{EventViews}
pub use Rattle.serf_wire.specs.declared.lists.SlotView.{SlotView}
pub use Rattle.serf_wire.specs.declared.lists.SlotViews.{SlotViews}
pub use Rattle.serf_wire.specs.declared.texts.EventBody.{EventBody}
pub use Rattle.serf_wire.specs.declared.texts.TimeSlot.{TimeSlot}
pub use Rattle.serf_snapshot.specs.AppendsLine.{Kept}
pub use Rattle.serf_text.specs.Quoted.{is_plain, is_printable, quoted, stands}
unfoldable pub use Rattle.serf_text.specs.Quoted.{byte_text, quoted_byte, whole_quoted}
pub use Rattle.serf_text.specs.Lines.{lines_of}
pub use Rattle.serf_text.specs.Streams.{IsCauseBy, StopsAt}
pub use Rattle.serf_text.specs.declared.cause.Cause.{Cause}
pub use Rattle.serf_text.specs.declared.stream_error.StreamError.{StreamError}
pub use Rattle.serf_window.specs.Laws.{SlotLaws}
pub use Rattle.serf_window.specs.Slots.{slot_view}
pub use Rattle.serf_window.specs.Texts.{event_of, same_texts}
pub use Rattle.serf_window.specs.Window.{SlotOf, TimedEntry, TimesBelow, WindowOf, count_at, count_in, empty_slot, held_count, held_of, slots_of}
pub use Rattle.serf_window.specs.Window.{verdict_of, was_entered}
pub use Rattle.serf_window.specs.declared.verdict.Verdict.{Verdict}
pub use Rattle.serf_agent.specs.Calls.{ended}
pub use Rattle.serf_agent.specs.Config.{is_sound}
pub use Rattle.serf_agent.specs.Events.{admission, event_entered, event_observed, received_as, texts_len, written_event}
pub use Rattle.serf_agent.specs.Ideal.{IdealAgent, Past, Track, with_snapshot}
pub use Rattle.serf_agent.specs.Sound.{IsSound}
pub use Rattle.serf_agent.specs.States.{after_event, at_time, events_of_slot, heard_by, joined, written_min_line}
pub use Rattle.serf_agent.specs.Written.{appended_with}
pub use Rattle.serf_agent.specs.Tracks.{IsTrackSound, of_life, track_reason, was_ever_entered}
pub use Rattle.serf_agent.specs.View.{ConcreteState, view_of}
pub use Rattle.serf_agent.specs.declared.config.Config.{Config}
pub use Rattle.serf_agent.specs.declared.outcome.Reason.{Reason}
pub use Rattle.serf_agent.specs.declared.outcome.Reason.TheVariants.{BelowMinimum, Oversize, Seen, TimeFull, TooOld}
pub use Rattle.serf_model.specs.Cluster.{Cluster, IdealNode, Run, after, apply, delivers, first_node, on_agent, run_of, start, step, with_handed}
pub use Rattle.serf_model.specs.Promises.{SeenWasHandedOrTailed}
pub use Rattle.serf_model.specs.Ready.{AreRepresentable, IsRepresentable}
pub use Rattle.serf_model.specs.Tails.{actor_keeps, keeps, tails_to}
pub use Rattle.serf_model.specs.Trace.{Turn, actor_of, event_in, events_to, given_by, is_agent, packet_given}
pub use Rattle.serf_model.specs.declared.action.Act.{Act}
pub use Rattle.serf_model.specs.declared.action.Action.{Action}
pub use Rattle.serf_model.specs.declared.line.Answer.{Answer}
pub use Rattle.serf_model.specs.declared.line.EventLine.{EventLine}
pub use Rattle.serf_model.specs.declared.line.Line.{Line}
pub use Rattle.serf_model.specs.declared.query.NewQuery.{NewQuery}
pub use Rattle.serf_world.specs.View.{IsViewed, NodeState, TakesStep, WorldState, agent_at, node_of}
pub use Rattle.serf_schedule.specs.Line.{Parsed}
pub use Rattle.serf_schedule.specs.Output.{text_of}
pub use Rattle.serf_schedule.specs.ReportedInput.{ReportsInput}
pub use Rattle.serf_schedule.specs.Running.{HasStreamed, is_refused_by}
pub use Rattle.serf_schedule.specs.Schedule.{parsed_of, schedule_in, schedule_of}
pub use Rattle.serf_schedule.specs.Show.{action_text}
pub use Rattle.serf_explain.specs.Because.{AddsReasons, AddsSome, AddsSuch, GrowsBy}
unfoldable pub use Rattle.serf_explain.specs.Because.{because_line}
pub use Rattle.serf_explain.specs.Carried.{AreCarried, AreMerged, AreOfState, IsCarried, IsFound, IsSeenIn, Known, OfMerge, SlotEntry, TellsMerge}
pub use Rattle.serf_explain.specs.Carried.{TellsMerged, after_events, entered_since, known_of, next_slot, slot_entries, slot_entries_from, raised_min}
pub use Rattle.serf_explain.specs.Carried.{raised_reasons}
unfoldable pub use Rattle.serf_explain.specs.Carried.{carried_words, heard, raised_words, slot_words}
pub use Rattle.serf_explain.specs.Explained.{AddsTurn, AreReasoned, Explained, Explains, HasTold, IsIgnored, IsReasoned, IsWritable, OfIgnored}
pub use Rattle.serf_explain.specs.Explained.{TellsAll, TellsRun, cluster_after, clusters_before, clusters_from, clusters_to, lines_text}
pub use Rattle.serf_explain.specs.Explained.{lines_written, shows, turn_text, turns_text}
pub use Rattle.serf_explain.specs.Deliveries.{IsKnown, IsNamed, IsRecorded, KnowsSeen, NamesSeen, Record, RecordedAt, is_record, is_recorded, name_at, name_stored}
pub use Rattle.serf_explain.specs.Deliveries.{record_in, record_of, records_from, records_in, stands_at}
unfoldable pub use Rattle.serf_explain.specs.Deliveries.{handed_words}
pub use Rattle.serf_explain.specs.Judging.{AddsJudged, AddsLines, AddsMerge, AddsState, HasJudged, IsHandedIn, IsJudging, IsMerging, TellsText}
pub use Rattle.serf_explain.specs.Judging.{both_verdicts, detail_words, is_seen, judge_takes, judged_detail, judged_line, merged_of, past}
unfoldable pub use Rattle.serf_explain.specs.Judging.{seen_after, seen_front}
pub use Rattle.serf_explain.specs.Leaving.{AreNumbers, HoldMarks, IsLooked, IsMark, IsMarkOf, state_event_clock, first_numbers, hears_nothing}
pub use Rattle.serf_explain.specs.Leaving.{ignored_words, left_words, mark_after, marks_or_first, numbers_after, numbers_of, takes_by}
pub use Rattle.serf_explain.specs.Leaving.{takes_events, unheard_min}
unfoldable pub use Rattle.serf_explain.specs.Leaving.{buffers_words}
pub use Rattle.serf_explain.specs.Left.{IsEventLeft, IsLeft, IsSince, events_clock, events_min, first_words, is_left, mark_words, number_in}
pub use Rattle.serf_explain.specs.Left.{number_or_one, numbers_in, queries_clock, queries_min, texts_told}
unfoldable pub use Rattle.serf_explain.specs.Left.{below_words, since_words}
pub use Rattle.serf_explain.specs.Recorded.{delivered_as, event_as, message_given}
pub use Rattle.serf_explain.specs.Range.{all_actions, is_shown}
pub use Rattle.serf_explain.specs.Reasoned.{Reasoned}
pub use Rattle.serf_explain.specs.Remembered.{Remembers, asked_after, ended_among, ended_so, ending, entered_after, has_open, pending_with}
pub use Rattle.serf_explain.specs.Remembered.{query_brought, query_fired, query_new, query_of, same_moment, same_query, stays_open}
pub use Rattle.serf_explain.specs.Seen.{HandsOut, IsHanded, IsSeen, OfLeftEvent, OfSeen, event_delivered, event_given, event_read, hands_out}
pub use Rattle.serf_explain.specs.Seen.{is_hand_out, name_in, name_or_empty, tailed_words}
unfoldable pub use Rattle.serf_explain.specs.Seen.{seen_words}
pub use Rattle.serf_explain.specs.Streamed.{IsHalted, IsHaltedBy}
unfoldable pub use Rattle.serf_explain.specs.Words.{event_words, standing_texts}
pub use Rattle.serf_explain.specs.declared.deliveries.Delivery.{Delivery}
pub use Rattle.serf_explain.specs.declared.deliveries.Moment.{Moment}
pub use Rattle.serf_explain.specs.declared.history.History.{History}
pub use Rattle.serf_explain.specs.declared.verdict_reason.Judge.{Judge}
pub use Rattle.serf_explain.specs.declared.left.Takes.{Takes}
pub use Rattle.serf_explain.specs.declared.marks.AllMarks.{AllMarks}
pub use Rattle.serf_explain.specs.declared.marks.Mark.{Mark}
pub use Rattle.serf_explain.specs.declared.marks.Marks.{Marks}
pub use Rattle.serf_explain.specs.declared.marks.Numbers.{Numbers}
pub use Rattle.serf_explain.specs.declared.memory.Firing.{Firing}
pub use Rattle.serf_explain.specs.declared.memory.Ended.{Ended}
pub use Rattle.serf_explain.specs.declared.memory.Memory.{Memory}
pub use Rattle.serf_explain.specs.declared.memory.QueryKey.{QueryKey}
pub use Rattle.serf_explain.specs.declared.merge_line.Merging.{Merging}
pub use Rattle.serf_explain.specs.declared.range.Range.{Range}
pub use Rattle.serf_explain.specs.declared.reasoning.Reasoning.{Reasoning}
pub use Rattle.serf_explain.specs.declared.seen.Delivered.{Delivered}
