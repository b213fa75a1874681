-- The names of std, of the crates below and of the definitions that the proofs of this crate cite.
pub use Rattle.std.proofs.Common.{Bool, Err, IfSome, IsOk, IsSomeAnd, IsTrue, List, MatchBool, None, Ok, OnErr, OnOk, Option, Result, Some, [], ap}
pub use Rattle.std.proofs.Common.{append-nil, append_assoc, arith, cond, drop, false, filter, get_or, inl, inr, length, length-append, map, max}
pub use Rattle.std.proofs.Common.{min, nat_eq, nat_le, nat_lt, not, refl, rules, subst, suc, sym, take, true, zero, ℕ, ◌%◌, ◌&&◌, ◌++◌, ◌+◌, ◌-◌}
pub use Rattle.std.proofs.Common.{◌<◌, ◌==◌, ◌^◌, ◌||◌, ◌↔◌, ◌∙◌, ◌∷◌, ◌≡◌, ◌≢◌, ◌≤◌, ◌⊎◌}
pub use Rattle.std.proofs.Math.Numerals.{add-one}
pub use Rattle.std.proofs.lemmas.Bool.{and_from, and_parts, cases_Bool, cases_lt, eq-eqb, eqb-false, eqb-true, le-leb, le-ltb, leb-false, leb-true}
pub use Rattle.std.proofs.lemmas.Bool.{lt-leb, lt-ltb, ltb-false, ltb-true, ne_eqb, not-true, or_cases, or_parts, true≢false}
pub use Rattle.std.proofs.lemmas.Grind.{common_steps, drop_more_same}
pub use Rattle.std.proofs.lemmas.List.{get_or-drop, length-map, map-append, map_more, take-append-drop, take_all}
pub use Rattle.std.proofs.lemmas.List.Elements.{All-append, All-cons, All-contains, All-contains_itself, All-filter, All-head, All-map, All-nil}
pub use Rattle.std.proofs.lemmas.List.Elements.{All-pop, All-push, All-tail, All-weaker, Contains-append_cases, Contains-append_left}
pub use Rattle.std.proofs.lemmas.List.Elements.{Contains-append_right, Contains-get_or, filter-append, filter_more, filter_passes}
pub use Rattle.std.proofs.lemmas.List.Folds.{list_any_at}
pub use Rattle.std.proofs.lemmas.List.FromFn.{get_or-map-range_with_len, length-map-range_with_len}
pub use Rattle.std.proofs.lemmas.List.Kept.{AllPairs-cons, AllPairs-filter}
pub use Rattle.std.proofs.lemmas.List.Quantifiers.{all_pairs_push}
pub use Rattle.std.proofs.lemmas.Option.{get_or_from_slice_get, slice_get-map, slice_get_cases, slice_get_within}
pub use Rattle.std.proofs.lemmas.Result.{err_from_is_err_and}
pub use Rattle.std.proofs.lemmas.Slice.Eq.{bytes_eq-Decides}
pub use Rattle.std.specs.List.{flat_map, list_any, slice_get}
pub use Rattle.std.specs.Map.{lookup, set_value}
pub use Rattle.std.specs.Option.{option_copied, option_copied_mut, option_map}
pub use Rattle.std.specs.Prelude.{All, AllPairs, Contains, IsSome, codes, slice_index_or, ◌*◌}
pub use Rattle.std.specs.Str.{bytes_eq}
pub use Rattle.std.specs.Vec.{vec_capacity}
pub use Rattle.std.specs.declared.alloc.AllocError.{AllocError}
pub use Rattle.indexmap.proofs.CallerLemmas.{filter-RetainsPairs}
pub use Rattle.indexmap.specs.IndexMap.{insert_entry, set_value_at}
pub use Rattle.serf_lamport.specs.Clock.{observed}
pub use Rattle.serf_pack.specs.Canonical.{raw_bytes, raw_head}
pub use Rattle.serf_wire.specs.Buffers.{slot_in_memory, slots_borrowed, slots_to_come}
pub use Rattle.serf_wire.specs.Bytes.{AreBytes}
pub use Rattle.serf_wire.specs.Canonical.{is_long}
unfoldable pub use Rattle.serf_wire.specs.Canonical.{canonical, has_long}
pub use Rattle.serf_wire.specs.Decoded.{decoded, event_in}
pub use Rattle.serf_wire.specs.Laws.{DecodesInRange}
pub use Rattle.serf_wire.specs.Lists.{event_of_view, events_left, slot_of_view, slots_left, status_of, texts_left}
pub use Rattle.serf_wire.specs.Message.{Message, PushPull, Query, QueryResponse, UserEvent, event_said, foreign, message_of, push_pull}
pub use Rattle.serf_wire.specs.Message.{push_pull_said, query, query_of, query_response, query_said, response_of, response_said, user_event}
pub use Rattle.serf_wire.specs.Message.{user_event_of}
pub use Rattle.serf_wire.specs.Parts.{slot_content}
pub use Rattle.serf_wire.specs.Ranges.{InRange}
pub use Rattle.serf_wire.specs.Slots.{SlotContent}
pub use Rattle.serf_wire.specs.declared.encode.EncodeError.{EncodeError}
pub use Rattle.serf_wire.specs.declared.error.WireError.{WireError}
pub use Rattle.serf_wire.specs.declared.lists.EventView.{EventView}
pub use Rattle.serf_wire.specs.declared.lists.EventViews.{EventViews}
pub use Rattle.serf_wire.specs.declared.lists.SlotView.{SlotView}
pub use Rattle.serf_wire.specs.declared.lists.SlotViews.{SlotViews}
pub use Rattle.serf_wire.specs.declared.texts.EventBody.{EventBody}
pub use Rattle.serf_wire.specs.declared.texts.TimeSlot.{TimeSlot}
pub use Rattle.serf_snapshot.specs.Clocks.{clock_line, compacted_text, is_whole, last_clock, line_above_zero, lines_of, sealed}
pub use Rattle.serf_snapshot.specs.Compaction.{counted, is_worth_compacting, is_worth_replacing}
pub use Rattle.serf_snapshot.specs.Device.{Device, FailurePlan, HasFailed, Observable, appended, flushed, fresh_device, replace_called, replaced}
pub use Rattle.serf_snapshot.specs.Ends.{FailsLine, AppendsTime, ReplacesText}
pub use Rattle.serf_snapshot.specs.EventLines.{event_line, event_of_line, events_in, if_event_wanted, if_query_wanted, if_wanted, is_event_wanted}
pub use Rattle.serf_snapshot.specs.EventLines.{is_query_wanted, kept_clock_line, kept_query, min_in, min_line, min_of_lines, queries_in}
pub use Rattle.serf_snapshot.specs.EventLines.{query_line, query_of_line, said_by_lines}
pub use Rattle.serf_snapshot.specs.KeptAppends.{SaysNoClock, kept_bytes, kept_compaction_of, kept_line_above_zero, kept_appended, lines_given}
pub use Rattle.serf_snapshot.specs.AppendsLine.{AreTimes, Failed, IsSnapshotSound, KeepsEither, KeepsPart, Kept, MayReplaceBy, MayWrite, SnapshotState}
pub use Rattle.serf_snapshot.specs.AppendsLine.{SnapshotView, Writing, compaction_of, durable_left_by, last_line, append_line_fails, noted, opened, text_replaced}
pub use Rattle.serf_snapshot.specs.AppendsLine.{with_line, written}
pub use Rattle.serf_snapshot.specs.TimedEvent.{TimedEvent, timed_event}
pub use Rattle.serf_snapshot.specs.declared.kept.KeptQuery.{KeptQuery}
pub use Rattle.serf_snapshot.specs.declared.kept.EntryFilter.{EntryFilter}
pub use Rattle.serf_snapshot.specs.declared.kind.ClockKind.{ClockKind}
pub use Rattle.serf_snapshot.specs.declared.snapshot.AppendLineError.{AppendLineError}
pub use Rattle.serf_snapshot.specs.declared.snapshot.SealError.{SealError}
pub use Rattle.serf_window.specs.Laws.{SlotLaws}
pub use Rattle.serf_window.specs.Queries.{same_id}
pub use Rattle.serf_window.specs.Recall.{IsRecalled, RecallLaws, Recalled, entries_offered, entry_offered, recalled, recalled_by, recalled_one}
pub use Rattle.serf_window.specs.Slots.{slot_view}
pub use Rattle.serf_window.specs.Texts.{event_of, same_texts}
pub use Rattle.serf_window.specs.Window.{SlotOf, TimedEntry, TimesBelow, WindowOf, count_at, empty_slot, entries_of, largest_time, held_at}
pub use Rattle.serf_window.specs.Window.{held_of, slot_for, slot_of, slots_of, verdict_of, was_entered}
pub use Rattle.serf_window.specs.declared.recall.Offer.{Offer}
pub use Rattle.serf_window.specs.declared.verdict.Verdict.{Verdict}
pub use Rattle.serf_window.specs.declared.verdict.Verdict.TheVariants.{New, Seen, TimeFull, TooOld}
pub use Rattle.serf_agent.specs.Answers.{CountsAnswer, answer_of, answer_read}
pub use Rattle.serf_agent.specs.Calls.{AsksSink, Call, Ends, MayEnd, AppendsLine, Replaces, Step, answers, ended}
pub use Rattle.serf_agent.specs.Config.{is_between, is_sound}
pub use Rattle.serf_agent.specs.Devices.{device_after}
pub use Rattle.serf_agent.specs.Events.{admission, drawn, event_entered, event_observed, event_out, event_packet, fire, fire_error, fired_as}
pub use Rattle.serf_agent.specs.Events.{is_too_large, receive_event, received_as, texts_len, written_event}
pub use Rattle.serf_agent.specs.Errors.{fire_error_of, merge_error_of, open_error_of, query_error_of, receive_error_of}
pub use Rattle.serf_agent.specs.DeliveredQuery.{DeliveredQuery}
pub use Rattle.serf_agent.specs.Ideal.{IdealAgent, Past, Track, with_fired_queries, with_config, with_events, with_queries, with_snapshot}
pub use Rattle.serf_agent.specs.Inside.{IsTaken, concrete_of, first_concrete, first_events, first_queries, first_track}
pub use Rattle.serf_agent.specs.Keeping.{IsHad, KeepingLaws, entries_in, history_without, in_life, opened_clock, taken_back, track_kept}
pub use Rattle.serf_agent.specs.Kept.{HandsOutNew, HasMet, IsFull, IsMet, KeepsOn, KeepsSettings, RemembersJoins, TakesNew, TakesNewBy}
pub use Rattle.serf_agent.specs.Kept.{TakesNewQueries, TellNoneAbove, TellsNoneAbove, entered_in, stood_after, stood_in}
pub use Rattle.serf_agent.specs.KeptLaws.{KeptRestartLaws}
pub use Rattle.serf_agent.specs.KeptLines.{AreWritable, CompactionLaws, held_from, held_in, kept_lines, min_written, lines_of_slot, lines_written}
pub use Rattle.serf_agent.specs.KeptLines.{stored_lines}
pub use Rattle.serf_agent.specs.KeptLives.{BeginsDurable, DiskSuffices, DurableHasKept, IsDurable, IsMin, IsMessageWritable, IsActWritable, KeepsAfter}
pub use Rattle.serf_agent.specs.KeptLives.{MayGoOn, MayGoOnLives, MayKeep, MayKeepLives, StartsWithDurable, StaysDurable}
pub use Rattle.serf_agent.specs.KeptRestart.{HasKept, IsKeptSound, events_reached, queries_reached, restarted_kept}
pub use Rattle.serf_agent.specs.KeptSteps.{KeptAppendLineLaws}
pub use Rattle.serf_agent.specs.KeptTexts.{AreKept, IsIdShort, IsIdWritable, IsShort, IsWritable, KeptEventLaws, KeptQueryLaws, KeptTextLaws, event_entry}
pub use Rattle.serf_agent.specs.KeptTexts.{kept_events, kept_queries, line_of_event, query_entry, whatever, within_reach}
pub use Rattle.serf_agent.specs.BorrowedQueries.{lowest, smaller}
pub use Rattle.serf_agent.specs.Lives.{Act, Asks, AsksLater, Closes, Compacts, DurableHasFlushed, Fires, FiresLater, Gets, HandsOutOnce}
pub use Rattle.serf_agent.specs.Lives.{HandsOutQueriesOnce, HasFlushed, Hears, Lived, MayAct, MayLive, Opens, Saves, Takes, acted, after}
pub use Rattle.serf_agent.specs.Lives.{fired_query_entries, events_out, fired_entries, first_life, got_entries, lived, queries_out, query_entries}
pub use Rattle.serf_agent.specs.MemberClock.{clock_state, with_observed_member}
pub use Rattle.serf_agent.specs.Merging.{GoesOn, GoesWrong, HasHeard, HasReceived, Received}
pub use Rattle.serf_agent.specs.Once.{AsksAfter, BeginsOnce, BeginsSound, FiresAfter, IsOnce, OpensAfter, StaysOnce, StepsSound}
pub use Rattle.serf_agent.specs.Queries.{ack_if_passed, ack_ignore_reason, ack_packet, all_pass, answer_ignore_reason, fired_query_at, close_due}
pub use Rattle.serf_agent.specs.Queries.{counted_as, counts, counts_where, fire_query, fired_query, handed_if_passed, handed_query, has_acked}
pub use Rattle.serf_agent.specs.Queries.{has_flag, has_responded, is_ack, is_due, is_full, is_no_timeout, is_too_large_query, no_broadcast_flag}
pub use Rattle.serf_agent.specs.Queries.{opened_query, query_admission, query_opened, query_at, query_entered, query_error, query_fired_as}
pub use Rattle.serf_agent.specs.Queries.{query_observed, query_received_as, receive_query, receive_response, response_ignore_reason}
pub use Rattle.serf_agent.specs.Queries.{response_received_as, response_received_at, written_query, with_fired_query_at}
pub use Rattle.serf_agent.specs.Reasons.{reason_for}
pub use Rattle.serf_agent.specs.Receive.{TakesMemory, receive, receive_message, receive_read}
pub use Rattle.serf_agent.specs.Restart.{HasPast, IsInText, restarted, restarted_by, unopened}
pub use Rattle.serf_agent.specs.Said.{KeepsOnly, OpensOn, SaidLaws, SaysQueries}
pub use Rattle.serf_agent.specs.Snapshots.{SnapshotLaws}
pub use Rattle.serf_agent.specs.Sound.{IsOpenQuerySound, IsSound}
pub use Rattle.serf_agent.specs.States.{EndsHearing, Merges, Receives, after_event, at_time, compact, delivered, events_of, events_of_slot}
pub use Rattle.serf_agent.specs.States.{handed_by, hear, heard_by, joined, receive_one, save, send_state, slot_sent, state_of, written_min_line}
pub use Rattle.serf_agent.specs.States.{written_lines}
pub use Rattle.serf_agent.specs.Steps.{EndsAppendLine, EndsWrite, FailsAppendLine, HasAppended, HasWritten, Steps, WritesLine}
pub use Rattle.serf_agent.specs.TakesPacket.{TakesPacket}
pub use Rattle.serf_agent.specs.Taking.{IsOpenAt, TakesAt, TakesOrFull, TakingLaws, allowed}
pub use Rattle.serf_agent.specs.Written.{AreQuiet, MayAppendLine, bytes_with, device_appended, appended_with, text_with}
pub use Rattle.serf_agent.specs.TrackOf.{BringsQuery, OffersEvent, OffersQuery, TrackOf, asked_query, event_track, got_query, queries_entered}
pub use Rattle.serf_agent.specs.TrackOf.{query_track}
pub use Rattle.serf_agent.specs.Tracks.{ConcreteTrack, IsTrackSound, of_life, track_entered, track_observed, track_raised, track_reason}
pub use Rattle.serf_agent.specs.Tracks.{track_reopened, view_of_track, was_ever_entered}
pub use Rattle.serf_agent.specs.Unkept.{HasSaid, IsSaid, IsSaidSound, UnkeptLaws}
pub use Rattle.serf_agent.specs.Unseen.{AsksLaterUnseen, FiresLaterUnseen, HandsOutNewUnseen, HandsOutOnceUnseen, HandsOutQueriesOnceUnseen, IsSame}
pub use Rattle.serf_agent.specs.Unseen.{IsUnseen, OpensUnseen, RemembersJoinsUnseen, TakesNewQueriesUnseen, TakesNewUnseen, UnseenLaws, hidden}
pub use Rattle.serf_agent.specs.Unseen.{hidden_call, hidden_life, hidden_snapshot, hidden_step, unseen, unseen_act, unseen_life}
pub use Rattle.serf_agent.specs.View.{AgentState, ConcreteState, concrete_with, view_of}
pub use Rattle.serf_agent.specs.declared.config.Config.{Config}
pub use Rattle.serf_agent.specs.declared.open_query.OpenQuery.{OpenQuery}
pub use Rattle.serf_agent.specs.declared.outcome.EventOut.{EventOut}
pub use Rattle.serf_agent.specs.declared.outcome.FireError.{FireError}
pub use Rattle.serf_agent.specs.declared.outcome.Fired.{Fired}
pub use Rattle.serf_agent.specs.declared.outcome.FiredQuery.{FiredQuery}
pub use Rattle.serf_agent.specs.declared.outcome.MergeError.{MergeError}
pub use Rattle.serf_agent.specs.declared.outcome.Outcome.{Outcome}
pub use Rattle.serf_agent.specs.declared.outcome.Outcome.TheVariants.{Event}
pub use Rattle.serf_agent.specs.declared.outcome.PushPullError.{PushPullError}
pub use Rattle.serf_agent.specs.declared.outcome.QueryError.{QueryError}
pub use Rattle.serf_agent.specs.declared.outcome.QueryParams.{QueryParams}
pub use Rattle.serf_agent.specs.declared.outcome.Reason.{Reason}
pub use Rattle.serf_agent.specs.declared.outcome.Reason.TheVariants.{AckNotRequested, AckTwice, BelowMinimum, Closed, OtherId, Oversize, ResponseTwice}
pub use Rattle.serf_agent.specs.declared.outcome.ReceiveError.{ReceiveError}
pub use Rattle.serf_agent.specs.declared.outcome.ReceiveError.TheVariants.{SinkError, Wire}
