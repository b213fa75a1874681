-- The names of std, of the crates below and of the definitions that the proofs of this crate cite.
pub use Rattle.std.proofs.Common.{Bool, Err, IsSome, List, None, Ok, Option, Result, Some, [], ap, append_assoc, arith, cond, drop, false, get_or}
pub use Rattle.std.proofs.Common.{if◌then◌else◌, inl, inr, length, length-append, map, nat_eq, nat_le, nat_lt, refl, set, subst, suc, sym, take}
pub use Rattle.std.proofs.Common.{true, unwrap_or, zero, ℕ, ◌%◌, ◌&&◌, ◌*◌, ◌++◌, ◌+◌, ◌-◌, ◌<◌, ◌==◌, ◌^◌, ◌||◌, ◌∙◌, ◌∷◌, ◌≡◌, ◌≢◌, ◌≤◌, ◌⊎◌}
pub use Rattle.std.proofs.lemmas.Bool.{and_from, and_parts, cases_Bool, cases_lt, eq-eqb, eqb-false, eqb-true, le-leb, leb-false, leb-true, lt-ltb}
pub use Rattle.std.proofs.lemmas.Bool.{ltb-false, ltb-true, ne_eqb, not-false, or_parts, true≢false}
pub use Rattle.std.proofs.lemmas.List.{append-nil, get_or-map, length-map, map-append}
pub use Rattle.std.proofs.lemmas.List.Concat.{flat_map-append}
pub use Rattle.std.proofs.lemmas.List.Elements.{All-append, All-cons, All-contains, All-contains_itself, All-filter, All-head, All-map, All-nil}
pub use Rattle.std.proofs.lemmas.List.Elements.{All-push, All-tail, All-weaker, Contains-append_cases, Contains-append_left, Contains-append_right}
pub use Rattle.std.proofs.lemmas.List.Elements.{Contains-push, filter-append, filter_passes, recursion_from_All}
pub use Rattle.std.proofs.lemmas.List.Quantifiers.{all_pairs_push}
pub use Rattle.std.proofs.lemmas.List.Sums.{fold-append, fold_push}
pub use Rattle.std.proofs.lemmas.Slice.Eq.{bytes_eq-Decides}
pub use Rattle.std.specs.List.{AllByRecursion, AllZip, filter, flat_map, fold, list_any, position_or_len, range_with_len, slice_index_or}
pub use Rattle.std.specs.Option.{option_map, option_to_list}
pub use Rattle.std.specs.Prelude.{All, AllPairs, Contains, IfSome, MatchBool, is_some, max, not, pos, slice_get}
pub use Rattle.std.specs.Str.{bytes_eq}
pub use Rattle.serf_lamport.specs.Clock.{observed}
pub use Rattle.serf_pack.specs.Reading.{whole_at}
pub use Rattle.serf_pack.specs.Tree.{Tree, array, flag, int, nil, pairs, raw}
pub use Rattle.serf_pack.specs.View.{pair_list}
pub use Rattle.serf_pack.specs.declared.error.PackError.{PackError}
pub use Rattle.serf_wire.specs.Bytes.{AreBytes, EventsHaveBytes, HasBytes, SlotHasBytes}
pub use Rattle.serf_wire.specs.Canonical.{has_long, without_events}
unfoldable pub use Rattle.serf_wire.specs.Canonical.{canonical}
pub use Rattle.serf_wire.specs.Decoded.{read_value}
unfoldable pub use Rattle.serf_wire.specs.Decoded.{decoded}
pub use Rattle.serf_wire.specs.Errors.{first, message_errors}
pub use Rattle.serf_wire.specs.Laws.{DecodesBytes}
pub use Rattle.serf_wire.specs.Message.{Message, PushPull, Query, QueryResponse, UserEvent, foreign, push_pull, query, query_response, response_of}
pub use Rattle.serf_wire.specs.Message.{user_event}
pub use Rattle.serf_wire.specs.Ranges.{IsRangedPushPull, IsRangedQuery, IsRangedResponse, IsTimed}
pub use Rattle.serf_wire.specs.Reading.{message_in, unless_error}
pub use Rattle.serf_wire.specs.Slots.{SlotContent, empty, held}
pub use Rattle.serf_wire.specs.declared.error.WireError.{WireError}
pub use Rattle.serf_wire.specs.declared.layout.MessageType.{MessageType}
pub use Rattle.serf_wire.specs.declared.texts.EventBody.{EventBody}
pub use Rattle.serf_snapshot.specs.Clocks.{clock_line, is_whole, last_clock, lines_of, sealed}
pub use Rattle.serf_snapshot.specs.Device.{Device, FailurePlan, fresh_device}
pub use Rattle.serf_snapshot.specs.EventLines.{event_of_line, events_in, events_of_lines, if_event_wanted, is_event_wanted, is_time_wanted}
pub use Rattle.serf_snapshot.specs.EventLines.{kept_clock_line, min_in, min_line, queries_in, query_line}
pub use Rattle.serf_snapshot.specs.KeptAppends.{kept_bytes}
pub use Rattle.serf_snapshot.specs.AppendsLine.{Failed, IsObservable, KeepsEither, Kept, MayReplaceBy, MayWrite, SnapshotView, Writing, compaction_of}
pub use Rattle.serf_snapshot.specs.AppendsLine.{durable_left_by, last_line, append_line_fails, opened, text_replaced, will_store, will_write, written}
pub use Rattle.serf_snapshot.specs.TimedEvent.{TimedEvent, timed_event}
pub use Rattle.serf_snapshot.specs.declared.kept.EntryFilter.{EntryFilter}
pub use Rattle.serf_snapshot.specs.declared.kind.ClockKind.{ClockKind}
pub use Rattle.serf_snapshot.specs.declared.snapshot.AppendLineError.{AppendLineError}
pub use Rattle.serf_window.specs.Laws.{SlotLaws}
pub use Rattle.serf_window.specs.Queries.{same_id}
pub use Rattle.serf_window.specs.Recall.{Recalled, recalled, recalled_by, recalled_one}
pub use Rattle.serf_window.specs.Texts.{event_of, same_texts}
pub use Rattle.serf_window.specs.Window.{EachAtMost, SlotOf, TimedEntry, count_at, entries_of, largest_time, held_at, held_count, slot_of}
pub use Rattle.serf_window.specs.Window.{slots_of, was_entered}
pub use Rattle.serf_agent.specs.Calls.{Call, Ends, MayEnd, AppendsLine, Replaces, Step, answers, ended, planned, will}
pub use Rattle.serf_agent.specs.Config.{is_sound, max_text_bytes}
pub use Rattle.serf_agent.specs.Events.{admission, drawn, event_entered, event_out, event_packet, fire, fire_error, fired_as, is_too_large}
pub use Rattle.serf_agent.specs.Events.{received_as, texts_len, written_event}
pub use Rattle.serf_agent.specs.DeliveredQuery.{DeliveredQuery}
pub use Rattle.serf_agent.specs.Ideal.{IdealAgent, Past, Track, with_fired_queries, with_config, with_snapshot}
pub use Rattle.serf_agent.specs.Keeping.{opened_clock, taken_back}
pub use Rattle.serf_agent.specs.Kept.{HasMet, IsFull, IsMet, KeepsSettings, TellsNoneAbove, stood_after}
pub use Rattle.serf_agent.specs.KeptLines.{AreWritable, held_from, held_in, kept_lines, lines_written}
pub use Rattle.serf_agent.specs.KeptLives.{IsDurable, IsMessageWritable, MayGoOn, StartsWithDurable}
pub use Rattle.serf_agent.specs.KeptRestart.{HasKept, events_reached, queries_reached}
pub use Rattle.serf_agent.specs.KeptTexts.{IsWritable, event_entry, kept_events, kept_queries, line_of_event, query_entry, whatever, within_reach}
pub use Rattle.serf_agent.specs.Lives.{Asks, Closes, Compacts, Fires, Gets, HasFlushed, Hears, Opens, Saves, Takes, events_out, fired_entries}
pub use Rattle.serf_agent.specs.Queries.{ack_flag, ack_if_passed, ack_ignore_reason, ack_packet, all_pass, answer_ignore_reason, fired_query_at}
pub use Rattle.serf_agent.specs.Queries.{close_due, counted, counts_where, deadline_of, fire_query, flags_of, handed_if_passed, handed_query}
pub use Rattle.serf_agent.specs.Queries.{has_acked, has_flag, has_responded, is_ack, is_due, is_full, is_no_timeout, is_too_large_query}
pub use Rattle.serf_agent.specs.Queries.{no_broadcast_flag, opened_query, query_admission, query_opened, query_at, query_entered, query_error}
pub use Rattle.serf_agent.specs.Queries.{query_fired_as, query_received_as, respond_error, response_ignore_reason, response_packet}
pub use Rattle.serf_agent.specs.Queries.{response_received_as, response_received_at, written_query, with_fired_query_at}
pub use Rattle.serf_agent.specs.Receive.{receive, receive_read}
pub use Rattle.serf_agent.specs.Restart.{HasPast, IsInText, restarted_by, unopened}
pub use Rattle.serf_agent.specs.Said.{OpensOn, SaysQueries}
pub use Rattle.serf_agent.specs.Sound.{IsOpenQuerySound, IsSound}
pub use Rattle.serf_agent.specs.States.{compact, events_of, events_of_slot, handed_by, hear, heard_by, joined, merge_refusal, receive_one, save}
pub use Rattle.serf_agent.specs.States.{send_state, slot_sent, state_of, written_min_line, written_lines}
pub use Rattle.serf_agent.specs.Taking.{IsOpenAt, TakesAt, TakesOrFull, TakingLaws}
pub use Rattle.serf_agent.specs.Written.{MayAppendLine, appended_with, text_with, will_append_line, will_replace_with}
pub use Rattle.serf_agent.specs.TrackOf.{TrackOf, asked_query, event_track, got_query, query_track}
pub use Rattle.serf_agent.specs.Tracks.{of_life, track_reason, was_ever_entered}
pub use Rattle.serf_agent.specs.View.{view_of}
pub use Rattle.serf_agent.specs.declared.config.Config.{Config}
pub use Rattle.serf_agent.specs.declared.lists.Response.{Response}
pub use Rattle.serf_agent.specs.declared.open_query.OpenQuery.{OpenQuery}
pub use Rattle.serf_agent.specs.declared.outcome.EventOut.{EventOut}
pub use Rattle.serf_agent.specs.declared.outcome.FireError.{FireError}
pub use Rattle.serf_agent.specs.declared.outcome.Fired.{Fired}
pub use Rattle.serf_agent.specs.declared.outcome.FiredQuery.{FiredQuery}
pub use Rattle.serf_agent.specs.declared.outcome.MergeError.{MergeError}
pub use Rattle.serf_agent.specs.declared.outcome.Outcome.{Outcome}
pub use Rattle.serf_agent.specs.declared.outcome.Outcome.TheVariants.{Event}
pub use Rattle.serf_agent.specs.declared.outcome.PushPullError.{PushPullError}
pub use Rattle.serf_agent.specs.declared.outcome.QueryError.{QueryError}
pub use Rattle.serf_agent.specs.declared.outcome.QueryParams.{QueryParams}
pub use Rattle.serf_agent.specs.declared.outcome.Reason.{Reason}
pub use Rattle.serf_agent.specs.declared.outcome.Reason.TheVariants.{AckNotRequested, AckTwice, BelowMinimum, Closed, OtherId, Oversize, ResponseTwice}
pub use Rattle.serf_agent.specs.declared.outcome.Reason.TheVariants.{Seen, TimeFull, TooOld}
pub use Rattle.serf_agent.specs.declared.outcome.ReceiveError.{ReceiveError}
pub use Rattle.serf_agent.specs.declared.outcome.RespondError.{RespondError}
pub use Rattle.serf_model.specs.Alone.{AgentCall, Alone, IsAlone, Shows, alone, call_by, calls_in, calls_on, of_one_packet}
pub use Rattle.serf_model.specs.AnswerPromises.{AckedOnce, AnswersMade, CountedInTime, CountedOnce, CountedSent, HoldsCounted, HoldsSent, IsAwaited}
pub use Rattle.serf_model.specs.AnswerPromises.{IsDelivered, IsMade, IsSentTo, OpenQueriesHold, OpenQueriesSent, OwnQuery, RepliedOnce, acked}
pub use Rattle.serf_model.specs.AnswerPromises.{acked_by, answer_brought, answers_in, as_fired, counted_at, counted_by, injected, is_counted}
pub use Rattle.serf_model.specs.AnswerPromises.{life_of, own_queries, own_query, query_answered, replied, replied_by, reply_deadline, response_held}
pub use Rattle.serf_model.specs.AnswerPromises.{to_time}
pub use Rattle.serf_model.specs.Below.{Below}
pub use Rattle.serf_model.specs.Bounds.{AreEventsBounded, AreWindowsBounded, AtMostOfOneTime, EventsBounded, IsBounded, QueriesBounded}
pub use Rattle.serf_model.specs.Bounds.{WindowsBounded, events_of_life, is_restarted, lived_on, present_life, queries_of_life, reopens}
pub use Rattle.serf_model.specs.Cluster.{Applied, Cluster, Done, IdealNode, Merged, Run, Stepped, after, applied, apply, called, closes, compacts}
pub use Rattle.serf_model.specs.Cluster.{delivers, does_nothing, event_line, fire_gives, first_node, handed_line, injects, line_of}
pub use Rattle.serf_model.specs.Cluster.{merge_refusal_of, merges_as, merges_events, merges_given, merges_heard, merges_on, append_line_gives}
pub use Rattle.serf_model.specs.Cluster.{numbers_from, on_agent, only, opened_first, plan_with, query_gives, receive_gives, reopened, responds}
pub use Rattle.serf_model.specs.Cluster.{responds_as, restarts, run_of, saves, sends_state, start, state_gives, step, text_after, trace_of}
pub use Rattle.serf_model.specs.Cluster.{with_handed, with_plan}
pub use Rattle.serf_model.specs.HandOuts.{HandsOutEntered, HandsOutGiven, IsHandedOf, MessagesFired, NewIsHanded, OnlyToActor, events_given}
pub use Rattle.serf_model.specs.HandOuts.{message_at, message_entered, message_fired, messages_fired, new_in, query_message, says_new}
pub use Rattle.serf_model.specs.Kept.{KeepsPromises}
pub use Rattle.serf_model.specs.NotMissed.{IsToCome, KeptOf, QueriesKept, Showing, clock_given, clock_shown, clock_then, clock_told, event_clock_of}
pub use Rattle.serf_model.specs.NotMissed.{events_shown, hears_of, hears_query, is_stopped, min_by_tail, min_written, min_written_by, queries_shown}
pub use Rattle.serf_model.specs.NotMissed.{queries_tailed_by, query_clock_given, query_clock_of, query_clock_shown, query_clock_then}
pub use Rattle.serf_model.specs.NotMissed.{query_clock_told, query_min_written, query_tails_to, state_clock}
pub use Rattle.serf_model.specs.Promises.{CarriesOnlyFired, CarriesOnlyFiredOrTailed, Held, HeldOrTailed, Later, Once, OnlyFired, OnlyFiredOrTailed}
pub use Rattle.serf_model.specs.Promises.{QueryFired, QueryHandedOnce, QueryLater, QueryOnce, SeenWasHanded, SeenWasHandedOrTailed, WasFired}
pub use Rattle.serf_model.specs.Promises.{WasFiredOrTailed}
pub use Rattle.serf_model.specs.Queried.{QueryOnlyFired, WasQueried, queried_by, queries_fired, queries_injected}
pub use Rattle.serf_model.specs.Ready.{AreRepresentable, IsConsistent, IsRepresentable}
pub use Rattle.serf_model.specs.Runs.{AreConfigs, HasShortQueries, NoneBadIsSound}
pub use Rattle.serf_model.specs.Sizes.{HasSizes, IsSized}
pub use Rattle.serf_model.specs.Tails.{BringsTold, BringsToldBy, CanTell, CanTellAct, NoneKeeps, actor_keeps, keeps, tail_events, tailed_by}
pub use Rattle.serf_model.specs.Tails.{tailed_in, tails_to}
pub use Rattle.serf_model.specs.Trace.{AtEach, Turn, actor_of, entered_by, event_in, events_brought, events_in_packet, events_to, fired_at}
pub use Rattle.serf_model.specs.Trace.{fired_by, given_by, handed_in, injected_in, injects_of, is_agent, packet_given, queried_in, queries_at}
pub use Rattle.serf_model.specs.Trace.{queries_to, query_brought, query_given, query_packets, sent_in, turns_by, turns_from, turns_of}
pub use Rattle.serf_model.specs.declared.action.Act.{Act}
pub use Rattle.serf_model.specs.declared.action.Action.{Action}
pub use Rattle.serf_model.specs.declared.action.Action.TheVariants.{Inject, Of}
pub use Rattle.serf_model.specs.declared.line.Answer.{Answer}
pub use Rattle.serf_model.specs.declared.line.EventLine.{EventLine}
pub use Rattle.serf_model.specs.declared.line.QueryLine.{QueryLine}
pub use Rattle.serf_model.specs.declared.line.Line.{Line}
pub use Rattle.serf_model.specs.declared.line.Refusal.TheVariants.{NoAgent, SinkError}
pub use Rattle.serf_model.specs.declared.query.NewQuery.{NewQuery}
