-- The names of std, of the crates below and of the definitions that the proofs of this crate cite.
pub use Rattle.std.proofs.Common.{Bool, Err, List, None, Ok, Option, Result, Some, [], ap, append-nil, append_assoc, arith, cond, drop, false}
pub use Rattle.std.proofs.Common.{filter, get_or, inl, inr, length, map, min, nat_le, not, refl, rules, slice_index_or, subst, suc, sym, take, true}
pub use Rattle.std.proofs.Common.{zero, ℕ, ◌&&◌, ◌++◌, ◌+◌, ◌-◌, ◌<◌, ◌==◌, ◌^◌, ◌||◌, ◌∙◌, ◌∷◌, ◌≡◌, ◌≢◌, ◌≤◌, ◌⊎◌}
pub use Rattle.std.proofs.cell.Inside.{one}
pub use Rattle.std.proofs.lemmas.Bool.{and_from, and_parts, cases_lt, eq-eqb, eqb-true, leb-true, ltb-false, ltb-true, true≢false}
pub use Rattle.std.proofs.lemmas.Bool.Decides.{nat_tests}
pub use Rattle.std.proofs.lemmas.Cmp.{ranked}
pub use Rattle.std.proofs.lemmas.Fn.{filter_same}
pub use Rattle.std.proofs.lemmas.List.{drop-append-le, drop_min, map-append, take_more}
pub use Rattle.std.proofs.lemmas.List.Elements.{All-append, All-cons, All-contains, All-filter, All-head, All-nil, All-tail, All-weaker}
pub use Rattle.std.proofs.lemmas.List.Elements.{Contains-append_cases, Contains-append_left, Contains-append_right, filter_passes}
pub use Rattle.std.proofs.lemmas.List.Kept.{AllPairs-cons, AllPairs-filter}
pub use Rattle.std.proofs.lemmas.List.Sorted.{IsNonDecreasingBy-from_default, answers_always}
pub use Rattle.std.proofs.lemmas.Option.{get_or_from_slice_get}
pub use Rattle.std.proofs.lemmas.Slice.Eq.{bytes_eq-Decides}
pub use Rattle.std.proofs.raw_atomic.Walks.{proved, proved_at}
pub use Rattle.std.specs.Borrow.{Bor}
pub use Rattle.std.specs.Box.Ownership.{box_owns}
pub use Rattle.std.specs.List.{AllByRecursion, flat_map, fold, insert, position, position_or_len, remove}
pub use Rattle.std.specs.List.Sorted.{IsBinarySearchResult, IsNonDecreasingBy, IsSearchInRange}
pub use Rattle.std.specs.Option.{option_map}
pub use Rattle.std.specs.Ordering.{nat_cmp, ordering_index}
pub use Rattle.std.specs.Prelude.{All, AllPairs, Contains, IsSome, IsSomeAnd, MatchBool, max, nat_lt, slice_get}
pub use Rattle.std.specs.Result.{result_ok}
pub use Rattle.std_alloc.proofs.boxed.Box.from_raw.Met.{met}
pub use Rattle.std_heap.proofs.GlobalAllocator.TheImpl.Met.{passed}
pub use base.Fml.{flft, fsep, ftrue}
pub use base.Fraction.{full_share}
pub use base.Logic.{SProp, emp, ent, ex, ex_e, ex_i, id⊢, mono_r, sep, via}
pub use contract.BorrowLft.{◌⊑◌}
pub use contract.Lifetimes.{toks}
pub use contract.Monad.{fact, fact_i, fm→mono}
pub use contract.Running.{Running, tables}
pub use denote.Exit.{no}
pub use denote.Laws.{Is, shows}
pub use denote.Param.{arg, layout, param}
pub use denote.Param.Glue.{signature, spent}
pub use denote.Param.Laws.{Laws, arg_laws}
pub use denote.Param.NoDrop.{glues}
pub use denote.Plain.{Nothing}
pub use denote.RattleType.{RattleType}
pub use denote.RawPtr.{Ptr, RawPtr, null_ptr, ptr_val, rawptr_Lawful, rawptr_pure}
pub use denote.Signature.{plain}
pub use denote.Steps.{heard, nothing, only, peeks}
pub use denote.Struct.Owning.{shape}
pub use denote.Struct.Struct.{Struct, Struct-Lawful, Struct-Makes}
pub use denote.Triple.Call.{calls_at, calls_at_last}
pub use denote.Triple.Carry.{grown, spared}
pub use denote.Triple.Clauses.{Lasts, lasts}
pub use denote.Triple.Entry.{alive}
pub use denote.Triple.Spec.{Meets, triple_of}
pub use denote.Triple.Table.{framed, run_framed, widened}
pub use denote.Triple.Walked.{Goes-dropped, Stays, ends_at, says, stay_dropped, walk_of}
pub use lib.Dec.{T}
pub use mir.Syntax.{Callee, Dict, dnil, impl, method, no_args, tcons, tnil, ty_ptr}
pub use mir.Val.{Val, WT, has_ty, vcons, vnil, vstruct}
pub use prog.Model.{Model}
pub use prog.Wired.{Wired}
pub use prog.Wp.{WpFn}
pub use seplogic.Ra.Ura.{Ura}
pub use types.ByLocal.{alloc_all, env, free_all, get, get_in, lands_as, lands_last, look_at, pass_all, sets}
pub use types.Kit.{ !, at_ret, await, done, feq_i, feq_l, fjoin, fsplit, join, later, move, pick, prop, qed, raw, regoal, rewrite, show, some, split}
pub use types.Kit.{suffices, use0, use1, ‵, ◌$◌, ◌∵◌, ◌⊛◌}
pub use types.Logic.{Logic, sem}
pub use types.Part.{agg, sub, whole}
pub use types.Run.{and_then, blocks, enter, exec, first, fld, lit, no_more, of_opd, returns, stop}
pub use Rattle.serf_lamport.specs.Clock.{observed}
pub use Rattle.serf_wire.specs.Bytes.{AreBytes, EventsHaveBytes, HasBytes, SlotHasBytes}
pub use Rattle.serf_wire.specs.Decoded.{decoded}
pub use Rattle.serf_wire.specs.Laws.{DecodesBytes, DecodesInRange}
pub use Rattle.serf_wire.specs.Lists.{status_left, status_of, texts_left}
pub use Rattle.serf_wire.specs.Message.{Message, PushPull, QueryResponse, foreign, push_pull, query, query_response, user_event}
pub use Rattle.serf_wire.specs.Ranges.{IsRangedPushPull, IsTimed}
pub use Rattle.serf_wire.specs.Slots.{SlotContent, empty, held}
pub use Rattle.serf_wire.specs.declared.error.WireError.{WireError}
pub use Rattle.serf_wire.specs.declared.texts.EventBody.{EventBody}
pub use Rattle.serf_snapshot.specs.Clocks.{clock_line, is_whole, last_clock, seal_line}
pub use Rattle.serf_snapshot.specs.Device.{Device, FailurePlan, Observable, appended, flushed, fresh_device, replace_decremented, replaced}
pub use Rattle.serf_snapshot.specs.EventLines.{min_in, min_line}
pub use Rattle.serf_snapshot.specs.KeptAppends.{kept_bytes}
pub use Rattle.serf_snapshot.specs.AppendsLine.{Failed, IsKept, Kept, MayReplaceBy, MayWrite, SnapshotView, Writing, last_line, append_line_decremented}
pub use Rattle.serf_snapshot.specs.AppendsLine.{opened, opened_device, stopped, written}
pub use Rattle.serf_snapshot.specs.OtherLines.{DiffersInOtherLines}
pub use Rattle.serf_snapshot.specs.TimedEvent.{TimedEvent}
pub use Rattle.serf_snapshot.specs.declared.kept.EntryFilter.{EntryFilter}
pub use Rattle.serf_snapshot.specs.declared.kind.ClockKind.{ClockKind}
pub use Rattle.serf_snapshot.specs.declared.snapshot.AppendLineError.{AppendLineError}
pub use Rattle.serf_snapshot.specs.declared.snapshot.AppendLineError.TheVariants.{OutOfMemory}
pub use Rattle.serf_window.specs.Texts.{event_of, same_texts}
pub use Rattle.serf_window.specs.Window.{TimedEntry}
pub use Rattle.serf_agent.specs.Calls.{AsksSink, Call, Ends, MayEnd, AppendsLine, Replaces, answers, ended}
pub use Rattle.serf_agent.specs.Config.{is_sound, max_text_bytes}
pub use Rattle.serf_agent.specs.Devices.{LeavesDevice, device_after}
pub use Rattle.serf_agent.specs.Events.{admission, fire, fire_error, fired_as, received_as, texts_len}
pub use Rattle.serf_agent.specs.DeliveredQuery.{DeliveredQuery}
pub use Rattle.serf_agent.specs.Ideal.{IdealAgent, Past, Track, with_config, with_snapshot}
pub use Rattle.serf_agent.specs.Kept.{HasMet, IsFull, IsMet, KeepsSettings, TellsNoneAbove, stood_after}
pub use Rattle.serf_agent.specs.KeptLives.{BeginsDurable, IsDurable, IsMessageWritable, IsActWritable, MayGoOn, MayKeep, StartsWithDurable, StaysDurable}
pub use Rattle.serf_agent.specs.KeptRestart.{HasKept}
pub use Rattle.serf_agent.specs.KeptTexts.{AreKept, IsWritable, kept_events, kept_queries, whatever}
pub use Rattle.serf_agent.specs.Lives.{Act, Asks, Closes, Compacts, Fires, Gets, Hears, MayAct, Opens, Saves, Takes, after, fired_query_entries}
pub use Rattle.serf_agent.specs.Lives.{event_entry, events_out, fired_entries, first_life, got_entries, queries_out, query_entries}
pub use Rattle.serf_agent.specs.MemberClock.{clock_state}
pub use Rattle.serf_agent.specs.Once.{AsksAfter, BeginsSound, FiresAfter, IsOnce, OpensAfter, StaysOnce, StepsSound}
pub use Rattle.serf_agent.specs.Queries.{answer_ignore_reason, fired_query_at, counts_where, fire_query, is_ack, is_full, query_admission, query_at}
pub use Rattle.serf_agent.specs.Queries.{query_error, query_fired_as, query_received_as, respond_error, response_packet, response_received_as}
pub use Rattle.serf_agent.specs.Queries.{response_received_at}
pub use Rattle.serf_agent.specs.Receive.{receive, receive_message, receive_read}
pub use Rattle.serf_agent.specs.Restart.{HasPast, restarted}
pub use Rattle.serf_agent.specs.Sound.{IsSound}
pub use Rattle.serf_agent.specs.States.{EndsAt, EndsHearing, Merges, Receives, ReceivesAfter, after_event, at_time, compact, delivered, events_of}
pub use Rattle.serf_agent.specs.States.{events_of_slot, handed_by, hear, heard_by, joined, merge_refusal, receive_one, save, written_min_line, written_lines}
pub use Rattle.serf_agent.specs.Steps.{Steps}
pub use Rattle.serf_agent.specs.Taking.{IsOpenAt, TakesOrFull, TakingLaws, allowed}
pub use Rattle.serf_agent.specs.Unkept.{HasSaid, IsSaid}
pub use Rattle.serf_agent.specs.Written.{appended_with, text_with}
pub use Rattle.serf_agent.specs.TrackOf.{BringsQuery, TrackOf, event_track, got_query, query_track}
pub use Rattle.serf_agent.specs.View.{AgentState, ConcreteState, view_of}
pub use Rattle.serf_agent.specs.declared.config.Config.{Config}
pub use Rattle.serf_agent.specs.declared.open_query.OpenQuery.{OpenQuery}
pub use Rattle.serf_agent.specs.declared.outcome.EventOut.{EventOut}
pub use Rattle.serf_agent.specs.declared.outcome.FireError.{FireError}
pub use Rattle.serf_agent.specs.declared.outcome.Fired.{Fired}
pub use Rattle.serf_agent.specs.declared.outcome.FiredQuery.{FiredQuery}
pub use Rattle.serf_agent.specs.declared.outcome.MergeError.{MergeError}
pub use Rattle.serf_agent.specs.declared.outcome.OpenError.{OpenError}
pub use Rattle.serf_agent.specs.declared.outcome.OpenError.TheVariants.{BadConfig, SinkError}
pub use Rattle.serf_agent.specs.declared.outcome.Outcome.{Outcome}
pub use Rattle.serf_agent.specs.declared.outcome.PushPullError.{PushPullError}
pub use Rattle.serf_agent.specs.declared.outcome.QueryError.{QueryError}
pub use Rattle.serf_agent.specs.declared.outcome.QueryParams.{QueryParams}
pub use Rattle.serf_agent.specs.declared.outcome.Reason.{Reason}
pub use Rattle.serf_agent.specs.declared.outcome.ReceiveError.{ReceiveError}
pub use Rattle.serf_agent.specs.declared.outcome.Reply.{Reply}
pub use Rattle.serf_agent.specs.declared.outcome.RespondError.{RespondError}
pub use Rattle.serf_agent_c.specs.Asking.{left_of, params_of, replied_as, reply_of}
pub use Rattle.serf_agent_c.specs.Bursts.{BurstCall, Bursts, Extends, IsFlushed, Leaves, Stands, answers_of, call_result_of, line_of, lines_of, no_failure}
pub use Rattle.serf_agent_c.specs.Bursts.{outcome, outcome_of}
pub use Rattle.serf_agent_c.specs.Calls.{Waits, answer_code}
pub use Rattle.serf_agent_c.specs.Codes.{fire_code, append_line_code, number_of, open_code, query_code, receive_code}
pub use Rattle.serf_agent_c.specs.ResultParts.{events_in, handed_in, unsettled_in}
pub use Rattle.serf_agent_c.specs.HostLaws.{CodesDiffer, Follows, GivesExactly, HostSteps, Went, WentInBurst, goes, lost, made, rests, waits}
pub use Rattle.serf_agent_c.specs.Hosts.{Add, BeginsWith, BringsEvent, Burst, Called, Calls, CloseDue, Compact, Deed, Dies, Export, Fire, Forget}
pub use Rattle.serf_agent_c.specs.Hosts.{GivesLater, GivesLaterInBursts, GivesNew, GivesOnce, GivesQueriesLater, GivesQueriesLaterInBursts, GivesQueriesOnce, HoldsEvent, Host, IsPassed, KeepsTo}
pub use Rattle.serf_agent_c.specs.Hosts.{LocalState, MayDo, MayHost, Merge, Met, MissesNone, Next, Observe, Offers, Query, Receive, Respond, Save, Says}
pub use Rattle.serf_agent_c.specs.Hosts.{Showing, TakesNewQueries, Writes, all_met, clock_after, clock_heard, did, enters, event_kind, first_host}
pub use Rattle.serf_agent_c.specs.Hosts.{first_met, gives, hosted, met_after, met_at, met_in, queries_by, query_kind, replacing, shown, text_at}
pub use Rattle.serf_agent_c.specs.Members.{named}
pub use Rattle.serf_agent_c.specs.Merging.{error_of, merged_code}
pub use Rattle.serf_agent_c.specs.Numbered.{Numbered, left_without, waiting_at, with_handed}
pub use Rattle.serf_agent_c.specs.Opening.{EndsAs, GoesOn, IsFresh, config_of}
pub use Rattle.serf_agent_c.specs.Reads.{GivesNothing, kind_of}
pub use Rattle.serf_agent_c.specs.Sessions.{Appends, KeepsBurst, is_ready, settled}
pub use Rattle.serf_agent_c.specs.Texts.{bytes_in, is_written, pending_bytes, text_of}
pub use Rattle.serf_agent_c.specs.Written.{left_head, status_head}
pub use Rattle.serf_agent_c.specs.declared.burst_outcome.BurstOutcome.{BurstOutcome}
pub use Rattle.serf_agent_c.specs.declared.burst_outcome.BurstOutcome.TheVariants.{QueryFired, Received}
pub use Rattle.serf_agent_c.specs.declared.code.Code.{Code}
pub use Rattle.serf_agent_c.specs.declared.call_result.CallResult.{CallResult}
pub use Rattle.serf_agent_c.specs.declared.heads.Params.{Params}
pub use Rattle.serf_agent_c.specs.declared.heads.Settings.{Settings}
pub use Rattle.serf_agent_c.specs.declared.session.Session.{Session}
