-- The names of std, of the crates below and of the definitions that the proofs of this crate cite.
pub use Rattle.std.proofs.Common.{Bool, Err, IsSome, List, MatchBool, None, Ok, Option, Result, Some, [], ap, arith, cond, drop, false, get_or, inl}
pub use Rattle.std.proofs.Common.{inr, length, length-append, map, nat_le, nat_lt, negsuc, pos, refl, set, subst, suc, sym, take, take_all, true}
pub use Rattle.std.proofs.Common.{unwrap_or, zero, ℕ, ℤ, ◌++◌, ◌+◌, ◌-◌, ◌<◌, ◌^◌, ◌∙◌, ◌∷◌, ◌≡◌, ◌≢◌, ◌≤◌, ◌⊎◌}
pub use Rattle.std.proofs.Math.Seq.{drop-cons, take-suc}
pub use Rattle.std.proofs.lemmas.Bool.{ltb-false}
pub use Rattle.std.proofs.lemmas.Bool.Decides.{nat_tests}
pub use Rattle.std.proofs.lemmas.Grind.{common_steps}
pub use Rattle.std.proofs.lemmas.List.{append-nil, append_assoc, length-map, map-append, map-set, take-append-drop}
pub use Rattle.std.proofs.lemmas.List.Elements.{All-from_recursion, All-head, All-nil, All-push, All-set, All-tail, All-take, recursion_from_All}
pub use Rattle.std.proofs.lemmas.List.Folds.{position_or_len_push}
pub use Rattle.std.proofs.lemmas.List.Sums.{fold_push, prefix_len-le-length}
pub use Rattle.std.proofs.lemmas.Option.{get_or_from_slice_get, slice_get_within}
pub use Rattle.std.proofs.lemmas.Result.{on_ok_weaker}
pub use Rattle.std.specs.List.{AllByRecursion, fold, position_or_len}
pub use Rattle.std.specs.Option.{option_map, option_to_list}
pub use Rattle.std.specs.Prelude.{All, IfOk, not, slice_get, slice_index_or}
pub use Rattle.std.specs.Vec.Iter.{into_iter_items}
pub use Rattle.std.specs.declared.alloc.AllocError.{AllocError}
pub use mir.Syntax.{w64}
pub use mir.Val.{SFits}
pub use Rattle.serf_wire.specs.Decoded.{decoded}
pub use Rattle.serf_wire.specs.Fields.{fits}
pub use Rattle.serf_wire.specs.Message.{Message, PushPull, foreign, push_pull, query, query_response, user_event}
pub use Rattle.serf_wire.specs.declared.error.WireError.{WireError}
pub use Rattle.serf_wire.specs.declared.texts.EventBody.{EventBody}
pub use Rattle.serf_snapshot.specs.Clocks.{clock_line}
pub use Rattle.serf_snapshot.specs.Device.{Device, FailurePlan}
pub use Rattle.serf_snapshot.specs.KeptAppends.{kept_bytes}
pub use Rattle.serf_snapshot.specs.AppendsLine.{Failed, IsObservable, Kept, MayReplaceBy, MayWrite, SnapshotView, Writing, durable_left_by, last_line}
pub use Rattle.serf_snapshot.specs.AppendsLine.{will_store, will_write}
pub use Rattle.serf_snapshot.specs.declared.kind.ClockKind.{ClockKind}
pub use Rattle.serf_snapshot.specs.declared.snapshot.AppendLineError.{AppendLineError}
pub use Rattle.serf_snapshot.specs.declared.snapshot.AppendLineError.TheVariants.{OutOfMemory}
pub use Rattle.serf_window.specs.Texts.{event_of}
pub use Rattle.serf_window.specs.Window.{TimedEntry}
pub use Rattle.serf_agent.specs.Calls.{Call, Ends, MayEnd, AppendsLine, Replaces, Step, ended, planned, will}
pub use Rattle.serf_agent.specs.Config.{is_sound}
pub use Rattle.serf_agent.specs.Devices.{device_after}
pub use Rattle.serf_agent.specs.Events.{admission, fire, received_as}
pub use Rattle.serf_agent.specs.DeliveredQuery.{DeliveredQuery}
pub use Rattle.serf_agent.specs.Ideal.{IdealAgent}
pub use Rattle.serf_agent.specs.KeptTexts.{IsWritable}
pub use Rattle.serf_agent.specs.Queries.{fire_query, respond_error}
pub use Rattle.serf_agent.specs.Receive.{receive}
pub use Rattle.serf_agent.specs.Restart.{HasPast}
pub use Rattle.serf_agent.specs.Sound.{IsSound}
pub use Rattle.serf_agent.specs.States.{EndsAt, EndsHearing, Merges, Receives, ReceivesAfter, after_event, compact, delivered, events_of, error_in}
pub use Rattle.serf_agent.specs.States.{handed_by, hear, heard_by, joined, merge_refusal, receive_one, save, written_min_line}
pub use Rattle.serf_agent.specs.Steps.{Steps}
pub use Rattle.serf_agent.specs.Written.{MayAppendLine, text_with, will_append_line}
pub use Rattle.serf_agent.specs.View.{AgentState, ConcreteState, view_of}
pub use Rattle.serf_agent.specs.declared.config.Config.{Config}
pub use Rattle.serf_agent.specs.declared.open_query.OpenQuery.{OpenQuery}
pub use Rattle.serf_agent.specs.declared.outcome.EventOut.{EventOut}
pub use Rattle.serf_agent.specs.declared.outcome.FiredQuery.{FiredQuery}
pub use Rattle.serf_agent.specs.declared.outcome.MergeError.{MergeError}
pub use Rattle.serf_agent.specs.declared.outcome.Outcome.{Outcome}
pub use Rattle.serf_agent.specs.declared.outcome.QueryError.{QueryError}
pub use Rattle.serf_agent.specs.declared.outcome.QueryParams.{QueryParams}
pub use Rattle.serf_agent.specs.declared.outcome.Reason.{Reason}
pub use Rattle.serf_agent.specs.declared.outcome.ReceiveError.{ReceiveError}
pub use Rattle.serf_agent.specs.declared.outcome.ReceiveError.TheVariants.{SinkError}
pub use Rattle.serf_agent.specs.declared.outcome.RespondError.{RespondError}
pub use Rattle.serf_model.specs.AnswerPromises.{HoldsCounted, HoldsSent}
pub use Rattle.serf_model.specs.Cluster.{Applied, Cluster, Done, IdealNode, Merged, Run, after, apply, called, delivers, does_nothing, event_line}
pub use Rattle.serf_model.specs.Cluster.{fire_gives, fire_refusal, first_node, injects, line_only, merge_gives, merge_refusal_of, merges_as}
pub use Rattle.serf_model.specs.Cluster.{merges_events, merges_given, merges_heard, merges_on, merges_packet, append_line_gives, append_line_refusal}
pub use Rattle.serf_model.specs.Cluster.{numbers_from, on_agent, only, opened_first, query_gives, query_refusal, receive_gives, receive_refusal}
pub use Rattle.serf_model.specs.Cluster.{refused, reopened, responds, responds_as, run_of, start, step, text_after, trace_of, with_handed}
pub use Rattle.serf_model.specs.HandOuts.{events_given}
pub use Rattle.serf_model.specs.Kept.{KeepsPromises}
pub use Rattle.serf_model.specs.Merging.{MergesRepresentable}
pub use Rattle.serf_model.specs.Ready.{AreRepresentable, IsRepresentable}
pub use Rattle.serf_model.specs.Runs.{AreConfigs, IsRun, ShowsKept, ShowsRun, first_bad, first_twice, has_name, twice_after}
pub use Rattle.serf_model.specs.Sizes.{HasSizes}
pub use Rattle.serf_model.specs.Tails.{BringsTold, BringsToldBy, CanTell, CanTellAct}
pub use Rattle.serf_model.specs.Trace.{Turn, events_brought, events_in_packet, given_by, outcome_of, turns_of}
pub use Rattle.serf_model.specs.declared.action.Act.{Act}
pub use Rattle.serf_model.specs.declared.action.Action.{Action}
pub use Rattle.serf_model.specs.declared.error.RunError.{RunError}
pub use Rattle.serf_model.specs.declared.line.Answer.{Answer}
pub use Rattle.serf_model.specs.declared.line.Answer.TheVariants.{Compacted, Fired, Injected, Queried, Restarted, Saved}
pub use Rattle.serf_model.specs.declared.line.Line.{Line}
pub use Rattle.serf_model.specs.declared.line.Refusal.{Refusal}
pub use Rattle.serf_model.specs.declared.line.Refusal.TheVariants.{NoAgent, NoMessage, NoQuery}
pub use Rattle.serf_model.specs.declared.trace.Trace.{Trace}
pub use Rattle.serf_world.specs.Roster.{AreNames}
pub use Rattle.serf_world.specs.Turns.{Shows, TakesTurn, answer_after, answer_gives, merge_answer, slot_after, slot_gives}
pub use Rattle.serf_world.specs.View.{HasDone, IsAt, IsViewed, NodeState, StoresOpen, TakesStep, WorldState, node_of}
