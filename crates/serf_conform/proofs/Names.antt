-- The names from std, from the crates below and from the definitions that the proofs of this crate cite.
pub use Rattle.std.proofs.Common.{Bool, List, None, Option, Some, [], ap, append_assoc, arith, drop, false, get_or, inl, inr, length, map, refl}
pub use Rattle.std.proofs.Common.{subst, suc, sym, take, true, zero, ℕ, ◌++◌, ◌+◌, ◌-◌, ◌<◌, ◌==◌, ◌∙◌, ◌∷◌, ◌≡◌, ◌≤◌}
pub use Rattle.std.proofs.KnownBytes.{Appends-nil, Appends-trans}
pub use Rattle.std.proofs.lemmas.Bool.{le-leb}
pub use Rattle.std.proofs.lemmas.Grind.{common_steps}
pub use Rattle.std.proofs.lemmas.List.{append-nil, length-append, length-drop}
pub use Rattle.std.proofs.lemmas.List.FromFn.{map-range_with_len_more}
pub use Rattle.std.proofs.lemmas.List.Sums.{fold-append, fold_push}
pub use Rattle.std.specs.Io.KnownBytes.{Appends, Consumes}
pub use Rattle.std.specs.List.{flat_map, range_with_len, slice_split}
pub use Rattle.std.specs.Prelude.{Err, IfOk, IfSome, Ok, Result, nat_lt, slice_get}
pub use Rattle.serf_wire.specs.Lists.{slots_left}
pub use Rattle.serf_text.specs.Gives.{Gives}
pub use Rattle.serf_text.specs.Words.{word_at, words_of}
pub use Rattle.serf_text.specs.declared.cause.Cause.{Cause}
pub use Rattle.serf_text.specs.declared.cause.Cause.TheVariants.{WordCount}
pub use Rattle.serf_agent.specs.declared.config.Config.{Config}
pub use Rattle.serf_model.specs.Alone.{AgentCall, Alone, IsAlone, alone, calls_on}
pub use Rattle.serf_model.specs.Cluster.{Applied, IdealNode, apply, first_node, run_of, step, trace_of, with_handed}
pub use Rattle.serf_model.specs.Ready.{AreRepresentable}
pub use Rattle.serf_model.specs.Trace.{Turn, outcome_of, turns_by, turns_from, turns_of}
pub use Rattle.serf_model.specs.declared.action.Act.{Act}
pub use Rattle.serf_model.specs.declared.action.Action.{Action}
pub use Rattle.serf_model.specs.declared.line.Line.{Line}
pub use Rattle.serf_world.specs.View.{IsViewed, TakesStep, WorldState, node_of}
pub use Rattle.serf_schedule.specs.Line.{Parsed}
pub use Rattle.serf_schedule.specs.Schedule.{parsed_of}
pub use Rattle.serf_conform.specs.CallText.{open_line}
pub use Rattle.serf_conform.specs.Input.{IsCutAlike}
pub use Rattle.serf_conform.specs.Solo.{DoesAs, IsSolo, solo_cluster}
pub use Rattle.serf_conform.specs.StateDump.{dump_after, dump_line}
pub use Rattle.serf_conform.specs.Meaning.{held_lines, lines_mean}
pub use Rattle.serf_conform.specs.Reply.{Said, after_lines, counted_words, kind_of}
unfoldable pub use Rattle.serf_conform.specs.Reply.{line_of}
pub use Rattle.serf_conform.specs.Rules.{is_serf}
pub use Rattle.serf_conform.specs.Session.{Concludes, IsAlong, IsFew, IsLeft, IsOutcome, IsTaken, OutcomeOf, RestIs, Session, Taken, after_ending}
pub use Rattle.serf_conform.specs.Session.{after_outcome, agrees, counted, due_of, dump_if, dumped_of, ending_of, last_of, made_after, no_calls}
pub use Rattle.serf_conform.specs.Session.{opened_of, outcome_for, session, session_from, taken_at, taken_of, then_dumped, turn_at, with_dumped}
pub use Rattle.serf_conform.specs.Session.{with_line}
pub use Rattle.serf_conform.specs.ExpectedReply.{event_said, opening}
pub use Rattle.serf_conform.specs.AgentCalls.{calls_by, injections_of, placed_from}
pub use Rattle.serf_conform.specs.Hunt.{AfterSweep, HoldsSeed, Hunt, Hunts, IsHunt, IsHunting}
pub use Rattle.serf_conform.specs.ReportMembers.{member_text}
pub use Rattle.serf_conform.specs.Report.{json_byte}
pub use Rattle.serf_conform.specs.Sublist.{IsSublist, deletions}
pub use Rattle.serf_conform.specs.Sweep.{IsLeftAfter, IsSweeping, Sweep, Sweeps, after_session, is_differing, no_counts, sum_of, sweep, sweep_from}
pub use Rattle.serf_conform.specs.Sweep.{with_verdict}
pub use Rattle.serf_conform.specs.Case.{turns_in}
pub use Rattle.serf_conform.specs.Without.{actions_of, left_in, own_from, without}
pub use Rattle.serf_conform.specs.Trials.{IsLeftBy, IsNarrowing, IsReached, IsShrunk, IsTried, NarrowsTo, ShrinksTo, Trials, after_trial, failed_by}
pub use Rattle.serf_conform.specs.Trials.{trial, trials}
pub use Rattle.serf_conform.specs.declared.asking.TurnOutcome.{TurnOutcome}
pub use Rattle.serf_conform.specs.declared.asking.Tally.{Tally}
pub use Rattle.serf_conform.specs.declared.dump.StateDump.{StateDump}
pub use Rattle.serf_conform.specs.declared.reply_line.ReplyLine.{ReplyLine}
pub use Rattle.serf_conform.specs.declared.reply_line.ReplyLine.TheVariants.{Sent}
pub use Rattle.serf_conform.specs.declared.verdict.ConformError.{ConformError}
pub use Rattle.serf_conform.specs.declared.verdict.Verdict.{Verdict}
pub use Rattle.serf_conform.specs.declared.verdict.End.{End}
pub use Rattle.serf_conform.specs.declared.agent_calls.Call.{Call}
pub use Rattle.serf_conform.specs.declared.missing.MissingCalls.{MissingCalls}
pub use Rattle.serf_conform.specs.declared.missing.OwnCall.{OwnCall}
pub use Rattle.serf_conform.specs.declared.sweep.Counts.{Counts}
pub use Rattle.serf_conform.specs.declared.sweep.Held.{Held}
pub use Rattle.serf_conform.specs.declared.sweep.Other.{Other}
pub use Rattle.serf_conform.specs.declared.shrinking.Narrowed.{Narrowed}
pub use Rattle.serf_conform.specs.declared.shrinking.Shrunk.{Shrunk}
pub use Rattle.serf_conform.specs.declared.trying.Outcome.{Outcome}
