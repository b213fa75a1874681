-- The names that the proofs of this crate cite from std, from the crates below and from the definitions.
pub use Rattle.std.proofs.Common.{Bool, Err, List, None, Ok, OnOk, Option, Result, Some, [], ap, append-nil, append_assoc, arith, drop}
pub use Rattle.std.proofs.Common.{codes, false, get_or, length, map, refl, rules, subst, suc, sym, take, true, zero, ℕ, ◌++◌, ◌+◌, ◌<◌, ◌∙◌}
pub use Rattle.std.proofs.Common.{◌∷◌, ◌≡◌}
pub use Rattle.std.proofs.Math.Numerals.{add-one}
pub use Rattle.std.proofs.Math.Seq.{drop-cons}
pub use Rattle.std.proofs.lemmas.Grind.{flat_map-append}
pub use Rattle.std.proofs.lemmas.Option.{get_or_from_slice_get, slice_get-map, slice_get_within}
pub use Rattle.std.proofs.lemmas.Result.{on_ok_weaker}
pub use Rattle.std.specs.List.{flat_map}
pub use Rattle.std.specs.Option.{option_copied, option_map}
pub use Rattle.std.specs.Prelude.{slice_get}
pub use Rattle.serf_agent.specs.View.{ConcreteState}
pub use Rattle.serf_agent.specs.declared.config.Config.{Config}
pub use Rattle.serf_json.specs.declared.member.Member.{Member}
pub use Rattle.serf_json.specs.Object.{member_text, object_text}
unfoldable pub use Rattle.serf_json.specs.Object.{members_text}
pub use Rattle.serf_json.specs.Json.{bytes_member}
pub use Rattle.serf_schedule.specs.Show.{packet_of}
pub use Rattle.serf_text.specs.MessageText.{text_or_error}
pub use Rattle.serf_wire.specs.Decoded.{decoded}
pub use Rattle.serf_world.specs.View.{NodeState, WorldState, agent_at}
pub use Rattle.serf_run_json.specs.Members.{joined, name_text, pair_text, settings_in, settings_of, triple_text}
unfoldable pub use Rattle.serf_run_json.specs.Members.{agent_text, flag_member, hex_member, number_member, text_member}
pub use Rattle.serf_run_json.specs.Results.{code_text, error_text, event_object, message_in, sent_object}
unfoldable pub use Rattle.serf_run_json.specs.Results.{action_members, event_members, query_members, sent_members}
pub use Rattle.serf_run_json.specs.Settings.{agents_text, settings_object}
unfoldable pub use Rattle.serf_run_json.specs.Settings.{settings_members}
pub use Rattle.std.specs.List.{fold}
pub use Rattle.std.proofs.lemmas.List.Sums.{fold-append}
pub use Rattle.std.specs.Prelude.{if◌then◌else◌, ◌==◌}
pub use Rattle.serf_explain.specs.Range.{is_shown}
pub use Rattle.serf_explain.specs.declared.range.Range.{Range}
pub use Rattle.serf_model.specs.Cluster.{Cluster, Run, after, run_of, start, step}
pub use Rattle.serf_model.specs.Trace.{actor_of}
pub use Rattle.serf_model.specs.declared.action.Action.{Action}
pub use Rattle.serf_model.specs.declared.line.Line.{Line}
pub use Rattle.serf_world.specs.View.{IsViewed, TakesStep, node_of}
pub use Rattle.serf_run_json.specs.Objects.{AddsExplanation, AddsObjects, Explanation, TellsFrom, TellsObjects, explanation_text, no_explanation, turn_text}
unfoldable pub use Rattle.serf_run_json.specs.Results.{results_text}
pub use Rattle.serf_text.specs.Lines.{lines_of}
pub use Rattle.serf_text.specs.Streams.{IsCauseBy, StopsAt}
pub use Rattle.serf_text.specs.declared.cause.Cause.{Cause}
pub use Rattle.serf_text.specs.declared.stream_error.StreamError.{StreamError}
pub use Rattle.serf_schedule.specs.ReportedInput.{ReportsInput}
pub use Rattle.serf_schedule.specs.Running.{HasStreamed, is_refused_by}
pub use Rattle.serf_schedule.specs.Schedule.{schedule_in}
pub use Rattle.serf_explain.specs.Range.{all_actions}
pub use Rattle.serf_explain.specs.Streamed.{IsHaltedBy}
pub use Rattle.serf_run_json.specs.Objects.{ReportsObjects}
pub use Rattle.serf_run_json.specs.Streamed.{IsObjectsHalted}
pub use Rattle.serf_run_json.specs.Teller.{HasObjects}
pub use Rattle.serf_run_json.specs.declared.teller.RunObjects.{RunObjects}
