-- The names from std, from the crates below and from the definitions that the proofs of this crate cite.
pub use Rattle.std.proofs.Common.{All, Bool, List, Ok, [], ap, append_assoc, arith, false, length, length-append, refl, rules, subst, sym, true, ℕ}
pub use Rattle.std.proofs.Common.{◌&&◌, ◌++◌, ◌+◌, ◌<◌, ◌^◌, ◌∙◌, ◌∷◌, ◌≡◌, ◌≤◌}
pub use Rattle.std.proofs.lemmas.Fmt.{length-decimal-le}
pub use Rattle.std.proofs.lemmas.List.{append-nil, flat_map_more}
pub use Rattle.std.proofs.lemmas.List.Concat.{flat_map-append}
pub use Rattle.std.proofs.lemmas.List.Elements.{All-append, All-nil, All-push}
pub use Rattle.std.proofs.lemmas.List.Sums.{fold-append}
pub use Rattle.std.proofs.lemmas.Result.{IfOk-weaker}
pub use Rattle.std.specs.List.{AllByRecursion, flat_map}
pub use Rattle.std.specs.Prelude.{None, Option, Some, codes, decimal, slice_get}
pub use Rattle.std.specs.Vec.Iter.{into_iter_items}
pub use Rattle.serf_agent.specs.declared.config.Config.{Config}
pub use Rattle.serf_model.specs.Cluster.{Cluster, IdealNode, Run, after, on_agent, run_of, start, step}
pub use Rattle.serf_model.specs.Common.{acts_commonly, is_common_line, settings_of}
pub use Rattle.serf_model.specs.Ready.{AreRepresentable}
pub use Rattle.serf_model.specs.Trace.{actor_of}
pub use Rattle.serf_model.specs.declared.action.Action.{Action}
pub use Rattle.serf_model.specs.declared.action.Action.TheVariants.{Inject, Of}
pub use Rattle.serf_model.specs.declared.line.Line.{Line}
pub use Rattle.serf_world.specs.View.{IsViewed, TakesStep, WorldState}
pub use Rattle.serf_schedule.specs.Comments.{CommentsAreSkipped, IsWord, NumbersAreWords}
pub use Rattle.serf_schedule.specs.Line.{Parsed}
pub use Rattle.serf_schedule.specs.Sayable.{IsSayable}
pub use Rattle.serf_schedule.specs.Schedule.{schedule_of}
pub use Rattle.serf_schedule.specs.ScheduleText.{action_text, agent_text, spaced}
pub use Rattle.serf_random.specs.Comment.{comment_words, rules_words, spread_of}
unfoldable pub use Rattle.serf_random.specs.Comment.{settings_words, comment_text, seed_words, size_words, spread_words}
pub use Rattle.serf_random.specs.Common.{IsCommon}
pub use Rattle.serf_random.specs.Cut.{AddsLine, AddsNothing, AreKept, GoesOn, IsAlong, MayAdd}
pub use Rattle.serf_random.specs.Draft.{AddsActions, AddsAgents, HasNumbers, IsShort}
pub use Rattle.serf_random.specs.Kind.{is_rounds, kind_name}
pub use Rattle.serf_random.specs.declared.random_options.RandomOptions.{RandomOptions}
pub use Rattle.serf_random.specs.declared.kind.Kind.{Kind}
