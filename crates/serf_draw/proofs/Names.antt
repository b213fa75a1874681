-- The names of std, of the crates below and of the definitions that the proofs of this crate cite.
pub use Rattle.std.proofs.Common.{Bool, Bor, List, None, OnOk, Option, Some, [], ap, append_assoc, arith, codes, cond, decimal, drop, false, filter}
pub use Rattle.std.proofs.Common.{length, map, nat_lt, refl, rules, subst, sym, take, take_all, true, zero-add, ℕ, ◌%◌, ◌*◌, ◌++◌, ◌+◌}
pub use Rattle.std.proofs.Common.{◌<◌, ◌==◌, ◌^◌, ◌||◌, ◌∙◌, ◌∷◌, ◌≡◌}
pub use Rattle.std.proofs.lemmas.Bool.Decides.{nat_tests}
pub use Rattle.std.proofs.lemmas.Fmt.{decimal_by_steps}
pub use Rattle.std.proofs.lemmas.Fn.{filter_same}
pub use Rattle.std.proofs.lemmas.Grind.{common_steps}
pub use Rattle.std.proofs.lemmas.List.{append-nil, flat_map_more, take_more}
pub use Rattle.std.proofs.lemmas.List.Folds.{list_all-append}
pub use Rattle.std.proofs.lemmas.List.FromFn.{map-range_with_len_more}
pub use Rattle.std.proofs.lemmas.List.Sums.{fold_push}
pub use Rattle.std.proofs.lemmas.Option.{slice_get-map}
pub use Rattle.std.proofs.lemmas.Result.{IfOk-weaker, on_ok_weaker}
pub use Rattle.std.specs.List.{flat_map, fold, list_all, range_with_len}
pub use Rattle.std.specs.Option.{option_map}
pub use Rattle.std.specs.Prelude.{if◌then◌else◌, slice_get}
pub use Rattle.serf_wire.specs.Lists.{events_left, slots_left}
pub use Rattle.serf_agent.specs.declared.config.Config.{Config}
pub use Rattle.serf_model.specs.Cluster.{Cluster, IdealNode, Run, after, run_of, start, step}
pub use Rattle.serf_model.specs.declared.action.Action.{Action}
pub use Rattle.serf_world.specs.View.{IsViewed, NodeState, TakesStep, WorldState, agent_at, node_of}
pub use Rattle.serf_draw.specs.DrawOptions.{has_name, is_chosen}
pub use Rattle.serf_draw.specs.Drawing.{Drawing, IsDrawn, blank, clock_in, drawing_of, drawn, lanes_from, min_in, lost_in, shown_lanes}
pub use Rattle.serf_draw.specs.Escape.{escape, escaped_byte, is_safe}
pub use Rattle.serf_draw.specs.Filled.{filled}
pub use Rattle.serf_draw.specs.Merges.{below_words, slots_times}
unfoldable pub use Rattle.serf_draw.specs.Merges.{nothing_of}
pub use Rattle.serf_draw.specs.Mermaid.{coded, coded_byte, is_coded, is_plain, is_printable, participant_line, row_line}
unfoldable pub use Rattle.serf_draw.specs.Mermaid.{mermaid_of}
pub use Rattle.serf_draw.specs.Rows.{IsFound}
pub use Rattle.serf_draw.specs.Svg.{arrow_text, cross_text, head_text, label_place, lanes_text, line_above, line_of, mark_text, names_text}
pub use Rattle.serf_draw.specs.Svg.{place_text, tone_word}
unfoldable pub use Rattle.serf_draw.specs.Svg.{between, class_text, dot_text, front_text, label_text, lane_line, number_text, placed_text, row_text}
unfoldable pub use Rattle.serf_draw.specs.Svg.{size_text, text_element, view_text}
pub use Rattle.serf_draw.specs.declared.options.DrawOptions.{DrawOptions}
pub use Rattle.serf_draw.specs.declared.picture.Lane.{Lane}
pub use Rattle.serf_draw.specs.declared.picture.Packet.{Packet}
pub use Rattle.serf_draw.specs.declared.picture.Row.{Row}
pub use Rattle.serf_draw.specs.declared.style.TheConstants.{ROW}
