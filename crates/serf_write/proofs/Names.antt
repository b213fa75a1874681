-- The names that the proofs of this crate cite: from std, from the crates below and from the definitions.
pub use Rattle.std.proofs.Common.{All, List, [], ap, arith, drop, length, map, rules, refl, subst, sym, take, true, ℕ, ◌++◌, ◌+◌, ◌∙◌, ◌∷◌, ◌≡◌}
pub use Rattle.std.proofs.Common.{◌≤◌}
pub use Rattle.std.proofs.lemmas.Grind.{common_steps}
pub use Rattle.std.proofs.lemmas.List.Elements.{All-push}
pub use Rattle.std.specs.Borrow.{Bor}
pub use Rattle.std.specs.List.{slice_split}
pub use Rattle.std.specs.Prelude.{◌==◌}
pub use Rattle.serf_agent.specs.Config.{is_sound}
pub use Rattle.serf_agent.specs.declared.config.Config.{Config}
pub use Rattle.serf_model.specs.declared.action.Action.{Action}
pub use Rattle.serf_world.specs.View.{WorldState}
pub use Rattle.serf_schedule.specs.Sayable.{IsSayable}
pub use Rattle.serf_write.specs.Filters.{names_from, pieces_from, pieces_of}
pub use Rattle.serf_write.specs.Lines.{settings_from}
pub use Rattle.serf_write.specs.Texts.{text_from, text_within}
pub use Rattle.serf_write.specs.Tokens.{tokens_from, tokens_of}
pub use Rattle.serf_write.specs.Queries.{options_from}
pub use Rattle.serf_write.specs.Running.{HasWorld}
pub use Rattle.serf_write.specs.Written.{Written, after_lines, written_of}
unfoldable pub use Rattle.serf_write.specs.Written.{sent_count}
