-- The names of std and of the definitions that the proofs of this crate cite.
pub use Rattle.std.proofs.Common.{Bool, List, [], arith, codes, cond, false, refl, take, true, ℕ, ◌++◌, ◌==◌, ◌∷◌, ◌≡◌}
pub use Rattle.std.proofs.lemmas.List.Folds.{list_all-append}
pub use Rattle.std.specs.List.{flat_map, list_all}
pub use Rattle.serf_timeline.specs.Escape.{address_byte, data_byte, data_text, html, html_byte, is_data, is_text}
unfoldable pub use Rattle.serf_timeline.specs.Still.{cell_text, head_cell, line_text}
