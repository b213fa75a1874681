-- The names that the proofs of this crate cite from std, from the crates below and from the definitions.
pub use Rattle.std.proofs.Common.{Bool, Err, FitsSigned, List, Ok, Result, [], ap, append-nil, append_assoc, arith, cond, drop, eqb, false, inl}
pub use Rattle.std.proofs.Common.{inr, is_ok, length, length-append, length-drop, nat_lt, negsuc, pos, refl, rules, slice_index_or, subst, suc, sym}
pub use Rattle.std.proofs.Common.{take, take-append-drop, true, zero, ℕ, ℤ, ◌*◌, ◌++◌, ◌+◌, ◌-ℤ◌, ◌-◌, ◌<◌, ◌^◌, ◌∙◌, ◌∷◌, ◌≡◌, ◌≤◌, ◌⊎◌}
pub use Rattle.std.proofs.lemmas.Bool.{cases_lt, eqb-true, le-ltb, lt-ltb, ltb-false, ltb-true}
pub use Rattle.std.proofs.lemmas.Bool.Decides.{nat_tests}
pub use Rattle.std.proofs.lemmas.Grind.{common_steps}
pub use Rattle.std.proofs.lemmas.Int.{ints}
pub use Rattle.std.proofs.lemmas.List.{drop_at, length-take, nil_from_length, take_all, take_at}
pub use Rattle.std.proofs.lemmas.Result.{err_from_is_err_and}
pub use Rattle.std.specs.Int.{w64}
pub use Rattle.std.specs.Prelude.{IfErr, IfOk, IsOkAnd}
pub use Rattle.byteorder.specs.Endian.{big_bytes, big_number, low_bytes, twos_complement}
pub use Rattle.byteorder.specs.Numbers.{big_from-append, big_number-reads_back, length-bytes_high_first}
pub use Rattle.serf_pack.specs.Breaks.{Breaks, IsMalformed, at_end, breaks, deep_array, deep_map, error_place, in_array, in_key, in_value}
pub use Rattle.serf_pack.specs.Breaks.{short_number, short_raw, trails, unsupported}
pub use Rattle.serf_pack.specs.Canonical.{array_head, flag_bytes, int_bytes, map_head, negative_bytes, nil_bytes, raw_bytes, raw_head, uint_bytes}
pub use Rattle.serf_pack.specs.Laws.{BeginsWith}
pub use Rattle.serf_pack.specs.Packs.{IsField, IsHead, PackItems, PackPairs, Packs, item_count, pair_count}
pub use Rattle.serf_pack.specs.Reading.{Gives, Reader, head_by, items_or_none, pairs_or_none, parts_by, place, rest_of, too_deep, value_or_nil}
pub use Rattle.serf_pack.specs.Reading.{◌>>=◌}
unfoldable pub use Rattle.serf_pack.specs.Reading.{head_at, items_at, pairs_at, value_at, whole_at}
pub use Rattle.serf_pack.specs.Table.{meaning_of, row_of}
pub use Rattle.serf_pack.specs.Tree.{Items, Pairs, Tree, array, flag, int, item, nil, no_items, no_pairs, pair, pairs, raw}
pub use Rattle.serf_pack.specs.View.{HasParts, item_list, pair_list, place_of, tree_by}
unfoldable pub use Rattle.serf_pack.specs.View.{tree_of}
pub use Rattle.serf_pack.specs.Walk.{PacksAlone}
unfoldable pub use Rattle.serf_pack.specs.Walk.{items_bytes, items_left, pairs_left}
pub use Rattle.serf_pack.specs.declared.error.PackError.{PackError}
pub use Rattle.serf_pack.specs.declared.error.PackError.TheVariants.{TooDeep, Trailing, Truncated}
pub use Rattle.serf_pack.specs.declared.head.Field.{Field}
pub use Rattle.serf_pack.specs.declared.head.Head.{Head}
pub use Rattle.serf_pack.specs.declared.head.Head.TheVariants.{Array, Flag, Int, Map, Nil, Raw}
pub use Rattle.serf_pack.specs.declared.head.Row.{Row}
pub use Rattle.serf_pack.specs.declared.head.Row.TheVariants.{Number, Unsupported, Whole}
