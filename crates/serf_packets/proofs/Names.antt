-- The names that the proofs of this crate cite: from std, from the crates below and from the definitions.
pub use Rattle.std.proofs.Common.{Bool, List, Ok, Some, [], ap, append_assoc, arith, codes, cond, decimal, drop, false, inl, inr, length, map}
pub use Rattle.std.proofs.Common.{negsuc, pos, refl, rules, subst, suc, sym, take, true, zero, ℕ, ℤ, ◌%◌, ◌++◌, ◌+◌, ◌-◌, ◌/◌, ◌<◌, ◌^◌, ◌∙◌, ◌∷◌}
pub use Rattle.std.proofs.Common.{◌≡◌, ◌≤◌}
pub use Rattle.std.proofs.lemmas.Bool.{and_parts, cases_lt}
pub use Rattle.std.proofs.lemmas.Fmt.{decimal_nonempty, digits_decimal, digits_value-decimal}
pub use Rattle.std.proofs.lemmas.Grind.{common_steps}
pub use Rattle.std.proofs.lemmas.List.{append-nil, length-map, map-append}
pub use Rattle.std.proofs.lemmas.List.Elements.{All-append, All-cons, All-nil}
pub use Rattle.std.proofs.lemmas.List.Folds.{flat_map-map}
pub use Rattle.std.proofs.lemmas.List.Splits.{slice_split_at, slice_split_none}
pub use Rattle.std.proofs.lemmas.Slice.Eq.{bytes_eq-Decides}
pub use Rattle.std.proofs.lemmas.Str.Parse.{IsNumeralModel, numerals_by_value}
pub use Rattle.std.specs.Char.{is_ascii_digit}
pub use Rattle.std.specs.Fmt.{signed_decimal}
pub use Rattle.std.specs.List.{All, AllByRecursion, flat_map, fold, list_all, list_any, slice_split}
pub use Rattle.std.specs.Prelude.{Err, None, Option, Result, nat_le, nat_lt, slice_index, unwrap_or, ◌&&◌, ◌==◌, ◌||◌}
pub use Rattle.std.specs.Str.{bytes_eq}
pub use Rattle.std.specs.Str.Parse.{digits_value}
pub use Rattle.hex.proofs.HexLemmas.{decode_of-encode_lower, length-encode_with}
pub use Rattle.hex.specs.Hex.{IsBytes, encode_lower, lower_digits}
unfoldable pub use Rattle.hex.specs.Hex.{encode_with}
pub use Rattle.serf_pack.specs.Canonical.{array_head, flag_bytes, int_bytes, map_head, raw_bytes, raw_head, uint_bytes}
pub use Rattle.serf_wire.specs.Canonical.{entry, event_bytes, is_long, is_long_slot, list_bytes, slot_bytes, status_bytes, status_time_bytes}
pub use Rattle.serf_wire.specs.Canonical.{without_empty_slots, without_events}
unfoldable pub use Rattle.serf_wire.specs.Canonical.{canonical, has_long}
pub use Rattle.serf_wire.specs.Decoded.{decoded}
pub use Rattle.serf_wire.specs.Fields.{fits}
pub use Rattle.serf_wire.specs.Laws.{CanonicalSpells, DecodesInRange, DecodesSpelled}
pub use Rattle.serf_wire.specs.Lists.{status_of}
pub use Rattle.serf_wire.specs.Message.{Message, PushPull, Query, QueryResponse, UserEvent, foreign, push_pull, query, query_response, user_event}
pub use Rattle.serf_wire.specs.Parts.{slot_content}
pub use Rattle.serf_wire.specs.Ranges.{InRange, IsRangedPushPull, IsRangedQuery, IsRangedResponse, IsTimed}
pub use Rattle.serf_wire.specs.Slots.{SlotContent, empty, held}
pub use Rattle.serf_wire.specs.declared.error.WireError.{WireError}
pub use Rattle.serf_wire.specs.declared.texts.EventBody.{EventBody}
pub use Rattle.serf_text.specs.MessageText.{message_text, slots_lines, text_or_error}
unfoldable pub use Rattle.serf_text.specs.MessageText.{answer_lines, asker_lines, buffer_lines, content_lines, event_line, handling_lines}
unfoldable pub use Rattle.serf_text.specs.MessageText.{identity_lines, limit_lines, member_lines, push_pull_head, query_head, relay_line}
unfoldable pub use Rattle.serf_text.specs.MessageText.{response_name, slot_lines, status_line}
pub use Rattle.serf_text.specs.TextParts.{flag_text}
unfoldable pub use Rattle.serf_text.specs.TextParts.{flag_line, hex_line, hex_text, number_line, signed_line, with_hex, with_number}
pub use Rattle.serf_text.specs.Words.{between, bytes_of, number_of}
pub use Rattle.serf_packets.specs.Encoded.{common, encoded_by, other_line, packet_meant, packet_of, said_by}
unfoldable pub use Rattle.serf_packets.specs.Encoded.{encoded}
pub use Rattle.serf_packets.specs.Meant.{after_row, below_zero, bytes_meant, event_of_row, member_meant, message_meant, number_up_to, on_last}
pub use Rattle.serf_packets.specs.Meant.{signed_meant, slots_meant, texts_at, with_event}
unfoldable pub use Rattle.serf_packets.specs.Meant.{event_meant, meant_by, push_pull_meant, query_meant, response_meant}
pub use Rattle.serf_packets.specs.Rows.{RowText, row_in, row_of_parts, row_seen, rows_in, rows_of, value_of}
pub use Rattle.serf_packets.specs.States.{member_held, members_of}
pub use Rattle.serf_packets.specs.Taken.{TextsAreTaken, TextsTellApart}
