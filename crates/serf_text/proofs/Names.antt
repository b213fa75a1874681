-- The names that the proofs of this crate cite from std, from the crates below, and from the definitions.
pub use Rattle.std.proofs.Common.{Bool, List, None, Option, Some, [], ap, append-nil, append_assoc, ap₂, arith, cond, drop, false, get_or, inl, inr}
pub use Rattle.std.proofs.Common.{length, length-append, map, min, nat_lt, not, refl, rules, subst, suc, sym, take, true, vec_len, zero, ℕ, ◌&&◌, ◌*◌}
pub use Rattle.std.proofs.Common.{◌++◌, ◌+◌, ◌-◌, ◌<◌, ◌==◌, ◌∙◌, ◌∷◌, ◌≡◌, ◌≤◌, ◌||◌}
pub use Rattle.std.proofs.KnownBytes.{Appends-trans, Consumes-kept, Consumes-trans}
pub use Rattle.std.proofs.Math.Numerals.{add-one}
pub use Rattle.std.proofs.Math.Seq.{take-add}
pub use Rattle.std.proofs.lemmas.Bool.{cond-false, cond-true, false_from_ne_true, le-ltb, lt-ltb}
pub use Rattle.std.proofs.lemmas.Grind.{common_steps}
pub use Rattle.std.proofs.lemmas.Int.Digits.{digits_value_more}
pub use Rattle.std.proofs.lemmas.List.{take-append-drop, take-append-le}
pub use Rattle.std.proofs.lemmas.List.Elements.{All-from_get_or}
pub use Rattle.std.proofs.lemmas.List.Folds.{list_all_at, list_all_more}
pub use Rattle.std.proofs.lemmas.List.Quantifiers.{position-Some}
pub use Rattle.std.proofs.lemmas.List.Splits.{slice_split_first, slice_split_none}
pub use Rattle.std.proofs.lemmas.List.Sums.{position_or_len_is}
pub use Rattle.std.proofs.lemmas.Result.{IfErr-weaker, on_ok_weaker}
pub use Rattle.std.specs.Char.{digit_value, is_ascii_digit}
pub use Rattle.std.specs.Io.KnownBytes.{Appends, Consumes}
pub use Rattle.std.specs.List.{All, flat_map, list_all, onto_first, position_or_len, slice_split}
pub use Rattle.std.specs.Prelude.{Err, IfErr, IfNone, Ok, OnErr, OnOk, Result, position}
pub use Rattle.std.specs.Str.Parse.{digits_value, digits_value_after}
pub use Rattle.memchr.specs.Find.{IsFirstByte, is_byte}
pub use Rattle.serf_wire.specs.Lists.{events_left, slot_of_view, slots_left, status_left, texts_left}
pub use Rattle.serf_wire.specs.Message.{message_of}
pub use Rattle.serf_wire.specs.Slots.{SlotContent, empty, held}
pub use Rattle.serf_text.specs.Io.{AppendsFront}
pub use Rattle.serf_text.specs.Lines.{joined, lines_of, number_after, text_after}
pub use Rattle.serf_text.specs.MessageText.{event_line, slots_lines, status_line}
unfoldable pub use Rattle.serf_text.specs.MessageText.{slot_lines}
pub use Rattle.serf_text.specs.Quoted.{is_plain, is_printable, masked, masked_byte}
unfoldable pub use Rattle.serf_text.specs.Quoted.{byte_text, quoted_byte}
pub use Rattle.serf_text.specs.Streams.{HasRead, IsDone, IsHoldError, IsLeft, IsLineError, IsStopped, Reached, StopsAt, TellsAll, WaitsFor}
pub use Rattle.serf_text.specs.Streams.{answers_error, answers_told}
pub use Rattle.serf_text.specs.Template.{filled}
pub use Rattle.serf_text.specs.TextParts.{hex_line}
unfoldable pub use Rattle.serf_text.specs.TextParts.{with_number}
pub use Rattle.serf_text.specs.Words.{number_of, words_of}
pub use Rattle.serf_text.specs.declared.input.TheConstants.{MAX_SCHEDULE_BYTES}
pub use Rattle.serf_text.specs.declared.stream_error.StreamError.{StreamError}
pub use Rattle.serf_text.specs.declared.stream_error.StreamError.TheVariants.{BadLine, LineTooLong, OutOfMemory, ReadError, WriteError}
