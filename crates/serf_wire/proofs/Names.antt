-- The names that the proofs of this crate cite from std, from the crates below and from the definitions.
pub use Rattle.std.proofs.Common.{Bool, Err, IfErr, IfNone, IfOk, IfSome, IsOkAnd, IsSome, List, MatchResult, None, Ok, OnOk, Option, Result, Some}
pub use Rattle.std.proofs.Common.{[], ap, append-nil, append_assoc, arith, codes, cond, drop, eqb-true, false, get_or, is_some, length}
pub use Rattle.std.proofs.Common.{length-append, lit<, map, nat_le, nat_lt, negsuc, pos, refl, replicate, rules, set, slice_get, subst, suc, sym}
pub use Rattle.std.proofs.Common.{take, take-append-drop, true, unwrap_or, zero, ℕ, ℤ, ◌&&◌, ◌*◌, ◌++◌, ◌+◌, ◌-◌, ◌<◌, ◌==◌, ◌^◌, ◌||◌, ◌↔◌, ◌∙◌}
pub use Rattle.std.proofs.Common.{◌∷◌, ◌≡◌, ◌≢◌, ◌≤◌}
pub use Rattle.std.proofs.Math.Facts.{to_z-of_z}
pub use Rattle.std.proofs.lemmas.Bool.{leb-true}
pub use Rattle.std.proofs.lemmas.Bool.Decides.{nat_tests}
pub use Rattle.std.proofs.lemmas.List.{drop_more, get_or-set_other, get_or-set_same, length-map, length-replicate, length-set, length-take-le}
pub use Rattle.std.proofs.lemmas.List.{length_push, map-set, take_at, take_rest}
pub use Rattle.std.proofs.lemmas.List.Folds.{list_all-append, list_any-append, list_any_at}
pub use Rattle.std.proofs.lemmas.Option.{cond_some, same_Some, slice_get_past}
pub use Rattle.std.proofs.lemmas.Slice.Eq.{bytes_eq-Decides}
pub use Rattle.std.specs.List.{AllByRecursion, Contains, flat_map, list_all, list_any}
pub use Rattle.std.specs.Option.{option_copied, option_map}
pub use Rattle.std.specs.Prelude.{IsSomeAnd}
pub use Rattle.std.specs.Str.{bytes_eq}
pub use Rattle.byteorder.specs.Endian.{big_number}
pub use denote.Bor.{Bor}
pub use mir.Syntax.{w64}
pub use mir.Val.{SFits}
pub use Rattle.serf_lamport.specs.Clock.{max_clock}
pub use Rattle.serf_pack.specs.Canonical.{array_head, flag_bytes, int_bytes, map_head, raw_bytes, raw_head, uint_bytes}
pub use Rattle.serf_pack.specs.Packs.{IsHead, PackItems, PackPairs, Packs, item_count, pair_count}
pub use Rattle.serf_pack.specs.Reading.{Gives, whole_at}
unfoldable pub use Rattle.serf_pack.specs.Reading.{head_at}
pub use Rattle.serf_pack.specs.Table.{meaning_of, row_of}
pub use Rattle.serf_pack.specs.Tree.{Items, Pairs, Tree, array, flag, int, item, nil, no_items, no_pairs, pair, pairs, raw}
pub use Rattle.serf_pack.specs.View.{item_list, items_of, kind_of, pair_list, pairs_of, place_of, raw_of, tree_of}
pub use Rattle.serf_pack.specs.Walk.{PacksAlone, items_left, pairs_left}
pub use Rattle.serf_pack.specs.declared.error.PackError.{PackError}
pub use Rattle.serf_pack.specs.declared.head.Field.{Field}
pub use Rattle.serf_pack.specs.declared.head.Head.{Head}
pub use Rattle.serf_pack.specs.declared.head.Row.TheVariants.{Number, Whole}
pub use Rattle.serf_pack.specs.declared.view.Kind.TheVariants.{Array, Map}
pub use Rattle.serf_pack.specs.declared.view.View.{View}
pub use Rattle.serf_wire.specs.Below.{Below}
pub use Rattle.serf_wire.specs.Buffers.{slot_in_memory, slots_borrowed, unused_slot}
pub use Rattle.serf_wire.specs.Bytes.{AreBytes, EventsHaveBytes, HasBytes, SlotHasBytes}
pub use Rattle.serf_wire.specs.Canonical.{canonical_event, canonical_push_pull, canonical_query, canonical_response, entry, event_bytes, is_long}
pub use Rattle.serf_wire.specs.Canonical.{is_long_event, is_long_slot, list_bytes, slot_bytes, status_bytes, status_time_bytes, without_empty_slots}
pub use Rattle.serf_wire.specs.Canonical.{without_events}
unfoldable pub use Rattle.serf_wire.specs.Canonical.{canonical, has_long}
pub use Rattle.serf_wire.specs.Checked.{FindsChecked, checked_pairs, made_of, sound_pairs}
pub use Rattle.serf_wire.specs.Decoded.{decoded_after, event_in, read_value}
unfoldable pub use Rattle.serf_wire.specs.Decoded.{decoded}
pub use Rattle.serf_wire.specs.Fast.{AreItems, AreParts, Extends, IsEventSoFar, IsReadSoFar, IsStateSoFar, Item, Reads, ReadsIn, ReadsPair, Shows}
pub use Rattle.serf_wire.specs.Fast.{Spans, SpansStatusTime, StatusPart, found_event, found_state, status_part_bytes}
pub use Rattle.serf_wire.specs.Errors.{at, errors_after, field_errors, first, items_errors, key_errors, kind_errors, layout_errors, list_errors}
pub use Rattle.serf_wire.specs.Errors.{map_errors, message_errors, name_errors, number_errors, signed_errors, status_errors, status_time_errors}
pub use Rattle.serf_wire.specs.Errors.{text_errors, time_error, time_errors, truth_errors, unless, value_errors}
pub use Rattle.serf_wire.specs.Fields.{all, both, event_body, field, fits, has_key, in_front, is_key, is_text, list, map_of, number, raw_keys}
pub use Rattle.serf_wire.specs.Fields.{signed, slot, sole, status, status_time, text, time, truth, up_to, values_of}
pub use Rattle.serf_wire.specs.Found.{Finds, found_at, trees_found}
pub use Rattle.serf_wire.specs.Intent.{CanonicalIntents, HasIntent, Intent, IsFirstIntentError, IsFirstIntentErrorAfter, IsJoin, IsLeave, IsOther}
pub use Rattle.serf_wire.specs.Intent.{IsUnknown, Join, Leave, ReadsIntents, SpellsIntent, SpellsIntentAfter, canonical_join, canonical_leave}
pub use Rattle.serf_wire.specs.Intent.{intent_after, intent_in, intent_layout, intent_node, intent_of, intent_type_of, join, join_in, leave}
pub use Rattle.serf_wire.specs.Intent.{leave_in, other_message, read_intent_map}
unfoldable pub use Rattle.serf_wire.specs.Intent.{intent_read}
pub use Rattle.serf_wire.specs.Keys.{event_name, state_name}
pub use Rattle.serf_wire.specs.Laws.{ErrorsInOrder, InOrder, map_place}
pub use Rattle.serf_wire.specs.Layout.{class_of, field_at, field_in, fields_of, kind_in, layout_of}
pub use Rattle.serf_wire.specs.Lists.{event_of_view, events_found, events_left, slot_of_view, slots_left, status_left, status_of, texts_left}
pub use Rattle.serf_wire.specs.Lookups.{event_body_in, list_in, number_in, signed_in, slot_in, status_in, status_time_in, text_in, time_in}
pub use Rattle.serf_wire.specs.Lookups.{tree_or_nil, truth_in, value_of_key}
pub use Rattle.serf_wire.specs.Message.{Message, PushPull, Query, QueryResponse, UserEvent, event_said, foreign, message_of, push_pull}
pub use Rattle.serf_wire.specs.Message.{push_pull_said, query, query_of, query_response, response_said, user_event}
pub use Rattle.serf_wire.specs.Parts.{parts_bytes, push_pull_of, slot_content}
pub use Rattle.serf_wire.specs.Passes.{NamesNode, Passes, canonical_filter, is_among, names_node, value_names_node}
unfoldable pub use Rattle.serf_wire.specs.Passes.{passes_of}
pub use Rattle.serf_wire.specs.Ranges.{InRange, IsRangedPushPull, IsRangedQuery, IsRangedResponse, IsTimed}
pub use Rattle.serf_wire.specs.Reading.{message_in, push_pull_in, query_in, response_in, unless_error}
pub use Rattle.serf_wire.specs.Slots.{SlotContent, empty, held}
pub use Rattle.serf_wire.specs.Spells.{HasFields, HasRawKeys, IsFirstError, IsFirstErrorAfter, IsFirstMapError, IsPushPull, IsQuery}
pub use Rattle.serf_wire.specs.Spells.{IsQueryResponse, IsUserEvent, Spells, SpellsAfter, SpellsMap, in_map, no_map, no_value}
pub use Rattle.serf_wire.specs.declared.fast.event.EventFields.{EventFields}
pub use Rattle.serf_wire.specs.declared.fast.state.StateFields.{StateFields}
pub use Rattle.serf_wire.specs.declared.error.WireError.{WireError}
pub use Rattle.serf_wire.specs.declared.error.WireError.TheVariants.{BadKey, MaxTime, OutOfRange, Twice, WrongKind}
pub use Rattle.serf_wire.specs.declared.found.FoundFields.{FoundFields}
pub use Rattle.serf_wire.specs.declared.intent.IntentType.{IntentType}
pub use Rattle.serf_wire.specs.declared.layout.Class.{Class}
pub use Rattle.serf_wire.specs.declared.layout.Kind.{Kind}
pub use Rattle.serf_wire.specs.declared.layout.Layout.{Layout}
pub use Rattle.serf_wire.specs.declared.layout.MessageType.{MessageType}
pub use Rattle.serf_wire.specs.declared.borrowed_slots.BorrowedSlots.{BorrowedSlots}
pub use Rattle.serf_wire.specs.declared.lists.SlotViews.{SlotViews}
pub use Rattle.serf_wire.specs.declared.lists.StatusTime.{StatusTime}
pub use Rattle.serf_wire.specs.declared.lists.StatusTimes.{StatusTimes}
pub use Rattle.serf_wire.specs.declared.lists.Texts.{Texts}
pub use Rattle.serf_wire.specs.declared.message.PushPullParts.{PushPullParts}
pub use Rattle.serf_wire.specs.declared.texts.EventBody.{EventBody}
pub use Rattle.serf_wire.specs.declared.texts.TimeSlot.{TimeSlot}
