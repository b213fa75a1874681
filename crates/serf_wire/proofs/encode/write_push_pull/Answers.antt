use Rattle.serf_wire.proofs.Names.{lit<, slots_borrowed}
use Rattle.serf_wire.proofs.Ranged.{status_ranged, slots_timed}
use Rattle.serf_wire.proofs.Mapped.{short_parts}
use Rattle.serf_wire.proofs.encode.write_push_pull.Goals as goal

pub write_status_field-requires : goal.write_status_field-requires
write_status_field-requires c =
    let s = short_parts c.args.parts.now c.requires in
    record { name = lit< tt; list = s.status; items = s.names }

pub write_texts_field-requires : goal.write_texts_field-requires
write_texts_field-requires c =
    let s = short_parts c.args.parts.now c.requires in
    record { name = lit< tt; list = s.left; items = s.each }

pub write_slots_field-requires : goal.write_slots_field-requires
write_slots_field-requires c =
    let s = short_parts c.args.parts.now c.requires in
    record { name = lit< tt; list = s.slots; items = s.contents }

pub returns-clause-ranged : goal.returns-clause-ranged
returns-clause-ranged c = record {
  member_clock = assumption;
  status = status_ranged c.args.parts.now.status.now c.in_ok-write_status_field.ensures.times;
  event_clock = assumption;
  slots = slots_timed (slots_borrowed c.args.parts.now.slots) c.in_ok-write_slots_field.ensures.times;
  query_clock = assumption;
}
