use Rattle.serf_snapshot.proofs.LengthLaws.{event_line-counted}
use Rattle.serf_snapshot.proofs.lengths.event_line_length.Goals as goal

pub returns : goal.returns
returns c =
    rw (← c.get.ensures.value) (event_line-counted c.get.result c.args.name.now c.args.payload.now c.hex_length.result c.hex_length-2.result c.saturating_add-texts.result c.digits_of.result c.saturating_add.result
    c.hex_length.ensures c.hex_length-2.ensures c.saturating_add-texts.ensures c.digits_of.ensures.exact c.saturating_add.ensures)
