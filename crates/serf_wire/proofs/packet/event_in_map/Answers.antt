use Rattle.serf_wire.specs.declared.layout.MessageType.TheVariants as types
use Rattle.serf_wire.proofs.Names.{ap, sym, event_in, event_said, user_event}
use Rattle.serf_wire.proofs.Packets.{spelled_map}
use Rattle.serf_wire.proofs.packet.event_in_map.Goals as goal

pub returns-in-Some : goal.returns-in-Some
returns-in-Some c = sym (ap event_in (spelled_map c.laws_below.ensures types.UserEvent c.args.bytes.now (user_event (event_said c.in-Some.event)) c.in-Some.ensures))
