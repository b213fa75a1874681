use Rattle.serf_wire.specs.declared.layout.MessageType.TheVariants as types
use Rattle.serf_wire.proofs.Names.{event_said, user_event}
use Rattle.serf_wire.proofs.Packets.{spelled_map}
use Rattle.serf_wire.proofs.packet.read_event_map.Goals as goal

pub returns-in-Some : goal.returns-in-Some
returns-in-Some c = spelled_map c.laws_below.ensures types.UserEvent c.args.bytes.now (user_event (event_said c.in-Some.event)) c.in-Some.ensures
