use Rattle.serf_wire.specs.declared.layout.MessageType.TheVariants as types
use Rattle.serf_wire.proofs.Names.{push_pull, push_pull_said}
use Rattle.serf_wire.proofs.Packets.{spelled_map}
use Rattle.serf_wire.proofs.packet.read_state_map.Goals as goal

pub returns-in-Some : goal.returns-in-Some
returns-in-Some c = spelled_map c.laws_below.ensures types.PushPull c.args.bytes.now (push_pull (push_pull_said c.in-Some.state)) c.in-Some.ensures
