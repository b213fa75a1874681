use Rattle.serf_wire.proofs.Packets.{result_spells, result_only, result_error, result_only_error}
use Rattle.serf_wire.proofs.packet.decode.Goals as goal

pub returns : goal.returns
returns c = record {
  spells = result_spells c.args.packet.now c.laws_below.ensures c.read_packet.result c.read_packet.ensures;
  only = result_only c.args.packet.now c.laws_below.ensures c.read_packet.result c.read_packet.ensures;
  error = result_error c.args.packet.now c.laws_below.ensures c.read_packet.result c.read_packet.ensures;
  only_error = result_only_error c.args.packet.now c.laws_below.ensures c.read_packet.result c.read_packet.ensures;
  exact = c.read_packet.ensures;
}
