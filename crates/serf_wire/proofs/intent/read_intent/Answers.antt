use Rattle.serf_wire.proofs.Intents.{result_spells, result_only, result_error, result_only_error, result_other}
use Rattle.serf_wire.proofs.intent.read_intent.Goals as goal

pub returns : goal.returns
returns c = record {
  spells = result_spells c.laws_below.ensures c.args.packet.now c.read_packet.result c.read_packet.ensures;
  only = result_only c.laws_below.ensures c.args.packet.now c.read_packet.result c.read_packet.ensures;
  error = result_error c.laws_below.ensures c.args.packet.now c.read_packet.result c.read_packet.ensures;
  only_error = result_only_error c.laws_below.ensures c.args.packet.now c.read_packet.result c.read_packet.ensures;
  other = result_other c.laws_below.ensures c.args.packet.now c.read_packet.result c.read_packet.ensures;
  exact = c.read_packet.ensures;
}
