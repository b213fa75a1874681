use Rattle.serf_wire.proofs.Names.{Some, map-set, option_map, tree_of}
use Rattle.serf_wire.proofs.found.FoundFields.put.Goals as goal

pub returns : goal.returns
returns c = map-set (option_map tree_of) c.args.self.now.values c.args.place (Some c.args.value)
