use Rattle.serf_world.proofs.Names.{OutOfMemory, compact, Compacted}
use Rattle.serf_world.proofs.TurnLaws.{noted}
use Rattle.serf_world.proofs.calls.compact_at.Goals as goal

pub returns : goal.returns
returns c = noted compact Compacted OutOfMemory (record { concrete = c.node.inside.agent.concrete; handed = c.node.inside.handed.items }) c.args.node.now c.compact-noted.result c.node.inside.agent.device c.compact-noted.new.self c.in_ok-line.line c.node.view_is c.compact-noted.ensures.step c.in_ok-line.ensures
