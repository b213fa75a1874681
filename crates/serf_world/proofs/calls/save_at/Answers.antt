use Rattle.serf_world.proofs.Names.{OutOfMemory, save, Saved}
use Rattle.serf_world.proofs.TurnLaws.{noted}
use Rattle.serf_world.proofs.calls.save_at.Goals as goal

pub returns : goal.returns
returns c = noted save Saved OutOfMemory (record { concrete = c.node.inside.agent.concrete; handed = c.node.inside.handed.items }) c.args.node.now c.save_member_clock-noted.result c.node.inside.agent.device c.save_member_clock-noted.new.self c.in_ok-line.line c.node.view_is c.save_member_clock-noted.ensures.step c.in_ok-line.ensures
