use Rattle.std.proofs.Common.{ap, decimal}
use Rattle.std.proofs.lemmas.Result.{on_ok_weaker}
use Rattle.serf_text.specs.Quoted.{quoted}
use Rattle.serf_run_json.specs.Members.{settings_of}
use Rattle.serf_run_json.specs.Readable.{agent_text}
unfoldable use Rattle.serf_run_json.specs.Readable.{event_line}
use Rattle.serf_run_json.proofs.ReadableLaws.{event-line}
use Rattle.serf_run_json.proofs.readable.write_event.Goals as goal

pub returns : goal.returns
unfolding event_line
returns c =
    let e = c.args.event.now in
    on_ok_weaker c.write_template.result
    (λ is. event-line c.args.out.now.items (decimal c.args.number) (agent_text (settings_of c.args.world.now) e.agent) (decimal c.get.result) (quoted c.as_slice.result.now) (quoted c.as_slice-2.result.now)
    (decimal e.time) (quoted e.name) (quoted e.payload) _ _ _
    (ap decimal c.get.ensures.value) (ap quoted c.as_slice.ensures) (ap quoted c.as_slice-2.ensures) c.in_ok-write_number.ensures c.in_ok-write_agent.ensures is)
    c.write_template.ensures
