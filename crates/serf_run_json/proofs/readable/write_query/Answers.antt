use Rattle.std.proofs.Common.{ap, decimal}
use Rattle.std.proofs.lemmas.Result.{on_ok_weaker}
use Rattle.serf_text.specs.Quoted.{quoted}
use Rattle.serf_run_json.specs.Members.{settings_of}
use Rattle.serf_run_json.specs.Readable.{agent_text}
unfoldable use Rattle.serf_run_json.specs.Readable.{query_line}
use Rattle.serf_run_json.proofs.ReadableLaws.{query-line}
use Rattle.serf_run_json.proofs.readable.write_query.Goals as goal

pub returns : goal.returns
unfolding query_line
returns c =
    let q = c.args.query.now in
    on_ok_weaker c.write_template.result
    (λ is. query-line c.args.out.now.items (decimal c.args.number) (agent_text (settings_of c.args.world.now) q.agent) (decimal q.index) (decimal c.get.result) (quoted c.as_slice.result.now) (quoted c.as_slice-2.result.now)
    (decimal q.time) (quoted q.name) (quoted q.payload) _ _ _
    (ap decimal c.get.ensures.value) (ap quoted c.as_slice.ensures) (ap quoted c.as_slice-2.ensures) c.in_ok-write_number.ensures c.in_ok-write_agent.ensures is)
    c.write_template.ensures
