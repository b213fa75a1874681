use Rattle.serf_run_json.proofs.Names.{ap, codes, bytes_member, number_member, query_members}
use Rattle.serf_run_json.proofs.MemberLaws.{written}
use Rattle.serf_run_json.proofs.ResultLaws.{query-in}
use Rattle.serf_run_json.proofs.results.write_query.Goals as goal

pub returns : goal.returns
unfolding query_members number_member
returns c =
    written c.write_object.result _ _ _ _ _ c.write_object.ensures
    (query-in _ _ _ _ _ _ _ _ _ _ _ _ _ c.agent_members.ensures (ap (λ n. number_member (codes "time") n) c.get.ensures.value) (ap (λ n. number_member (codes "id") n) c.from.ensures)
    (ap (λ b. bytes_member (codes "name") b) c.as_slice.ensures) (ap (λ b. bytes_member (codes "payload") b) c.as_slice-2.ensures))
