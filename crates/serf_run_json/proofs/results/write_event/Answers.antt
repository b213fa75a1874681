use Rattle.serf_run_json.proofs.Names.{ap, codes, bytes_member, event_members, flag_member, number_member}
use Rattle.serf_run_json.proofs.MemberLaws.{written}
use Rattle.serf_run_json.proofs.ResultLaws.{event-in}
use Rattle.serf_run_json.proofs.results.write_event.Goals as goal

pub returns : goal.returns
unfolding event_members flag_member number_member
returns c =
    written c.write_object.result _ _ _ _ _ c.write_object.ensures
    (event-in _ _ _ _ _ _ _ _ _ _ _ c.agent_members.ensures (ap (λ n. number_member (codes "time") n) c.get.ensures.value)
    (ap (λ b. bytes_member (codes "name") b) c.as_slice.ensures) (ap (λ b. bytes_member (codes "payload") b) c.as_slice-2.ensures))
