use Rattle.serf_run_json.proofs.Names.{ap, codes, bytes_member, flag_member, number_member, settings_members}
use Rattle.serf_run_json.proofs.MemberLaws.{written}
use Rattle.serf_run_json.proofs.ResultLaws.{settings-in}
use Rattle.serf_run_json.proofs.states.write_settings.Goals as goal

pub returns : goal.returns
unfolding settings_members number_member flag_member
returns c =
    written c.write_object.result _ _ _ _ _ c.write_object.ensures
    (settings-in _ _ _ _ _ _ _ _ _ _ _ _ (ap (λ b. bytes_member (codes "agent_name") b) c.as_slice.ensures))
