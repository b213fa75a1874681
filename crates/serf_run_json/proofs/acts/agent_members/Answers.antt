use Rattle.serf_run_json.proofs.Names.{Some, None, [], ap, codes, ◌∙◌, ◌∷◌, bytes_member, joined, members_text, number_member}
use Rattle.serf_run_json.proofs.SettingLaws.{agent-known}
use Rattle.serf_run_json.proofs.acts.agent_members.Goals as goal

pub returns-in-Some : goal.returns-in-Some
unfolding members_text number_member
returns-in-Some c =
    ap (λ b. joined (number_member (codes "agent") c.args.number ∷ bytes_member (codes "agent_name") b ∷ [])) (c.as_slice-name.ensures ∙ ap (λ k. k.name) c.config.ensures.config)
    ∙ agent-known c.args.world.now c.args.number (Some c.in-Some.agent.now.concrete) c.in-Some.ensures

pub returns-in-None : goal.returns-in-None
unfolding members_text number_member
returns-in-None c = agent-known c.args.world.now c.args.number None c.in-None.ensures
