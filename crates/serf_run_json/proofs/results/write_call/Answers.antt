use Rattle.serf_run_json.proofs.Names.{ap, codes, ◌∙◌, action_members, code_text, error_text, number_member, text_member}
use Rattle.serf_run_json.proofs.MemberLaws.{written}
use Rattle.serf_run_json.proofs.ResultLaws.{action-in}
use Rattle.serf_run_json.proofs.results.write_call.Goals as goal

pub returns : goal.returns
unfolding action_members number_member text_member
returns c =
    written c.write_joined.result _ _ _ _ _ c.write_joined.ensures
    (action-in _ _ _ _ _ _ _ _ _ _ _ _ _ _ _ _ _ _ _ _
    (ap (λ t. text_member (codes "call") t) c.call_word.ensures) c.actor_members.ensures c.call_members.ensures
    (ap (λ t. text_member (codes "answer") t) c.answer_and_code.ensures.word)
    (c.code_member-code.ensures ∙ ap code_text c.answer_and_code.ensures.code)
    c.number_members.ensures (c.error_member-error.ensures ∙ ap error_text c.in_ok-words.ensures))
