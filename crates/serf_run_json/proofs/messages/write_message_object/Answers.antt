use Rattle.std.proofs.Common.{ap, codes, length, refl, rules, ◌++◌, ◌∙◌, ◌≡◌}
use Rattle.std.proofs.lemmas.Result.{on_ok_weaker}
use Rattle.serf_wire.specs.Message.{message_of}
use Rattle.serf_text.specs.MessageText.{message_text}
use Rattle.serf_json.specs.Object.{members_text, object_text}
unfoldable use Rattle.serf_run_json.specs.Members.{hex_member, text_member}
use Rattle.serf_run_json.proofs.MessageLaws.{four-of, said}
use Rattle.serf_run_json.proofs.messages.write_message_object.Goals as goal

pub returns : goal.returns
unfolding hex_member text_member
returns c =
    let long : length c.message_members.result ≡ 4 = search rules in
    let four = ap members_text (four-of c.message_members.result _ long) ∙ c.message_members.ensures in
    let text = c.deref.ensures.value ∙ c.in_ok-write_message.ensures ∙ ap (λ t. t ++ message_text (message_of c.args.message.now)) c.new-text.ensures.items in
    on_ok_weaker c.write_joined.result
    (λ is. is ∙ ap (λ t. c.args.out.now.items ++ object_text (codes "message") t) (said c.args.line c.args.packet.now (message_of c.args.message.now) _ _ _ _ _ _ _ _ _
    c.line_member.ensures refl (ap (text_member (codes "type")) c.type_word.ensures) four (ap (text_member (codes "text")) text) c.own_members.ensures))
    c.write_joined.ensures
