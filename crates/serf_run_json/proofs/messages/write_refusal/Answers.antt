use Rattle.std.proofs.Common.{ap, codes, refl, ◌++◌, ◌∙◌}
use Rattle.std.proofs.lemmas.Result.{on_ok_weaker}
use Rattle.serf_text.specs.WireText.{wire_text}
use Rattle.serf_json.specs.Object.{object_text}
unfoldable use Rattle.serf_run_json.specs.Members.{hex_member, text_member}
use Rattle.serf_run_json.proofs.MessageLaws.{refused}
use Rattle.serf_run_json.proofs.messages.write_refusal.Goals as goal

pub returns : goal.returns
unfolding hex_member text_member
returns c =
    let text = c.deref.ensures.value ∙ c.in_ok-write_wire_error.ensures ∙ ap (λ t. t ++ wire_text c.args.error) c.new-words.ensures.items in
    on_ok_weaker c.write_object.result
    (λ is. is ∙ ap (λ t. c.args.out.now.items ++ object_text (codes "refused") t) (refused c.args.line c.args.packet.now (wire_text c.args.error) _ _ _
    c.line_member.ensures refl (ap (text_member (codes "error")) text)))
    c.write_object.ensures
