use Rattle.serf_run_json.proofs.Names.{Err, List, ap, codes, sym, ℕ, ◌∙◌, decoded, hex_member, message_in, number_member, sent_members, text_member, text_or_error}
use Rattle.serf_run_json.proofs.MemberLaws.{written}
use Rattle.serf_run_json.proofs.ResultLaws.{sent-refused, sent-told}
use Rattle.serf_run_json.proofs.results.write_sent.Goals as goal

pub returns-in-Ok : goal.returns-in-Ok
unfolding sent_members hex_member number_member text_member
returns-in-Ok c =
    let bytes_are = c.packet_bytes-bytes.ensures in
    written c.write_joined.result _ _ _ _ _ c.write_joined.ensures
    (sent-told _ _ _ _ _ _ (ap (λ b. hex_member (codes "packet") b) bytes_are)
    (ap (λ t. text_member (codes "message") t) c.deref.ensures.value
    ∙ sym (ap message_in (ap (λ (b : List ℕ). text_or_error (decoded b)) (sym bytes_are) ∙ c.in-Ok.ensures.exact))))

pub returns-in-Err-Refused : goal.returns-in-Err-Refused
unfolding sent_members hex_member number_member text_member
returns-in-Err-Refused c =
    let bytes_are = c.packet_bytes-bytes.ensures in
    let refused = c.in-Err-Refused.ensures.exact_only c.in-Err-Refused.field-0-0 (ap (λ e. Err e) c.in-Err-Refused.field-0-is) in
    written c.write_object.result _ _ _ _ _ c.write_object.ensures
    (sent-refused _ _ _ _ _ (ap (λ b. hex_member (codes "packet") b) bytes_are)
    (sym (ap (λ r. message_in (text_or_error r)) (ap (λ (b : List ℕ). decoded b) (sym bytes_are) ∙ refused))))
