use Rattle.serf_wire.proofs.Names.{Err, Ok, ap, subst, ◌∙◌, ◌≡◌, whole_at, FindsChecked, checked_pairs, made_of, layout_of, message_of, message_in}
use Rattle.serf_wire.proofs.CheckedMaps.{made_found}
use Rattle.serf_wire.proofs.Packets.{read_by_checked}
use Rattle.serf_wire.proofs.packet.read_checked.Goals as goal

pub returns-in-Ok : goal.returns-in-Ok
returns-in-Ok c =
    read_by_checked c.args.message (whole_at 8 c.args.bytes.now)
    ∙ made_found (layout_of c.args.message) (message_in c.args.message) c.in-Ok.found (checked_pairs (layout_of c.args.message) (whole_at 8 c.args.bytes.now)) (message_of c.message_of_fields.result)
    (subst (λ l. FindsChecked l (Ok c.in-Ok.found) (checked_pairs l (whole_at 8 c.args.bytes.now))) c.layout_for.ensures c.in-Ok.ensures) c.message_of_fields.ensures

pub returns-in-Err : goal.returns-in-Err
returns-in-Err c =
    read_by_checked c.args.message (whole_at 8 c.args.bytes.now)
    ∙ ap (made_of (message_in c.args.message)) (subst (λ l. checked_pairs l (whole_at 8 c.args.bytes.now) ≡ Err c.in-Err.error) c.layout_for.ensures c.in-Err.ensures)
