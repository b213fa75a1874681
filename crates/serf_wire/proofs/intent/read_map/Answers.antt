use Rattle.serf_wire.proofs.Names.{Err, Ok, ap, subst, ◌≡◌, whole_at, FindsChecked, checked_pairs, made_of, intent_in, intent_layout, intent_of}
use Rattle.serf_wire.proofs.CheckedMaps.{made_found}
use Rattle.serf_wire.proofs.intent.read_map.Goals as goal

pub returns-in-Ok : goal.returns-in-Ok
returns-in-Ok c =
    made_found (intent_layout c.args.intent) (intent_in c.args.intent) c.in-Ok.found (checked_pairs (intent_layout c.args.intent) (whole_at 8 c.args.bytes.now)) (intent_of c.intent_of_fields.result)
    (subst (λ l. FindsChecked l (Ok c.in-Ok.found) (checked_pairs l (whole_at 8 c.args.bytes.now))) c.layout_for.ensures c.in-Ok.ensures) c.intent_of_fields.ensures

pub returns-in-Err : goal.returns-in-Err
returns-in-Err c =
    ap (made_of (intent_in c.args.intent)) (subst (λ l. checked_pairs l (whole_at 8 c.args.bytes.now) ≡ Err c.in-Err.error) c.layout_for.ensures c.in-Err.ensures)
