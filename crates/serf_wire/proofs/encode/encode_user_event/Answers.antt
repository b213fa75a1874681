use Rattle.serf_wire.proofs.Names.{subst, sym, ◌∙◌, UserEvent, event_said, user_event, Spells}
use Rattle.serf_wire.proofs.Short.{short_event_texts}
use Rattle.serf_wire.proofs.CanonicalPackets.{canonical_spells}
use Rattle.serf_wire.proofs.encode.encode_user_event.Goals as goal

pub returns-clause-spells : goal.returns-clause-spells
returns-clause-spells c =
    let e : UserEvent = event_said c.args.event.now in
    let none = short_event_texts e (sym c.is_long_text.ensures ∙ c.if-is_long_text.false) (sym c.is_long_text-else-is_long_text.ensures ∙ c.if-is_long_text-2.false) in
    subst (Spells (user_event e)) (sym c.in_ok-write_user_event.ensures.bytes) (canonical_spells c.laws_below.ensures (user_event e) c.in_ok-write_user_event.ensures.time none)
