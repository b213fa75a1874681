use Rattle.serf_wire.proofs.Names.{List, ap, false, subst, sym, ℕ, ◌∙◌, ◌≡◌, is_long, Intent, SpellsIntent, intent_node, intent_of}
use Rattle.serf_wire.proofs.CanonicalIntents.{canonical_intents}
use Rattle.serf_wire.proofs.Intents.{spelled_read}
use Rattle.serf_wire.proofs.intent_write.encode_intent.Goals as goal

pub returns-clause-spells : goal.returns-clause-spells
returns-clause-spells c =
    let i : Intent = intent_of c.args.intent.now in
    let none : is_long (intent_node i) ≡ false = ap (λ (t : List ℕ). is_long t) (sym c.node_of.ensures) ∙ sym c.is_long_text.ensures ∙ c.if-is_long_text.false in
    subst (SpellsIntent i) (sym c.in_ok-write_intent.ensures.bytes) (canonical_intents c.laws_below.ensures i c.in_ok-write_intent.ensures.time none)

pub returns-clause-read_back : goal.returns-clause-read_back
returns-clause-read_back c =
    let i : Intent = intent_of c.args.intent.now in
    let none : is_long (intent_node i) ≡ false = ap (λ (t : List ℕ). is_long t) (sym c.node_of.ensures) ∙ sym c.is_long_text.ensures ∙ c.if-is_long_text.false in
    spelled_read c.laws_below.ensures _ i (subst (SpellsIntent i) (sym c.in_ok-write_intent.ensures.bytes) (canonical_intents c.laws_below.ensures i c.in_ok-write_intent.ensures.time none))
