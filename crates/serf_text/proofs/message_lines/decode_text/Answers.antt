use Rattle.serf_text.proofs.Names.{rules, ◌≡◌, message_of}
use Rattle.serf_text.proofs.message_lines.decode_text.Goals as goal

-- a packet spells at most one message
pub returns-in-Ok-clause-text : goal.returns-in-Ok-clause-text
returns-in-Ok-clause-text c = λ m s.
    let e : message_of c.in-Ok.message ≡ m = c.in-Ok.ensures.only m s in
    rw (← e) (search rules)
