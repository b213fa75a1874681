use Rattle.serf_text.proofs.Names.{rules, sym, ◌∙◌, ◌≡◌, flat_map, quoted_byte}
use Rattle.serf_text.proofs.PrintableLaws.{plain-text}
use Rattle.serf_text.proofs.quoted.write_quoted_bytes.Goals as goal

pub returns-then-are_plain : goal.returns-then-are_plain
returns-then-are_plain c =
    let whole : flat_map quoted_byte c.args.bytes.now ≡ c.args.bytes.now = plain-text c.args.bytes.now (sym c.are_plain.ensures ∙ c.if-are_plain.true) in
    rw whole (search rules)
