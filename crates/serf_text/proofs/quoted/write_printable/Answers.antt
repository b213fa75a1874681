use Rattle.serf_text.proofs.Names.{rules, sym, ◌∙◌, ◌≡◌, flat_map, byte_text}
use Rattle.serf_text.proofs.PrintableLaws.{printable-text}
use Rattle.serf_text.proofs.quoted.write_printable.Goals as goal

pub returns-then-are_printable : goal.returns-then-are_printable
returns-then-are_printable c =
    let whole : flat_map byte_text c.args.text.now ≡ c.args.text.now = printable-text c.args.text.now (sym c.are_printable.ensures ∙ c.if-are_printable.true) in
    rw whole (search rules)
