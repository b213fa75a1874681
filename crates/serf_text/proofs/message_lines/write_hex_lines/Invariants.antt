use Rattle.serf_text.proofs.Names.{◌++◌, ◌≡◌, flat_map, texts_left, hex_line}
use Rattle.serf_text.proofs.message_lines.write_hex_lines.Given as goal

-- the lines so far, followed by those of the rest
abbrev pub invariant-loop-text : goal.invariant-loop-text
invariant-loop-text l = l.out.items ++ flat_map (hex_line l.name) (texts_left l.text-iterator) ≡ l.fn.out.items ++ flat_map (hex_line l.name) (texts_left l.fn.texts)
