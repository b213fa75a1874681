use Rattle.serf_schedule.proofs.TextNames.{◌≡◌, ◌++◌, codes, take, flat_map, hex_text}
use Rattle.serf_schedule.proofs.written_words.write_hex_words.Given as goal

abbrev pub invariant-loop-list : goal.invariant-loop-list
invariant-loop-list l = l.out.items ≡ l.fn.out.items ++ flat_map (λ list. codes " " ++ hex_text list) (take l.list-index l.lists)
