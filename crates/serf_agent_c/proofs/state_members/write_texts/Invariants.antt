use Rattle.serf_agent_c.proofs.Names.{◌++◌, ◌≡◌, flat_map, texts_left}
use Rattle.serf_agent_c.proofs.state_members.write_texts.Given as goal

-- what was written so far, followed by what is left
abbrev pub invariant-loop-text : goal.invariant-loop-text
invariant-loop-text l = l.out.items ++ flat_map (λ text. text) (texts_left l.text-iterator) ≡ l.fn.out.items ++ flat_map (λ text. text) (texts_left l.fn.texts)
